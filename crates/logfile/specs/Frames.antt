-- Where the events of a log file begin and end.
use Rattle.std.specs.Prelude.{ℕ, ◌+◌, ◌-◌, ◌*◌, min, cond, List, length, Some, None, Ok, Err, Option, Result, ◌==◌, nat_lt, slice_index}
use Rattle.logfile.specs.declared.frame.Frame.{Frame}
use Rattle.logfile.specs.declared.frame.Short.{Short}

-- the event's length, low byte first
abbrev pub length_at : List ℕ → ℕ
length_at xs = slice_index xs 0 + slice_index xs 1 * 256 + slice_index xs 2 * 65536 + slice_index xs 3 * 16777216

-- how much of an event of n bytes is kept
abbrev pub kept : ℕ → ℕ
kept n = min n 262228

-- the event that the bytes begin with, or how many bytes it needs at least
abbrev pub framed : List ℕ → Result Frame Short
framed xs =
    cond (nat_lt (length xs) 4) (Err (record { wanted = 4 }))
    (cond (nat_lt (length xs) (4 + kept (length_at xs))) (Err (record { wanted = 4 + kept (length_at xs) }))
    (Ok (record { kept = kept (length_at xs); passed = length_at xs - kept (length_at xs) })))

-- where the file ends after these bytes: how many of them are an event's
abbrev pub cut_at : List ℕ → Option ℕ
cut_at xs = cond (length xs == 0) None (Some (length xs - 4))

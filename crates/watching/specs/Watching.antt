-- What is promised of a monitor that is kept in these words.
use Rattle.std.specs.Prelude.{◌≡◌, ℕ, List}
use Rattle.model.specs.Monitor.{Limits as Meant, Event, malformed, new_state, state}
use Rattle.model.specs.Order.{all_entries}
use Rattle.model.specs.Program.{GoodLimits}
use Rattle.logfile.specs.declared.limits.Limits.{Limits}
use Rattle.memory.specs.declared.limits.Limits as memory
use Rattle.memory.specs.Keeping.{Kept}
use Rattle.memory.specs.Ranges.{Agrees}
use Rattle.wire.specs.declared.parts.Answer.{Answer}
use Rattle.watch.specs.Promise.{Answers}

-- a first line's limits, as those of a monitor's memory
abbrev pub as_kept : Limits → memory.Limits
as_kept x = record { verifiers = x.verifiers; places = x.places; epochs = x.epochs }

-- they keep the monitor as it is at first, under a first line's limits and with this key
pub record Opens (x : Limits) (key : List ℕ) (m : List ℕ) : Type 0 where
  pub kept : (l : Meant) → Agrees (as_kept x) l → l.secret ≡ key → Kept l m (new_state l)

-- an event that the log's end cuts short after n bytes is answered, and nothing is written
pub record TakesCut (m : List ℕ) (n : ℕ) (m' : List ℕ) (r : Answer) : Type 0 where
  pub same : m' ≡ m
  pub answers : (l : Meant) (es : List Event) → GoodLimits all_entries l → Kept l m (state l es) → Answers l es (malformed n) m' r

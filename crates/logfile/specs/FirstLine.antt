-- The first line of a log file: the text of limits, and what a line is read as.
use Rattle.std.specs.Prelude.{ℕ, ◌+◌, ◌-◌, ◌*◌, min, Bool, cond, ◌&&◌, ◌||◌, List, [], ◌∷◌, ◌++◌, Some, None, Ok, Err, decimal, Option, Result, ◌==◌, nat_le, nat_lt}
use Rattle.logfile.specs.declared.limits.Limits.{Limits}
use Rattle.logfile.specs.declared.limits.LineRefusal.{LineRefusal}
use Rattle.logfile.specs.declared.limits.LineRefusal.TheVariants.{NotThreeNumbers, Verifiers, Places, Epochs}

-- three numbers as digits, a blank after the first and the second and a line's end after the third
abbrev pub line_text : ℕ → ℕ → ℕ → List ℕ
line_text v p e = decimal v ++ (32 ∷ (decimal p ++ (32 ∷ (decimal e ++ (10 ∷ [])))))

abbrev pub is_digit : ℕ → Bool
is_digit c = nat_le 48 c && nat_le c 57

-- n with the digits in front put behind its own, and what stands after them; 65535 is read for all above it
unfoldable pub digits_on : ℕ → List ℕ → ℕ × List ℕ
digits_on n [] = (n, [])
digits_on n (c ∷ cs) = cond (is_digit c) (digits_on (min (n * 10 + (c - 48)) 65535) cs) (n, c ∷ cs)

-- 0, or digits that do not begin with 0, and what stands after them
unfoldable pub number_at : List ℕ → Option (ℕ × List ℕ)
number_at [] = None
number_at (c ∷ cs) = cond (c == 48) (Some (0, cs)) (cond (is_digit c) (Some (digits_on (c - 48) cs)) None)

-- what stands after the byte b
unfoldable pub past_byte : ℕ → List ℕ → Option (List ℕ)
past_byte b [] = None
past_byte b (c ∷ cs) = cond (c == b) (Some cs) None

abbrev pub and_rest : ℕ → Option (List ℕ) → Option (ℕ × List ℕ)
and_rest n None = None
and_rest n (Some xs) = Some (n, xs)

abbrev pub and_past : ℕ → Option (ℕ × List ℕ) → Option (ℕ × List ℕ)
and_past b None = None
and_past b (Some x) = and_rest x.0 (past_byte b x.1)

-- a number with the byte b after it, and what stands after that
abbrev pub number_then : ℕ → List ℕ → Option (ℕ × List ℕ)
number_then b xs = and_past b (number_at xs)

abbrev pub outside : ℕ → ℕ → ℕ → Bool
outside low high n = nat_lt n low || nat_lt high n

-- limits, or which of them is out of its range
abbrev pub in_range : ℕ → ℕ → ℕ → Result Limits LineRefusal
in_range v p e =
    cond (outside 1 64 v) (Err Verifiers)
    (cond (outside 2 32768 p) (Err Places)
    (cond (outside 2 16 e) (Err Epochs) (Ok (record { verifiers = v; places = p; epochs = e }))))

abbrev pub and_then : Option (ℕ × List ℕ) → (ℕ → List ℕ → Result Limits LineRefusal) → Result Limits LineRefusal
and_then None f = Err NotThreeNumbers
and_then (Some x) f = f x.0 x.1

abbrev pub at_end : List ℕ → Result Limits LineRefusal → Result Limits LineRefusal
at_end [] r = r
at_end (c ∷ cs) r = Err NotThreeNumbers

-- what a first line, its end included, is read as
abbrev pub read_line : List ℕ → Result Limits LineRefusal
read_line line =
    and_then (number_then 32 line) (λ v xs.
    and_then (number_then 32 xs) (λ p ys.
    and_then (number_then 10 ys) (λ e zs. at_end zs (in_range v p e))))

-- how many words of 64 bits limits need
abbrev pub words_for : Limits → ℕ
words_for l = 192 * (l.verifiers * l.places) + 64 * l.verifiers + 32 * l.epochs + 256

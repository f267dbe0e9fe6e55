-- The answers to a log, counted.
use Rattle.std.specs.Prelude.{ℕ, ◌+◌, ◌-◌, ◌^◌, min, List, ◌++◌, Some, None, codes, decimal, Option}
use Rattle.wire.specs.declared.parts.Answer.{Answer}
use Rattle.wire.specs.declared.parts.Answer.TheVariants.{Refused, Wrong, Right, Certified}
use Rattle.summary.specs.declared.Summary.{Summary}

-- one more, of which 64 bits can tell
abbrev pub more : ℕ → ℕ
more n = min (n + 1) (2 ^ 64 - 1)

abbrev pub none_yet : Summary
none_yet = record { events = 0; right = 0; refused = 0; wrong = None; certified = 0 }

-- the first stays
abbrev pub first : Option ℕ → ℕ → Option ℕ
first None n = Some n
first (Some m) n = Some m

abbrev pub counted : Summary → Answer → Summary
counted s (Refused n place) = record { events = more s.events; right = s.right; refused = more s.refused; wrong = s.wrong; certified = s.certified }
counted s Wrong = record { events = more s.events; right = s.right; refused = s.refused; wrong = first s.wrong (more s.events); certified = s.certified }
counted s Right = record { events = more s.events; right = more s.right; refused = s.refused; wrong = s.wrong; certified = s.certified }
counted s (Certified n) = record { events = more s.events; right = more s.right; refused = s.refused; wrong = s.wrong; certified = n }

-- whether the log was wrong, and the text after that
abbrev pub wrong_text : Option ℕ → List ℕ → List ℕ
wrong_text None rest = codes " refused, not wrong, " ++ rest
wrong_text (Some n) rest = codes " refused, wrong at event " ++ (decimal n ++ (codes ", " ++ rest))

abbrev pub summary_text : Summary → List ℕ
summary_text s = decimal s.events ++ (codes " events: " ++ (decimal s.right ++ (codes " right, " ++ (decimal s.refused ++ wrong_text s.wrong (decimal s.certified ++ codes " epochs certified")))))

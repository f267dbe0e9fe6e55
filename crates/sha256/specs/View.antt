-- What the code's structs mean.
use Rattle.std.specs.Prelude.{ℕ, List, ◌++◌}
use Rattle.sha256.specs.declared.HashState.{HashState}
use Rattle.sha256.specs.declared.Sums.{Sums}
use Rattle.sha256.specs.declared.Words.{Words}
use Rattle.model.specs.Sha256.{State}

abbrev pub state_of : HashState → State
state_of s = record { a = s.a; b = s.b; c = s.c; d = s.d; e = s.e; f = s.f; g = s.g; h = s.h }

abbrev pub words_of : Words → List ℕ
words_of w = w.a ++ (w.b ++ (w.c ++ w.d))

abbrev pub sums_of : Sums → List ℕ
sums_of x = x.a ++ (x.b ++ (x.c ++ x.d))

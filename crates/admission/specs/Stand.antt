-- How a monitor stands, as code has it.
use Rattle.std.specs.Prelude.{◌≡◌, ℕ, true, Ok, Err, Result}
use Rattle.model.specs.Monitor.{Limits, State, fits_32}
use Rattle.range.specs.declared.packed.Packed.{Packed}
use Rattle.wire.specs.declared.parts.Refusal.{Refusal}
use Rattle.wire.specs.Meaning.{refusal_code}
use Rattle.admission.specs.declared.standing.Standing.{Standing}

pub record Stands (x : Standing) (l : Limits) (s : State) : Type 0 where
  pub verifiers : l.verifiers ≡ x.verifiers
  pub places : l.places ≡ x.places
  pub epochs : l.epochs ≡ x.epochs
  pub certified : s.certified ≡ x.certified
  pub stopped : s.stopped ≡ x.stopped

-- the number of the refusal, 0 for none
abbrev pub code_of : Result Packed Refusal → ℕ
code_of (Ok p) = 0
code_of (Err r) = refusal_code r

-- an epoch as code has it: itself, or one that is out of range too
pub record Named (r e : ℕ) : Type 0 where
  pub fits : fits_32 r ≡ fits_32 e
  pub is : fits_32 r ≡ true → r ≡ e

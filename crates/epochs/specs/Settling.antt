-- What is left, and answered, once an epoch may have been certified.
use Rattle.std.specs.Prelude.{◌≡◌, ℕ, suc, Bool, false, List}
use Rattle.model.specs.Monitor.{Limits, State, all_done, certify, sums_differ}
use Rattle.memory.specs.Keeping.{Kept, Laid}
use Rattle.memory.specs.Ranges.{Agrees}
use Rattle.memory.specs.declared.limits.Limits as code

pub record Settled (l : Limits) (m : List ℕ) (z : State) (r : Bool) : Type 0 where
  pub differ : r ≡ sums_differ z
  pub kept : Kept l m z

-- memory m in which all is laid but what is certified becomes m', where that is kept too, and whether the log is wrong;
-- at most one epoch can be certified
abbrev pub Settles : code.Limits → Bool → List ℕ → List ℕ → Type 0
Settles limits r m m' =
    (l : Limits) (s z : State) → Agrees limits l → Laid l m s → s.stopped ≡ false → all_done s.verifiers (suc s.certified) ≡ false
    → z.verifiers ≡ s.verifiers → z.sums ≡ s.sums → z.certified ≡ certify (suc l.epochs) s.verifiers s.sums s.certified → z.stopped ≡ r
    → Settled l m' z r

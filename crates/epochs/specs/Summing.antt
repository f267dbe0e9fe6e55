-- What a hash added to a sum leaves of a monitor's memory.
use Rattle.std.specs.Prelude.{◌≡◌, ℕ, ◌+◌, ◌<◌, ◌≤◌, List, [], ◌∷◌}
use Rattle.model.specs.Records.{Bytes}
use Rattle.model.specs.Verifier.{Element}
use Rattle.model.specs.Monitor.{Limits, Sum, State, element_hash, add_elements, evict_elements}
use Rattle.memory.specs.Ranges.{Agrees}
use Rattle.memory.specs.declared.limits.Limits as code
use Rattle.slot.specs.Layout.{number_in}
use Rattle.epochs.specs.declared.summing.SumOf.{SumOf}
use Rattle.epochs.specs.declared.summing.SumOf.TheVariants.{Added, Evicted}

-- the definition that takes elements into this sum
abbrev pub summed : SumOf → Bytes → List Sum → List Element → List Sum
summed Added = add_elements
summed Evicted = evict_elements

-- memory m that is Kept (or Laid) becomes m' that is, with the hash of an element of an epoch under way in its sum;
-- the lists that no program keeps may be any
abbrev pub Sums : (Limits → List ℕ → State → Type 0) → (Bytes → List Sum → List Element → List Sum) → code.Limits → ℕ → List ℕ → List ℕ → List ℕ → Type 0
Sums Is sums limits epoch hash m m' =
    (l : Limits) (s z : State) (x : Element) → Agrees limits l → Is l m s
    → x.timestamp.epoch ≡ epoch → s.certified ≤ epoch → epoch < s.certified + l.epochs → number_in hash ≡ element_hash l.secret x
    → z.verifiers ≡ s.verifiers → z.sums ≡ sums l.secret s.sums (x ∷ []) → z.certified ≡ s.certified → z.stopped ≡ s.stopped
    → Is l m' z

-- What a right entry leaves, and is answered, once its verifier's block is written.
use Rattle.std.specs.Prelude.{◌≡◌, Bool, true, false, List, [], ◌∷◌, ℕ, suc, ◌+◌, ◌<◌, ◌≤◌}
use Rattle.model.specs.Records.{pick}
use Rattle.model.specs.Verifier.{Element}
use Rattle.model.specs.Monitor.{Limits, State, wrong, right, certified, all_done, certify, sums_differ, stop, add_elements, evict_elements}
use Rattle.wire.specs.declared.parts.Answer.{Answer}
use Rattle.wire.specs.declared.parts.Answer.TheVariants.{Refused, Wrong, Right, Certified}
use Rattle.wire.specs.Meaning.{answer_of}
use Rattle.memory.specs.Keeping.{Kept}
use Rattle.step.specs.declared.effect.Effect.{Effect}
use Rattle.step.specs.Effects.{Effected}

abbrev pub IsRefused : Answer → Type 0
IsRefused (Refused c p) = Unit {0}
IsRefused Wrong = ⊥
IsRefused Right = ⊥
IsRefused (Certified n) = ⊥

-- elements of epochs that are under way
abbrev pub UnderWay : Limits → State → List Element → Type 0
UnderWay l s [] = Unit {0}
UnderWay l s (x ∷ xs) = ((s.certified ≤ x.timestamp.epoch) × (x.timestamp.epoch < s.certified + l.epochs)) × UnderWay l s xs

-- from s, where the verifier's block is written, to z, where the entry's elements are summed and epochs certified
pub record Ready (l : Limits) (s z : State) (f : Effect) (verifies : Bool) : Type 0 where
  pub added : List Element
  pub evicted : List Element
  pub effect : Effected l.secret f added evicted
  pub added_now : UnderWay l s added
  pub evicted_now : UnderWay l s evicted
  pub going : s.stopped ≡ false
  pub verifiers : z.verifiers ≡ s.verifiers
  pub sums : z.sums ≡ evict_elements l.secret (add_elements l.secret s.sums added) evicted
  pub certifies : z.certified ≡ certify (suc l.epochs) s.verifiers z.sums s.certified
  pub goes_on : z.stopped ≡ false
  -- an entry that verifies no epoch leaves someone who isn't done with the first that isn't certified, and any entry someone who isn't with the next
  pub waiting : verifies ≡ false → all_done s.verifiers s.certified ≡ false
  pub next : verifies ≡ true → all_done s.verifiers (suc s.certified) ≡ false

-- sums that differ are wrong, and stop everything
pub record Finished (l : Limits) (m : List ℕ) (z : State) (verifies : Bool) (r : Answer) : Type 0 where
  pub answered : answer_of r ≡ pick (sums_differ z) wrong (pick verifies (certified z.certified) right)
  pub kept : Kept l m (pick (sums_differ z) (stop z) z)

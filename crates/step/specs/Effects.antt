-- What a step leaves, and what of it is to be summed, by what code answers.
use Rattle.std.specs.Prelude.{◌≡◌, ℕ, ◌-◌, ◌^◌, ◌<◌, ◌≤◌, Bool, true, false, List, [], ◌∷◌, length, Ok, Err, Result}
use Rattle.model.specs.Records.{Bytes, Record}
use Rattle.model.specs.Verifier.{Verifier, Element, Step, fails, goes}
use Rattle.model.specs.Monitor.{element_hash}
use Rattle.wire.specs.declared.parts.Entry.{Entry}
use Rattle.wire.specs.declared.parts.Entry.TheVariants.{AddMerkle, AddBlum, EvictMerkle, EvictBlum, EvictBlumMerkle, NextEpoch, VerifyEpoch, Get, Set}
use Rattle.conditions.specs.declared.parts.Failure.{Failure}
use Rattle.block.specs.Blocks.{Keeps}
use Rattle.step.specs.declared.effect.Effect.{Effect}
use Rattle.step.specs.declared.effect.Effect.TheVariants.{Nothing, Added, Evicted}
use Rattle.slot.specs.Layout.{number_in}

-- one element, by its epoch and hash
pub record Summed (k : Bytes) (e : ℕ) (h : List ℕ) (xs : List Element) : Type 0 where
  pub element : Element
  pub only : xs ≡ element ∷ []
  pub epoch : element.timestamp.epoch ≡ e
  pub hash : number_in h ≡ element_hash k element

abbrev pub Effected : Bytes → Effect → List Element → List Element → Type 0
Effected k Nothing added evicted = (added ≡ []) × (evicted ≡ [])
Effected k (Added e h) added evicted = Summed k e h added × (evicted ≡ [])
Effected k (Evicted e h) added evicted = (added ≡ []) × Summed k e h evicted

pub record Goes (n : ℕ) (b : List ℕ) (k : Bytes) (f : Effect) (s : Step) : Type 0 where
  pub left : Verifier
  pub added : List Element
  pub evicted : List Element
  pub hashed : List Record
  pub is : s ≡ goes left added evicted hashed
  pub keeps : Keeps n b left
  pub effect : Effected k f added evicted

abbrev pub Stepped : ℕ → List ℕ → Bytes → Result Effect Failure → Step → Type 0
Stepped n b k (Err f) s = s ≡ fails
Stepped n b k (Ok f) s = Goes n b k f s

-- entries of which nothing is summed
abbrev pub sums_none : Entry → Bool
sums_none (AddMerkle r q) = true
sums_none (AddBlum r m j x) = false
sums_none (EvictMerkle p q) = true
sums_none (EvictBlum p m) = false
sums_none (EvictBlumMerkle p q m) = false
sums_none NextEpoch = true
sums_none VerifyEpoch = true
sums_none (Get k t) = true
sums_none (Set k t) = true

-- what an entry in range names fits the code's numbers
abbrev pub Timely : Verifier → Entry → Type 0
Timely v (AddMerkle r q) = Unit {0}
Timely v (AddBlum r m j x) = (m.counter < 2 ^ 64 - 1) × (j < 256) × (length x.now ≤ 1112)
Timely v (EvictMerkle p q) = Unit {0}
Timely v (EvictBlum p m) = Unit {0}
Timely v (EvictBlumMerkle p q m) = Unit {0}
Timely v NextEpoch = v.clock.epoch < 2 ^ 64 - 1
Timely v VerifyEpoch = Unit {0}
Timely v (Get k t) = Unit {0}
Timely v (Set k t) = Unit {0}

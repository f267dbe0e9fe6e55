-- What an eviction by Blum leaves.
use Rattle.std.specs.Prelude.{◌≡◌, ℕ, List, [], ◌∷◌, Ok, Err, Result}
use Rattle.model.specs.Records.{Bytes, Path}
use Rattle.model.specs.Verifier.{Timestamp, Verifier, Element, Step, fails, goes, without}
use Rattle.model.specs.Monitor.{element_hash}
use Rattle.conditions.specs.declared.parts.Failure.{Failure}
use Rattle.block.specs.Blocks.{Keeps}
use Rattle.slot.specs.Layout.{number_in}

-- the record at the path has left, at this timestamp
abbrev pub without_at : Verifier → Path → Timestamp → Verifier
without_at v p m = record { clock = m; last_evicted = p; store = without p v.store; done = v.done }

-- an element was evicted at this timestamp: what the block keeps then, and the element's hash
pub record Evicted (n : ℕ) (b h : List ℕ) (k : Bytes) (m : Timestamp) (s : Step) : Type 0 where
  pub left : Verifier
  pub element : Element
  pub step : s ≡ goes left [] (element ∷ []) []
  pub keeps : Keeps n b left
  pub when : element.timestamp ≡ m
  pub hash : number_in h ≡ element_hash k element

abbrev pub Evicts : ℕ → List ℕ → Result (List ℕ) Failure → Bytes → Timestamp → Step → Type 0
Evicts n b (Err f) k m s = s ≡ fails
Evicts n b (Ok h) k m s = Evicted n b h k m s

-- What the node above was found to know of a record.
use Rattle.std.specs.Prelude.{◌≡◌, ℕ, ◌<◌, true, false, List, Ok, Err, Result}
use Rattle.model.specs.Records.{Path, present, is_data, children_of, node, with_child}
use Rattle.model.specs.Verifier.{Stored, Timestamp, Verifier, fails, find, updated, with_store, verifier_step, evict_blum_merkle, evict_blum_step}
use Rattle.store.specs.Holding.{stored_at, Walked}
use Rattle.conditions.specs.declared.parts.Failure.{Failure}
use Rattle.blum_conditions.specs.declared.links.Link.{Link}
use Rattle.path.specs.Sides.{side_number}
use Rattle.slot.specs.Layout.{number_in}

-- the node's slot is within
abbrev pub LinkWithin : ℕ → Result Link Failure → Type 0
LinkWithin n (Err f) = Unit {0}
LinkWithin n (Ok k) = k.above < n

abbrev pub LinkLed : ℕ → ℕ → List ℕ → ℕ → List ℕ → Result Link Failure → Type 0
LinkLed n salt m l us (Err f) = Unit {0}
LinkLed n salt m l us (Ok k) = Walked n salt m l us k.above

-- the store where the node points at the path as evicted by Blum, with the hash that it knew
abbrev pub marked : ℕ → List ℕ → Path → Path → Link → List Stored → List Stored
marked n m p q k xs = updated (node q (with_child (children_of (stored_at n m k.above).rec) (side_number k.side) (present p (number_in k.hash) true))) xs

-- the step is then an eviction from that store
pub record Links (n : ℕ) (m : List ℕ) (v : Verifier) (p q : Path) (k : Link) : Type 0 where
  pub is_node : is_data (stored_at n m k.above).rec ≡ false
  pub step : (t : ℕ) (at : Timestamp) → verifier_step t v (evict_blum_merkle p q at) ≡ evict_blum_step (with_store v (marked n m p q k v.store)) t p at true (find p v.store)

abbrev pub Linked : ℕ → List ℕ → Verifier → Path → Path → Result Link Failure → Type 0
Linked n m v p q (Err f) = (t : ℕ) (at : Timestamp) → verifier_step t v (evict_blum_merkle p q at) ≡ fails
Linked n m v p q (Ok k) = Links n m v p q k

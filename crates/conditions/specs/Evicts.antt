-- What an EvictMerkle found, where it may be done.
use Rattle.std.specs.Prelude.{◌≡◌, ℕ, ◌<◌, false, [], ◌∷◌, Ok, Err, Result}
use Rattle.model.specs.Records.{Path, present, is_data, children_of, node, with_child, merkle_hash}
use Rattle.model.specs.Verifier.{Verifier, fails, goes, verifier_step, evict_merkle, with_store, without, updated}
use Rattle.path.specs.declared.packed.Path as packed
use Rattle.path.specs.Sides.{side_number}
use Rattle.slot.specs.Layout.{Slot}
use Rattle.store.specs.Holding.{Walked}
use Rattle.store.specs.Stores.{slot_of, stored_of}
use Rattle.store.specs.declared.StoreRef.{StoreRef}
use Rattle.conditions.specs.declared.parts.Edge.{Edge}
use Rattle.conditions.specs.declared.parts.Failure.{Failure}

-- the slots are within
abbrev pub Within : ℕ → Result Edge Failure → Type 0
Within n (Err f) = Unit {0}
Within n (Ok e) = (e.slot < n) × (e.above < n)

-- and a walk leads to each
abbrev pub Led : StoreRef → packed.Path → packed.Path → Result Edge Failure → Type 0
Led s p q (Err f) = Unit {0}
Led s p q (Ok e) = Walked s.places s.salt s.words.now p.len p.bits e.slot × Walked s.places s.salt s.words.now q.len q.bits e.above

-- what the step is, by what is in the slots
pub record Evicting (s : StoreRef) (t : ℕ) (v : Verifier) (p q : Path) (i j d : ℕ) : Type 0 where
  pub slot : Slot (slot_of s i)
  pub is_node : is_data (stored_of s j).rec ≡ false
  pub step : verifier_step t v (evict_merkle p q)
      ≡ goes (with_store v (without p (updated (node q (with_child (children_of (stored_of s j).rec) d (present p (merkle_hash (stored_of s i).rec) false))) v.store))) [] [] ((stored_of s i).rec ∷ [])

abbrev pub May : StoreRef → ℕ → Verifier → Path → Path → Result Edge Failure → Type 0
May s t v p q (Err f) = verifier_step t v (evict_merkle p q) ≡ fails
May s t v p q (Ok e) = Evicting s t v p q e.slot e.above (side_number e.side)

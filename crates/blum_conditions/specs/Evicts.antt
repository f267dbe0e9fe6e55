-- What an eviction by Blum found.
use Rattle.std.specs.Prelude.{◌≡◌, ℕ, ◌<◌, Bool, true, false, List, [], ◌∷◌, Ok, Err, Result}
use Rattle.model.specs.Records.{Path}
use Rattle.model.specs.Verifier.{Stored, Timestamp, Verifier, find, can_evict_blum}
use Rattle.slot.specs.Layout.{Slot}
use Rattle.store.specs.Holding.{slot_at, stored_at, Walked}
use Rattle.conditions.specs.declared.parts.Failure.{Failure}

-- the slot is within, and a walk leads to it
abbrev pub SlotWithin : ℕ → Result ℕ Failure → Type 0
SlotWithin n (Err f) = Unit {0}
SlotWithin n (Ok i) = i < n

abbrev pub SlotLed : ℕ → ℕ → List ℕ → ℕ → List ℕ → Result ℕ Failure → Type 0
SlotLed n salt m k ws (Err f) = Unit {0}
SlotLed n salt m k ws (Ok i) = Walked n salt m k ws i

-- may what was found be evicted?
unfoldable pub evictable : Verifier → Path → Timestamp → Bool → List Stored → Bool
evictable v p m by [] = false
evictable v p m by (x ∷ xs) = can_evict_blum v p m by x

pub record Evicting (n : ℕ) (b : List ℕ) (v : Verifier) (p : Path) (m : Timestamp) (by : Bool) (i : ℕ) : Type 0 where
  pub slot : Slot (slot_at n b i)
  pub some : find p v.store ≡ stored_at n b i ∷ []
  pub can : can_evict_blum v p m by (stored_at n b i) ≡ true

abbrev pub MayEvict : ℕ → List ℕ → Verifier → Path → Timestamp → Bool → Result ℕ Failure → Type 0
MayEvict n b v p m by (Err f) = evictable v p m by (find p v.store) ≡ false
MayEvict n b v p m by (Ok i) = Evicting n b v p m by i

-- Where a key is found.
use Rattle.std.specs.Prelude.{◌≡◌, ℕ, ◌<◌, true, false, List, [], ◌∷◌, Some, None, Option}
use Rattle.model.specs.Records.{Bytes, key_path}
use Rattle.model.specs.Verifier.{Stored, find, has_key}
use Rattle.path.specs.Packs.{path_in}
use Rattle.slot.specs.Layout.{Slot}
use Rattle.store.specs.Holding.{Walked}
use Rattle.store.specs.Stores.{slot_of, stored_of}
use Rattle.store.specs.declared.StoreRef.{StoreRef}

abbrev pub KeySlot : ℕ → Option ℕ → Type 0
KeySlot n None = Unit {0}
KeySlot n (Some i) = i < n

-- what the store has at the key's path, if anything, is of another key
abbrev pub OtherKey : List Stored → Bytes → Type 0
OtherKey [] k = Unit {0}
OtherKey (x ∷ xs) k = has_key x.rec k ≡ false

-- the slot that has the key
pub record KeyIn (s : StoreRef) (xs : List Stored) (k : Bytes) (i : ℕ) : Type 0 where
  pub some : find (key_path k) xs ≡ stored_of s i ∷ []
  pub key : has_key (stored_of s i).rec k ≡ true
  pub slot : Slot (slot_of s i)
  pub walked : (l : ℕ) × ((us : List ℕ) × (Walked s.places s.salt s.words.now l us i × (path_in l us ≡ key_path k)))

abbrev pub KeyAt : StoreRef → List Stored → Bytes → Option ℕ → Type 0
KeyAt s xs k None = OtherKey (find (key_path k) xs) k
KeyAt s xs k (Some i) = KeyIn s xs k i

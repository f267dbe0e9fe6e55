-- A store's words as they are lent: to be read, and to be written.
use Rattle.std.specs.Prelude.{◌≡◌, ℕ, List}
use Rattle.model.specs.Verifier.{Stored}
use Rattle.store.specs.declared.StoreRef.{StoreRef}
use Rattle.store.specs.declared.Store.{Store}
use Rattle.store.specs.Holding.{slot_at, stored_at, Holds}

abbrev pub slot_of : StoreRef → ℕ → List ℕ
slot_of s i = slot_at s.places s.words.now i

abbrev pub stored_of : StoreRef → ℕ → Stored
stored_of s i = stored_at s.places s.words.now i

-- the words hold what is stored
abbrev pub Contains : StoreRef → List Stored → Type 0
Contains s xs = Holds s.places s.salt s.words.now xs

-- what writing leaves as it was: how many records there is room for, and the salt
abbrev pub Frame : Store → Store → Type 0
Frame old new = (new.places ≡ old.places) × (new.salt ≡ old.salt)

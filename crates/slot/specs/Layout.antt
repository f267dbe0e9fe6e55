-- What a slot of 190 words holds: one record, how it was added, and the Merkle hash that it had then.
-- Words: 0 its kind (0 a node, 1 a data record without a value, 2 one with a value), 1 how it was added (1 by Merkle),
-- 2 the length of its path, 3 to 6 the path's bits;
-- of a node, 8 to 17 its left pointer, 18 to 27 its right;
-- of a data record, 8 the key's length, 9 to 16 the key, 17 the value's length, 18 to 145 the value, eight bytes to a word, the low one first;
-- 146 to 149 the hash, the low word first, 150 a mark: 1 if the record hasn't changed since it was added, so that this is its hash.
-- Words of a pointer: 0 what it is (0 absent, 1 evicted by Merkle, 2 by Blum), 1 the length of the path that it points at, 2 to 5 its bits, 6 to 9 the hash.
use Rattle.std.specs.Prelude.{◌≡◌, ℕ, ◌+◌, ◌*◌, ◌^◌, ◌<◌, ◌≤◌, List, [], ◌∷◌, ◌++◌, length, take, Some, None, ◌==◌, ◌≢◌, slice_index, slice_index_or}
use Rattle.model.specs.Records.{pick, Bytes, Path, le_bytes, Pointer, absent, present, Children, with_child, Value, Record, data_record, node, path_of, merkle_hash}
use Rattle.model.specs.Verifier.{Stored}
use Rattle.path.specs.Packs.{path_in, Packs}
use Rattle.slot.specs.Parts.{part}

abbrev pub slot_words : ℕ
slot_words = 190

-- the number in words, the low word first
unfoldable pub number_in : List ℕ → ℕ
number_in [] = 0
number_in (w ∷ ws) = w + 2 ^ 64 * number_in ws

-- the bytes in words, the low byte first
unfoldable pub bytes_in : List ℕ → Bytes
bytes_in [] = []
bytes_in (w ∷ ws) = le_bytes 8 w ++ bytes_in ws

unfoldable pub pointer_in : List ℕ → Pointer
pointer_in w = pick (slice_index w 0 == 0) absent (present (path_in (slice_index w 1) (part 2 4 w)) (number_in (part 6 4 w)) (slice_index w 0 == 2))

abbrev pub children_in : List ℕ → Children
children_in w = record { left = pointer_in (part 8 10 w); right = pointer_in (part 18 10 w) }

abbrev pub slot_path : List ℕ → Path
slot_path w = path_in (slice_index w 2) (part 3 4 w)

abbrev pub slot_key : List ℕ → Bytes
slot_key w = take (slice_index w 8) (bytes_in (part 9 8 w))

abbrev pub slot_text : List ℕ → Bytes
slot_text w = take (slice_index w 17) (bytes_in (part 18 128 w))

abbrev pub slot_value : List ℕ → Value
slot_value w = pick (slice_index w 0 == 2) (Some (slot_text w)) None

unfoldable pub rec_in : List ℕ → Record
rec_in w = pick (slice_index w 0 == 0) (node (slot_path w) (children_in w)) (data_record (slot_key w) (slot_value w))

abbrev pub stored_in : List ℕ → Stored
stored_in w = record { rec = rec_in w; by_merkle = (slice_index w 1 == 1) }

-- the path that a pointer points at has no bit set past it
abbrev pub PointerPacks : List ℕ → Type 0
PointerPacks w = Packs (slice_index w 1) (part 2 4 w)

-- a slot in use is as it should be, but for its hash: no bit is set past a path, the path is the record's own, and texts have room
pub record Shaped (w : List ℕ) : Type 0 where
  pub size : length w ≡ slot_words
  pub packs : Packs (slice_index w 2) (part 3 4 w)
  pub path : path_of (rec_in w) ≡ slot_path w
  pub pointers : slice_index_or w 0 0 ≡ 0 → (d : ℕ) → d < 2 → PointerPacks (part (8 + 10 * d) 10 w)
  pub room : (slice_index w 0 ≢ 0) → (slice_index w 8 ≤ 64) × (slice_index w 17 ≤ 1024)

-- and where it is marked, the hash is the record's
pub record Slot (w : List ℕ) : Type 0 where
  pub shaped : Shaped w
  pub marked : slice_index_or w 150 0 ≡ 1 → number_in (part 146 4 w) ≡ merkle_hash (rec_in w)

-- the node in a slot, with another pointer
abbrev pub stored_with : List ℕ → ℕ → Pointer → Stored
stored_with w d c = record { rec = node (slot_path w) (with_child (children_in w) d c); by_merkle = (slice_index w 1 == 1) }

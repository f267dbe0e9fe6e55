-- What a slice holds once a value is written into it, piece by piece, and how much room that takes.
use Rattle.std.specs.Prelude.{◌≡◌, ℕ, ◌+◌, ◌<◌, Bool, true, [], ◌∷◌, ◌++◌, length, take, drop, Some, None, Option}
use Rattle.std.specs.Int.{from_bool}
use Rattle.model.specs.Records.{Bytes, Pointer, absent, present, Value, Record, data_record, node, le_bytes, sized_bytes}
use Rattle.model.specs.Monitor.{entry_code}
use Rattle.model.specs.Verifier.{Timestamp, Entry, add_merkle, add_blum, evict_merkle, evict_blum, evict_blum_merkle, next_epoch, verify_epoch, get, set}

-- a slice, and where the next byte goes
pub record Page : Type 0 where
  pub bytes : Bytes
  pub at : ℕ

abbrev pub page : Bytes → ℕ → Page
page bs n = record { bytes = bs; at = n }

-- the bytes ws are written there
unfoldable pub with_bytes : Page → Bytes → Page
with_bytes p ws = page (take p.at p.bytes ++ (ws ++ drop (p.at + length ws) p.bytes)) (p.at + length ws)

abbrev pub with_byte : Page → ℕ → Page
with_byte p b = with_bytes p (b ∷ [])

abbrev pub with_sized : Page → Bytes → Page
with_sized p t = with_bytes p (sized_bytes t)

abbrev pub with_number : Page → ℕ → Page
with_number p n = with_bytes p (le_bytes 8 n)

abbrev pub with_hash : Page → ℕ → Page
with_hash p h = with_bytes p (le_bytes 32 h)

abbrev pub with_timestamp : Page → Timestamp → Page
with_timestamp p m = with_number (with_number p m.epoch) m.counter

abbrev pub with_value : Page → Value → Page
with_value p None = with_byte p 0
with_value p (Some t) = with_sized (with_byte p 1) t

abbrev pub with_pointer : Page → Pointer → Page
with_pointer p absent = with_byte p 0
with_pointer p (present q h b) = with_hash (with_sized (with_byte (with_byte p 1) (from_bool b)) q) h

abbrev pub with_record : Page → Record → Page
with_record p (data_record k v) = with_value (with_byte (with_sized (with_byte p 0) k) 0) v
with_record p (node q c) = with_pointer (with_pointer (with_byte (with_sized (with_byte p 1) q) 1) c.left) c.right

abbrev pub with_fields : Page → Entry → Page
with_fields p (add_merkle r q) = with_sized (with_record p r) q
with_fields p (add_blum r m j) = with_number (with_timestamp (with_record p r) m) j
with_fields p (evict_merkle q o) = with_sized (with_sized p q) o
with_fields p (evict_blum q m) = with_timestamp (with_sized p q) m
with_fields p (evict_blum_merkle q o m) = with_timestamp (with_sized (with_sized p q) o) m
with_fields p next_epoch = p
with_fields p verify_epoch = p
with_fields p (get k v) = with_value (with_sized p k) v
with_fields p (set k v) = with_sized (with_sized p k) v

abbrev pub with_entry : Page → Entry → Page
with_entry p e = with_fields (with_byte p (entry_code e)) e

-- ---- room

abbrev pub sized_room : Bytes → ℕ
sized_room t = 2 + length t

abbrev pub value_room : Value → ℕ
value_room None = 1
value_room (Some t) = 1 + sized_room t

abbrev pub pointer_room : Pointer → ℕ
pointer_room absent = 1
pointer_room (present p h b) = 34 + sized_room p

abbrev pub record_room : Record → ℕ
record_room (data_record k v) = 2 + sized_room k + value_room v
record_room (node p c) = 2 + sized_room p + pointer_room c.left + pointer_room c.right

abbrev pub fields_room : Entry → ℕ
fields_room (add_merkle r q) = record_room r + sized_room q
fields_room (add_blum r m j) = 24 + record_room r
fields_room (evict_merkle p q) = sized_room p + sized_room q
fields_room (evict_blum p m) = 16 + sized_room p
fields_room (evict_blum_merkle p q m) = 16 + sized_room p + sized_room q
fields_room next_epoch = 0
fields_room verify_epoch = 0
fields_room (get k v) = sized_room k + value_room v
fields_room (set k v) = sized_room k + sized_room v

abbrev pub entry_room : Entry → ℕ
entry_room e = 1 + fields_room e

-- ---- a call

-- what writing the bytes ws at the front of a slice leaves, by what is returned: how many they are; or none, for want of room or because they
-- could not be read back, as ok says
abbrev pub Writes : Bool → Bytes → Bytes → Bytes → Option ℕ → Type 0
Writes ok ws before after None = (ok ≡ true → length before < length ws) × (after ≡ before)
Writes ok ws before after (Some n) = (ok ≡ true) × (n ≡ length ws) × (after ≡ ws ++ drop n before)

-- Events that bytes can carry: each number fits its field. Assumes nothing: these are definitions.
use Rattle.std.specs.Prelude.{ℕ, Bool, true, ◌&&◌, List, [], ◌∷◌, length, Some, None, nat_le, nat_lt}
use Rattle.model.specs.Records.{Bytes, Pointer, absent, present, Value, Record, data_record, node}
use Rattle.model.specs.Verifier.{Timestamp, Entry, add_merkle, add_blum, evict_merkle, evict_blum, evict_blum_merkle, next_epoch, verify_epoch, get, set}
use Rattle.model.specs.Monitor.{Event, logged, malformed, modulus}

unfoldable pub all_below : ℕ → List ℕ → Bool
all_below b [] = true
all_below b (x ∷ xs) = nat_lt x b && all_below b xs

abbrev pub readable_bytes : Bytes → Bool
readable_bytes t = all_below 256 t && nat_le (length t) 65535

unfoldable pub readable_value : Value → Bool
readable_value None = true
readable_value (Some t) = readable_bytes t

abbrev pub fits_64 : ℕ → Bool
fits_64 n = nat_lt n 18446744073709551616

unfoldable pub readable_pointer : Pointer → Bool
readable_pointer absent = true
readable_pointer (present p h b) = readable_bytes p && nat_lt h modulus

unfoldable pub readable_record : Record → Bool
readable_record (data_record k v) = readable_bytes k && readable_value v
readable_record (node p c) = readable_bytes p && (readable_pointer c.left && readable_pointer c.right)

abbrev pub readable_timestamp : Timestamp → Bool
readable_timestamp m = fits_64 m.epoch && fits_64 m.counter

unfoldable pub readable_entry : Entry → Bool
readable_entry (add_merkle r q) = readable_record r && readable_bytes q
readable_entry (add_blum r m j) = (readable_record r && readable_timestamp m) && fits_64 j
readable_entry (evict_merkle p q) = readable_bytes p && readable_bytes q
readable_entry (evict_blum p m) = readable_bytes p && readable_timestamp m
readable_entry (evict_blum_merkle p q m) = (readable_bytes p && readable_bytes q) && readable_timestamp m
readable_entry next_epoch = true
readable_entry verify_epoch = true
readable_entry (get k v) = readable_bytes k && readable_value v
readable_entry (set k v) = readable_bytes k && readable_bytes v

unfoldable pub readable : Event → Bool
readable (malformed n) = fits_64 n
readable (logged t e) = fits_64 t && readable_entry e

unfoldable pub all_readable : List Event → Bool
all_readable [] = true
all_readable (e ∷ es) = readable e && all_readable es

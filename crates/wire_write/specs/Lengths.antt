-- How many bytes a value has, if it is readable: computed field by field, as the code does.
use Rattle.std.specs.Prelude.{ℕ, ◌+◌, cond, length, Some, None, Option, nat_lt}
use Rattle.model.specs.Records.{Bytes, Pointer, absent, present, Value, Record, data_record, node}
use Rattle.model.specs.Verifier.{Timestamp, Entry, add_merkle, add_blum, evict_merkle, evict_blum, evict_blum_merkle, next_epoch, verify_epoch, get, set}
use Rattle.model.specs.Monitor.{modulus}
use Rattle.model.specs.Readable.{readable_bytes, fits_64}

abbrev pub after_len : Option ℕ → (ℕ → Option ℕ) → Option ℕ
after_len None f = None
after_len (Some n) f = f n

unfoldable pub sized_len : Bytes → Option ℕ
sized_len t = cond (readable_bytes t) (Some (2 + length t)) None

abbrev pub two_sized_len : Bytes → Bytes → Option ℕ
two_sized_len t u = after_len (sized_len t) (λ m. after_len (sized_len u) (λ n. Some (m + n)))

unfoldable pub number_len : ℕ → Option ℕ
number_len n = cond (fits_64 n) (Some 8) None

unfoldable pub hash_len : ℕ → Option ℕ
hash_len h = cond (nat_lt h modulus) (Some 32) None

abbrev pub value_len : Value → Option ℕ
value_len None = Some 1
value_len (Some t) = after_len (sized_len t) (λ n. Some (1 + n))

abbrev pub pointer_len : Pointer → Option ℕ
pointer_len absent = Some 1
pointer_len (present p h b) = after_len (sized_len p) (λ m. after_len (hash_len h) (λ n. Some (2 + m + n)))

abbrev pub record_len : Record → Option ℕ
record_len (data_record k v) = after_len (sized_len k) (λ m. after_len (value_len v) (λ n. Some (2 + m + n)))
record_len (node p c) = after_len (sized_len p) (λ m. after_len (pointer_len c.left) (λ n. after_len (pointer_len c.right) (λ o. Some (2 + m + n + o))))

abbrev pub timestamp_len : Timestamp → Option ℕ
timestamp_len m = after_len (number_len m.epoch) (λ a. after_len (number_len m.counter) (λ b. Some (a + b)))

abbrev pub fields_len : Entry → Option ℕ
fields_len (add_merkle r q) = after_len (record_len r) (λ m. after_len (sized_len q) (λ n. Some (m + n)))
fields_len (add_blum r t j) = after_len (record_len r) (λ m. after_len (timestamp_len t) (λ n. after_len (number_len j) (λ o. Some (m + n + o))))
fields_len (evict_merkle p q) = two_sized_len p q
fields_len (evict_blum p t) = after_len (sized_len p) (λ m. after_len (timestamp_len t) (λ n. Some (m + n)))
fields_len (evict_blum_merkle p q t) = after_len (two_sized_len p q) (λ m. after_len (timestamp_len t) (λ n. Some (m + n)))
fields_len next_epoch = Some 0
fields_len verify_epoch = Some 0
fields_len (get k v) = after_len (sized_len k) (λ m. after_len (value_len v) (λ n. Some (m + n)))
fields_len (set k v) = two_sized_len k v

-- with the verifier and the code
abbrev pub event_len : ℕ → Entry → Option ℕ
event_len t e = after_len (number_len t) (λ m. after_len (fields_len e) (λ n. Some (m + 1 + n)))

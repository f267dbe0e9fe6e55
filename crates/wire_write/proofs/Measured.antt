-- The lengths that the code computes are those of the bytes of readable values.
use Rattle.std.proofs.Common.{◌≡◌, ℕ, ◌+◌, ◌<◌, ◌≤◌, Bool, true, false, cond, ◌&&◌, ltb, List, [], ◌∷◌, ◌++◌, length, get_or, Some, None, Option, sym, refl, ap, ◌∙◌, arith}
use Rattle.std.proofs.lemmas.List.{append_assoc, length-append}
use Rattle.std.proofs.Math.Bool.{and-false, and_assoc}
use Rattle.std.proofs.lemmas.Bool.{le-leb, lt-leb, ltb-true}
use Rattle.model.specs.Records.{Bytes, Pointer, absent, present, Value, Record, data_record, node, le_bytes, sized_bytes, value_bytes, pointer_bytes, merkle_bytes, record_bytes}
use Rattle.model.specs.Verifier.{Timestamp, Entry, add_merkle, add_blum, evict_merkle, evict_blum, evict_blum_merkle, next_epoch, verify_epoch, get, set}
use Rattle.model.specs.Monitor.{logged, modulus, entry_code}
use Rattle.model.specs.Readable.{all_below, readable_bytes, readable_value, fits_64, readable_pointer, readable_record, readable_timestamp, readable_entry, readable}
use Rattle.model.specs.Wire.{timestamp_bytes, fields_bytes, entry_bytes, event_bytes}
use Rattle.reader.specs.Meaning.{hash_number}
use Rattle.wire_laws.proofs.Numbers.{length_le_bytes}
use Rattle.wire_write.specs.Lengths.{after_len, sized_len, two_sized_len, number_len, hash_len, value_len, pointer_len, record_len, timestamp_len, fields_len, event_len}

-- what the length of a number tells of it
pub number_tells : (n r : ℕ) → Some r ≡ number_len n → (n < 18446744073709551616) × (r ≡ 8)
unfolding number_len
number_tells n r h = go (fits_64 n) refl h
  where
    go : (b : Bool) → fits_64 n ≡ b → Some r ≡ cond b (Some 8) None → (n < 18446744073709551616) × (r ≡ 8)
    go true e q = let z : r ≡ 8 = cc in (ltb-true n 18446744073709551616 e, z)
    go false e q = absurd (let z : ◌≡◌ {A = ℕ} 0 1 = cc in omega arith)

abbrev Small : ℕ → Type 0
Small n = n < 18446744073709551616

pub hash_fits : (ws : List ℕ) → length ws ≡ 4 → Small (get_or ws 0 0) → Small (get_or ws 1 0) → Small (get_or ws 2 0) → Small (get_or ws 3 0) → hash_number ws < modulus
hash_fits [] e h i j k = absurd (omega arith)
hash_fits (a ∷ []) e h i j k = absurd (omega arith)
hash_fits (a ∷ b ∷ []) e h i j k = absurd (omega arith)
hash_fits (a ∷ b ∷ c ∷ []) e h i j k = absurd (omega arith)
hash_fits (a ∷ b ∷ c ∷ d ∷ []) e h i j k = omega arith
hash_fits (a ∷ b ∷ c ∷ d ∷ f ∷ ws) e h i j k = absurd (omega arith)

pub sized_too_long : (t : Bytes) → 65535 < length t → None ≡ sized_len t
unfolding sized_len
sized_too_long t h = rw (lt-leb (length t) 65535 h, and-false (all_below 256 t))

pub sized_fits : (t : Bytes) → all_below 256 t ≡ true → length t ≤ 65535 → Some (2 + length t) ≡ sized_len t
unfolding sized_len
sized_fits t b h = rw (b, le-leb (length t) 65535 h)

-- a length, if the test holds
abbrev measured : Bool → ℕ → Option ℕ
measured b n = cond b (Some n) None

one_more : (b : Bool) (m k : ℕ) → after_len (measured b m) (λ n. Some (k + n)) ≡ measured b (k + m)
one_more true m k = refl
one_more false m k = refl

both : (b c : Bool) (m n : ℕ) (f : ℕ → ℕ → ℕ) → after_len (measured b m) (λ x. after_len (measured c n) (λ y. Some (f x y))) ≡ measured (b && c) (f m n)
both true true m n f = refl
both true false m n f = refl
both false c m n f = refl

three : (b c d : Bool) (m n o : ℕ) (f : ℕ → ℕ → ℕ → ℕ) → after_len (measured b m) (λ x. after_len (measured c n) (λ y. after_len (measured d o) (λ z. Some (f x y z)))) ≡ measured ((b && c) && d) (f m n o)
three true true true m n o f = refl
three true true false m n o f = refl
three true false d m n o f = refl
three false c d m n o f = refl

sized_is : (t : Bytes) → sized_len t ≡ measured (readable_bytes t) (length (sized_bytes t))
unfolding sized_len
sized_is t = ap (measured (readable_bytes t)) (sym (length-append (le_bytes 2 (length t)) t ∙ ap (λ n. n + length t) (length_le_bytes 2 (length t))))

number_is : (n : ℕ) → number_len n ≡ measured (fits_64 n) (length (le_bytes 8 n))
unfolding number_len
number_is n = ap (measured (fits_64 n)) (sym (length_le_bytes 8 n))

hash_is : (h : ℕ) → hash_len h ≡ measured (ltb h modulus) (length (le_bytes 32 h))
unfolding hash_len
hash_is h = ap (measured (ltb h modulus)) (sym (length_le_bytes 32 h))

two_sized_is : (t u : Bytes) → two_sized_len t u ≡ measured (readable_bytes t && readable_bytes u) (length (sized_bytes t ++ sized_bytes u))
two_sized_is t u =
    rw (sized_is t, sized_is u, length-append (sized_bytes t) (sized_bytes u)) (both (readable_bytes t) (readable_bytes u) (length (sized_bytes t)) (length (sized_bytes u)) (λ m n. m + n))

value_is : (v : Value) → value_len v ≡ measured (readable_value v) (length (value_bytes v))
unfolding readable_value value_bytes
value_is None = refl
value_is (Some t) = rw (sized_is t) (one_more (readable_bytes t) (length (sized_bytes t)) 1 ∙ ap (measured (readable_bytes t)) (omega arith))

pointer_is : (c : Pointer) → pointer_len c ≡ measured (readable_pointer c) (length (pointer_bytes c))
unfolding readable_pointer pointer_bytes
pointer_is absent = refl
pointer_is (present p h b) =
    rw (sized_is p, hash_is h) (both (readable_bytes p) (ltb h modulus) (length (sized_bytes p)) (length (le_bytes 32 h)) (λ m n. 2 + m + n)
    ∙ ap (measured (readable_bytes p && ltb h modulus)) (omega (arith, length-append (sized_bytes p) (le_bytes 32 h))))

record_is : (r : Record) → record_len r ≡ measured (readable_record r) (length (record_bytes r))
unfolding readable_record record_bytes merkle_bytes
record_is (data_record k v) =
    rw (sized_is k, value_is v) (both (readable_bytes k) (readable_value v) (length (sized_bytes k)) (length (value_bytes v)) (λ m n. 2 + m + n)
    ∙ ap (measured (readable_bytes k && readable_value v)) (omega (arith, length-append (sized_bytes k) (0 ∷ value_bytes v))))
record_is (node p c) =
    rw (sized_is p, pointer_is c.left, pointer_is c.right, ← and_assoc (readable_bytes p) (readable_pointer c.left) (readable_pointer c.right))
    (three (readable_bytes p) (readable_pointer c.left) (readable_pointer c.right) (length (sized_bytes p)) (length (pointer_bytes c.left)) (length (pointer_bytes c.right)) (λ m n o. 2 + m + n + o)
    ∙ ap (measured ((readable_bytes p && readable_pointer c.left) && readable_pointer c.right))
    (omega (arith, length-append (sized_bytes p) (1 ∷ (pointer_bytes c.left ++ pointer_bytes c.right)), length-append (pointer_bytes c.left) (pointer_bytes c.right))))

timestamp_is : (m : Timestamp) → timestamp_len m ≡ measured (readable_timestamp m) (length (timestamp_bytes m))
timestamp_is m =
    rw (number_is m.epoch, number_is m.counter, length-append (le_bytes 8 m.epoch) (le_bytes 8 m.counter))
    (both (fits_64 m.epoch) (fits_64 m.counter) (length (le_bytes 8 m.epoch)) (length (le_bytes 8 m.counter)) (λ m n. m + n))

-- two fields, one after the other
pair_is : (b c : Bool) (xs ys : Bytes) → after_len (measured b (length xs)) (λ m. after_len (measured c (length ys)) (λ n. Some (m + n))) ≡ measured (b && c) (length (xs ++ ys))
pair_is b c xs ys = both b c (length xs) (length ys) (λ m n. m + n) ∙ ap (measured (b && c)) (sym (length-append xs ys))

fields_is : (e : Entry) → fields_len e ≡ measured (readable_entry e) (length (fields_bytes e))
unfolding readable_entry fields_bytes
fields_is (add_merkle r q) = rw (record_is r, sized_is q) (pair_is (readable_record r) (readable_bytes q) (record_bytes r) (sized_bytes q))
fields_is (add_blum r m j) =
    rw (record_is r, timestamp_is m, number_is j)
    (three (readable_record r) (readable_timestamp m) (fits_64 j) (length (record_bytes r)) (length (timestamp_bytes m)) (length (le_bytes 8 j)) (λ m n o. m + n + o)
    ∙ ap (measured ((readable_record r && readable_timestamp m) && fits_64 j)) (omega (arith, length-append (record_bytes r) (timestamp_bytes m ++ le_bytes 8 j), length-append (timestamp_bytes m) (le_bytes 8 j))))
fields_is (evict_merkle p q) = two_sized_is p q
fields_is (evict_blum p m) = rw (sized_is p, timestamp_is m) (pair_is (readable_bytes p) (readable_timestamp m) (sized_bytes p) (timestamp_bytes m))
fields_is (evict_blum_merkle p q m) =
    rw (two_sized_is p q, timestamp_is m) (pair_is (readable_bytes p && readable_bytes q) (readable_timestamp m) (sized_bytes p ++ sized_bytes q) (timestamp_bytes m)
    ∙ ap (λ xs. measured ((readable_bytes p && readable_bytes q) && readable_timestamp m) (length xs)) (append_assoc (sized_bytes p) (sized_bytes q) (timestamp_bytes m)))
fields_is next_epoch = refl
fields_is verify_epoch = refl
fields_is (get k v) = rw (sized_is k, value_is v) (pair_is (readable_bytes k) (readable_value v) (sized_bytes k) (value_bytes v))
fields_is (set k v) = two_sized_is k v

pub event_is : (t : ℕ) (e : Entry) → event_len t e ≡ cond (readable (logged t e)) (Some (length (event_bytes t e))) None
unfolding readable event_bytes entry_bytes
event_is t e =
    rw (number_is t, fields_is e)
    (both (fits_64 t) (readable_entry e) (length (le_bytes 8 t)) (length (fields_bytes e)) (λ m n. m + 1 + n)
    ∙ ap (measured (fits_64 t && readable_entry e)) (omega (arith, length-append (le_bytes 8 t) (entry_code e ∷ fields_bytes e))))

-- what a length tells: that there is one
pub length_tells : (b : Bool) (n len : ℕ) → Some len ≡ cond b (Some n) None → (b ≡ true) × (len ≡ n)
length_tells true n len e = let z : len ≡ n = cc in (refl, z)
length_tells false n len e = absurd (let z : ◌≡◌ {A = ℕ} 0 1 = cc in omega arith)

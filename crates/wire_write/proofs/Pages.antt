-- Bytes written at a place of a slice, and what is written after one another.
use Rattle.std.proofs.Common.{◌≡◌, ℕ, suc, ◌+◌, ◌-◌, ◌*◌, ◌/◌, ◌%◌, ◌^◌, ◌<◌, ◌≤◌, true, false, List, [], ◌∷◌, ◌++◌, length, get_or, take, drop, set, Some, None, sym, refl, ap, ◌∙◌, add-one, arith}
use borrow.Rule.Slice.PartMut.{put_mid}
use Rattle.std.proofs.lemmas.List.{append_assoc, append-nil, length-append, length-take-le, take_at, drop_at, drop-drop, set_split}
use Rattle.model.specs.Records.{pick, Bytes, Pointer, absent, present, Value, Record, data_record, node, le_bytes, le_number, sized_bytes, value_bytes, pointer_bytes, merkle_bytes, record_bytes}
use Rattle.model.specs.Verifier.{Timestamp, Entry, add_merkle, add_blum, evict_merkle, evict_blum, evict_blum_merkle, next_epoch, verify_epoch, get, set as put}
use Rattle.model.specs.Monitor.{entry_code}
use Rattle.model.specs.Wire.{timestamp_bytes, fields_bytes, entry_bytes, event_bytes}
use Rattle.reader.specs.Meaning.{hash_number}
use Rattle.wire_laws.proofs.Format.{AreBytes}
use Rattle.wire_laws.proofs.Numbers.{number_append, le_bytes_number, number_le_bytes, length_le_bytes, bytes_le_bytes, bytes_both}
use Rattle.wire_write.specs.Written.{Page, page, with_bytes, with_byte, with_sized, with_number, with_hash, with_timestamp, with_value, with_pointer, with_record, with_entry, sized_room, value_room, pointer_room, record_room, entry_room}

pub byte_set : (m : Bytes) (i b : ℕ) → i < length m → page (set m i b) (i + 1) ≡ with_byte (page m i) b
unfolding with_bytes
byte_set m i b h = let s : i + 1 ≡ suc i = add-one i in rw (s) (ap (λ ys. page ys (suc i)) (set_split m i b h))

-- a part of the slice is overwritten
pub slice_put : (m : Bytes) (i : ℕ) (ws : Bytes) → page (put_mid i (i + length ws - i) m ws) (i + length ws) ≡ with_bytes (page m i) ws
unfolding with_bytes
slice_put m i ws = let k : i + (i + length ws - i) ≡ i + length ws = omega arith in ap (λ ys. page (take i m ++ (ws ++ ys)) (i + length ws)) (drop-drop (i + length ws - i) i m ∙ ap (λ n. drop n m) k)

-- one after the other
pub merged : (p : Page) (xs ys : Bytes) → p.at ≤ length p.bytes → with_bytes (with_bytes p xs) ys ≡ with_bytes p (xs ++ ys)
unfolding with_bytes
merged p xs ys h =
    let m = p.bytes in
    let i = p.at in
    let front : Bytes = take i m ++ xs in
    let l : length front ≡ i + length xs = simp length-append (ap (λ n. n + length xs) (length-take-le i m h)) in
    let whole : take i m ++ (xs ++ drop (i + length xs) m) ≡ front ++ drop (i + length xs) m = sym (append_assoc (take i m) xs (drop (i + length xs) m)) in
    let t : take (i + length xs) (take i m ++ (xs ++ drop (i + length xs) m)) ≡ front = ap (take (i + length xs)) whole ∙ take_at front (drop (i + length xs) m) (i + length xs) l in
    let d : drop (i + length xs + length ys) (take i m ++ (xs ++ drop (i + length xs) m)) ≡ drop (i + length xs + length ys) m =
    ap (drop (i + length xs + length ys)) whole ∙ (sym (drop-drop (length ys) (i + length xs) (front ++ drop (i + length xs) m))
    ∙ (ap (drop (length ys)) (drop_at front (drop (i + length xs) m) (i + length xs) l) ∙ drop-drop (length ys) (i + length xs) m)) in
    let n : i + length (xs ++ ys) ≡ i + length xs + length ys = simp length-append (omega arith) in
    rw (t, d, n, append_assoc (take i m) xs (ys ++ drop (i + length xs + length ys) m), append_assoc xs ys (drop (i + length xs + length ys) m))

pub sized_put : (p : Page) (t : Bytes) → p.at ≤ length p.bytes → with_bytes (with_byte (with_byte p (length t % 256)) (length t / 256 % 256)) t ≡ with_sized p t
unfolding le_bytes
sized_put p t h =
    ap (λ q. with_bytes q t) (merged p (length t % 256 ∷ []) (length t / 256 % 256 ∷ []) h) ∙ merged p (length t % 256 ∷ (length t / 256 % 256 ∷ [])) t h

-- a number's low word, and the rest of it
low_word : (a : ℕ) (xs : Bytes) → a < 18446744073709551616 → le_number (le_bytes 8 a ++ xs) ≡ a + 18446744073709551616 * le_number xs
low_word a xs h =
    number_append (le_bytes 8 a) xs ∙ (ap (λ n. n + 256 ^ length (le_bytes 8 a) * le_number xs) (number_le_bytes 8 a h) ∙ ap (λ n. a + 256 ^ n * le_number xs) (length_le_bytes 8 a))

words_bytes : (a b c d : ℕ) → a < 18446744073709551616 → b < 18446744073709551616 → c < 18446744073709551616 → d < 18446744073709551616 →
    le_bytes 32 (hash_number (a ∷ b ∷ c ∷ d ∷ [])) ≡ le_bytes 8 a ++ (le_bytes 8 b ++ (le_bytes 8 c ++ (le_bytes 8 d ++ [])))
unfolding le_number
words_bytes a b c d ha hb hc hd =
    let xd : Bytes = le_bytes 8 d ++ [] in
    let xc : Bytes = le_bytes 8 c ++ xd in
    let xb : Bytes = le_bytes 8 b ++ xc in
    let xa : Bytes = le_bytes 8 a ++ xb in
    let bytes : AreBytes xa =
    bytes_both (le_bytes 8 a) xb (bytes_le_bytes 8 a) (bytes_both (le_bytes 8 b) xc (bytes_le_bytes 8 b) (bytes_both (le_bytes 8 c) xd (bytes_le_bytes 8 c) (bytes_both (le_bytes 8 d) [] (bytes_le_bytes 8 d) tt))) in
    let l : length xa ≡ 32 = simp (length-append, length_le_bytes) in
    let n : le_number xa ≡ hash_number (a ∷ b ∷ c ∷ d ∷ []) =
    low_word a xb ha ∙ ap (λ z. a + 18446744073709551616 * z) (low_word b xc hb ∙ ap (λ z. b + 18446744073709551616 * z) (low_word c xd hc ∙ ap (λ z. c + 18446744073709551616 * z) (low_word d [] hd))) in
    rw (← n) (ap (λ k. le_bytes k (le_number xa)) (sym l) ∙ le_bytes_number xa bytes)

pub hash_put : (p : Page) (ws : List ℕ) → p.at ≤ length p.bytes → length ws ≡ 4 →
    get_or ws 0 0 < 18446744073709551616 → get_or ws 1 0 < 18446744073709551616 → get_or ws 2 0 < 18446744073709551616 → get_or ws 3 0 < 18446744073709551616 →
    with_number (with_number (with_number (with_number p (get_or ws 0 0)) (get_or ws 1 0)) (get_or ws 2 0)) (get_or ws 3 0) ≡ with_hash p (hash_number ws)
hash_put p [] h l a b c d = absurd (omega arith)
hash_put p (v ∷ []) h l a b c d = absurd (omega arith)
hash_put p (v ∷ w ∷ []) h l a b c d = absurd (omega arith)
hash_put p (v ∷ w ∷ x ∷ []) h l a b c d = absurd (omega arith)
hash_put p (v ∷ w ∷ x ∷ y ∷ []) h l a b c d =
    rw (merged p (le_bytes 8 v) (le_bytes 8 w) h, merged p (le_bytes 8 v ++ le_bytes 8 w) (le_bytes 8 x) h, merged p ((le_bytes 8 v ++ le_bytes 8 w) ++ le_bytes 8 x) (le_bytes 8 y) h)
    (ap (with_bytes p) (rw (words_bytes v w x y a b c d, append-nil (le_bytes 8 y)) (simp append_assoc)))
hash_put p (v ∷ w ∷ x ∷ y ∷ z ∷ ws) h l a b c d = absurd (omega arith)

-- after what is already written, the rest of it
module _ (p : Page) (h : p.at ≤ length p.bytes) where
  timestamp_put : (ws : Bytes) (m : Timestamp) → with_timestamp (with_bytes p ws) m ≡ with_bytes p (ws ++ timestamp_bytes m)
  timestamp_put ws m =
      rw (merged p ws (le_bytes 8 m.epoch) h, merged p (ws ++ le_bytes 8 m.epoch) (le_bytes 8 m.counter) h) (ap (with_bytes p) (append_assoc ws (le_bytes 8 m.epoch) (le_bytes 8 m.counter)))

  value_put : (ws : Bytes) (v : Value) → with_value (with_bytes p ws) v ≡ with_bytes p (ws ++ value_bytes v)
  unfolding value_bytes
  value_put ws None = merged p ws (0 ∷ []) h
  value_put ws (Some t) = rw (merged p ws (1 ∷ []) h, merged p (ws ++ (1 ∷ [])) (sized_bytes t) h) (ap (with_bytes p) (append_assoc ws (1 ∷ []) (sized_bytes t)))

  present_put : (ws q : Bytes) (k b : ℕ) → with_hash (with_sized (with_byte (with_byte (with_bytes p ws) 1) b) q) k ≡ with_bytes p (ws ++ (1 ∷ (b ∷ (sized_bytes q ++ le_bytes 32 k))))
  present_put ws q k b =
      rw (
        merged p ws (1 ∷ []) h,
        merged p (ws ++ (1 ∷ [])) (b ∷ []) h,
        merged p ((ws ++ (1 ∷ [])) ++ (b ∷ [])) (sized_bytes q) h,
        merged p (((ws ++ (1 ∷ [])) ++ (b ∷ [])) ++ sized_bytes q) (le_bytes 32 k) h,
      )
      (ap (with_bytes p) (simp append_assoc))

  pointer_put : (ws : Bytes) (c : Pointer) → with_pointer (with_bytes p ws) c ≡ with_bytes p (ws ++ pointer_bytes c)
  unfolding pointer_bytes pick
  pointer_put ws absent = merged p ws (0 ∷ []) h
  pointer_put ws (present q k true) = present_put ws q k 1
  pointer_put ws (present q k false) = present_put ws q k 0

  -- a record's kind, its name, and its kind again
  kind_put : (ws n : Bytes) (k : ℕ) → with_byte (with_sized (with_byte (with_bytes p ws) k) n) k ≡ with_bytes p (ws ++ (k ∷ (sized_bytes n ++ (k ∷ []))))
  kind_put ws n k =
      rw (merged p ws (k ∷ []) h, merged p (ws ++ (k ∷ [])) (sized_bytes n) h, merged p ((ws ++ (k ∷ [])) ++ sized_bytes n) (k ∷ []) h) (ap (with_bytes p) (simp append_assoc))

  record_put : (ws : Bytes) (r : Record) → with_record (with_bytes p ws) r ≡ with_bytes p (ws ++ record_bytes r)
  unfolding record_bytes merkle_bytes
  record_put ws (data_record k v) = rw (kind_put ws k 0, value_put (ws ++ (0 ∷ (sized_bytes k ++ (0 ∷ [])))) v) (ap (with_bytes p) (simp append_assoc))
  record_put ws (node q c) =
      rw (kind_put ws q 1, pointer_put (ws ++ (1 ∷ (sized_bytes q ++ (1 ∷ [])))) c.left, pointer_put ((ws ++ (1 ∷ (sized_bytes q ++ (1 ∷ [])))) ++ pointer_bytes c.left) c.right)
      (ap (with_bytes p) (simp append_assoc))

  pub entry_put : (ws : Bytes) (e : Entry) → with_entry (with_bytes p ws) e ≡ with_bytes p (ws ++ entry_bytes e)
  unfolding entry_bytes fields_bytes entry_code
  entry_put ws (add_merkle r q) =
      rw (merged p ws (0 ∷ []) h, record_put (ws ++ (0 ∷ [])) r, merged p ((ws ++ (0 ∷ [])) ++ record_bytes r) (sized_bytes q) h) (ap (with_bytes p) (simp append_assoc))
  entry_put ws (add_blum r m j) =
      rw (
        merged p ws (1 ∷ []) h,
        record_put (ws ++ (1 ∷ [])) r,
        timestamp_put ((ws ++ (1 ∷ [])) ++ record_bytes r) m,
        merged p (((ws ++ (1 ∷ [])) ++ record_bytes r) ++ timestamp_bytes m) (le_bytes 8 j) h,
      )
      (ap (with_bytes p) (simp append_assoc))
  entry_put ws (evict_merkle q o) =
      rw (merged p ws (2 ∷ []) h, merged p (ws ++ (2 ∷ [])) (sized_bytes q) h, merged p ((ws ++ (2 ∷ [])) ++ sized_bytes q) (sized_bytes o) h) (ap (with_bytes p) (simp append_assoc))
  entry_put ws (evict_blum q m) =
      rw (merged p ws (3 ∷ []) h, merged p (ws ++ (3 ∷ [])) (sized_bytes q) h, timestamp_put ((ws ++ (3 ∷ [])) ++ sized_bytes q) m) (ap (with_bytes p) (simp append_assoc))
  entry_put ws (evict_blum_merkle q o m) =
      rw (
        merged p ws (4 ∷ []) h,
        merged p (ws ++ (4 ∷ [])) (sized_bytes q) h,
        merged p ((ws ++ (4 ∷ [])) ++ sized_bytes q) (sized_bytes o) h,
        timestamp_put (((ws ++ (4 ∷ [])) ++ sized_bytes q) ++ sized_bytes o) m,
      )
      (ap (with_bytes p) (simp append_assoc))
  entry_put ws next_epoch = merged p ws (5 ∷ []) h
  entry_put ws verify_epoch = merged p ws (6 ∷ []) h
  entry_put ws (get k v) =
      rw (merged p ws (7 ∷ []) h, merged p (ws ++ (7 ∷ [])) (sized_bytes k) h, value_put ((ws ++ (7 ∷ [])) ++ sized_bytes k) v) (ap (with_bytes p) (simp append_assoc))
  entry_put ws (put k v) =
      rw (merged p ws (8 ∷ []) h, merged p (ws ++ (8 ∷ [])) (sized_bytes k) h, merged p ((ws ++ (8 ∷ [])) ++ sized_bytes k) (sized_bytes v) h) (ap (with_bytes p) (simp append_assoc))

-- ---- at the front of a slice

pub event_put : (m : Bytes) (t : ℕ) (e : Entry) → with_entry (with_number (page m 0) t) e ≡ with_bytes (page m 0) (event_bytes t e)
unfolding event_bytes
event_put m t e = entry_put (page m 0) (omega arith) (le_bytes 8 t) e

pub refused_put : (m : Bytes) (c p : ℕ) → with_number (with_byte (with_byte (page m 0) 0) c) p ≡ with_bytes (page m 0) (0 ∷ (c ∷ le_bytes 8 p))
refused_put m c p = rw (merged (page m 0) (0 ∷ []) (c ∷ []) (omega arith), merged (page m 0) (0 ∷ (c ∷ [])) (le_bytes 8 p) (omega arith))

pub certified_put : (m : Bytes) (n : ℕ) → with_number (with_byte (page m 0) 3) n ≡ with_bytes (page m 0) (3 ∷ le_bytes 8 n)
certified_put m n = merged (page m 0) (3 ∷ []) (le_bytes 8 n) (omega arith)

-- how long what was written is, and what the slice holds
pub at_front : (m after ws : Bytes) (r : ℕ) → page after r ≡ with_bytes (page m 0) ws → (r ≡ length ws) × (after ≡ ws ++ drop r m)
unfolding with_bytes
at_front m after ws r e =
    let n : r ≡ length ws = ap (λ p. p.at) e ∙ omega arith in
    let z : 0 + length ws ≡ r = omega arith in
    (n, ap (λ p. p.bytes) e ∙ ap (λ k. ws ++ drop k m) z)

-- ---- room

sized_length : (t : Bytes) → length (sized_bytes t) ≡ sized_room t
sized_length t = simp (length-append, length_le_bytes)

value_length : (v : Value) → length (value_bytes v) ≡ value_room v
unfolding value_bytes
value_length None = refl
value_length (Some t) = omega (arith, sized_length t)

pointer_length : (c : Pointer) → length (pointer_bytes c) ≡ pointer_room c
unfolding pointer_bytes
pointer_length absent = refl
pointer_length (present q k b) = omega (arith, length-append (sized_bytes q) (le_bytes 32 k), length_le_bytes 32 k, sized_length q)

record_length : (r : Record) → length (record_bytes r) ≡ record_room r
unfolding record_bytes merkle_bytes
record_length (data_record k v) = omega (arith, length-append (sized_bytes k) (0 ∷ value_bytes v), sized_length k, value_length v)
record_length (node q c) =
    omega (
      arith,
      length-append (sized_bytes q) (1 ∷ (pointer_bytes c.left ++ pointer_bytes c.right)),
      length-append (pointer_bytes c.left) (pointer_bytes c.right),
      sized_length q,
      pointer_length c.left,
      pointer_length c.right,
    )

timestamp_length : (m : Timestamp) → length (timestamp_bytes m) ≡ 16
timestamp_length m = simp (length-append, length_le_bytes)

entry_length : (e : Entry) → length (entry_bytes e) ≡ entry_room e
unfolding entry_bytes fields_bytes
entry_length (add_merkle r q) = omega (arith, length-append (record_bytes r) (sized_bytes q), record_length r, sized_length q)
entry_length (add_blum r m j) =
    omega (arith, length-append (record_bytes r) (timestamp_bytes m ++ le_bytes 8 j), length-append (timestamp_bytes m) (le_bytes 8 j), record_length r, timestamp_length m, length_le_bytes 8 j)
entry_length (evict_merkle p q) = omega (arith, length-append (sized_bytes p) (sized_bytes q), sized_length p, sized_length q)
entry_length (evict_blum p m) = omega (arith, length-append (sized_bytes p) (timestamp_bytes m), sized_length p, timestamp_length m)
entry_length (evict_blum_merkle p q m) =
    omega (arith, length-append (sized_bytes p) (sized_bytes q ++ timestamp_bytes m), length-append (sized_bytes q) (timestamp_bytes m), sized_length p, sized_length q, timestamp_length m)
entry_length next_epoch = refl
entry_length verify_epoch = refl
entry_length (get k v) = omega (arith, length-append (sized_bytes k) (value_bytes v), sized_length k, value_length v)
entry_length (put k v) = omega (arith, length-append (sized_bytes k) (sized_bytes v), sized_length k, sized_length v)

pub event_length : (t : ℕ) (e : Entry) → length (event_bytes t e) ≡ 8 + entry_room e
unfolding event_bytes
event_length t e = omega (arith, length-append (le_bytes 8 t) (entry_bytes e), length_le_bytes 8 t, entry_length e)

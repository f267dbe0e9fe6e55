-- The laws of the least readers.
use Rattle.std.proofs.Common.{◌≡◌, ℕ, zero, suc, ◌+◌, ◌-◌, ◌*◌, ◌/◌, ◌%◌, ◌^◌, ◌<◌, ◌≤◌, Bool, true, false, cond, eqb, ltb, leb, List, [], ◌∷◌, ◌++◌, length, get_or, take, drop, replicate, sym, refl, ap, ◌∙◌, subst, mul_assoc, arith}
use native.Mathlib.Nat.{pow-succ', div-div-eq-div-mul}
use Rattle.std.proofs.lemmas.List.{append-nil, length-replicate, length-append, take_at, drop_at, take-append-drop, length-take-le, drop_all, drop-drop, length-drop}
use Rattle.std.proofs.lemmas.Bool.{lt-ltb, le-leb, eq-eqb, ltb-true, leb-true, leb-false, and_parts, and_from}
use Rattle.model.specs.Records.{le_number, le_bytes}
use Rattle.model.specs.Readable.{all_below}
use Rattle.model.specs.Wire.{got, stop, reads_chunk, reads_number, reads_one, reads_tag, reads_just}
use Rattle.wire_laws.proofs.Format.{AreBytes, bytes_left, Took, Halted, Lawful, like, End, end, Seq, seq}

pub below_bytes : (xs : List ℕ) → AreBytes xs → all_below 256 xs ≡ true
unfolding all_below
below_bytes [] b = refl
below_bytes (x ∷ xs) b = and_from (ltb x 256) (all_below 256 xs) (lt-ltb x 256 b.0) (below_bytes xs b.1)

pub bytes_below : (xs : List ℕ) → all_below 256 xs ≡ true → AreBytes xs
unfolding all_below
bytes_below [] e = tt
bytes_below (x ∷ xs) e = let p = and_parts (ltb x 256) (all_below 256 xs) e in (ltb-true x 256 p.0, bytes_below xs p.1)

bytes_zeros : (n : ℕ) → AreBytes (replicate n 0)
bytes_zeros zero = tt
bytes_zeros (suc n) = (omega arith, bytes_zeros n)

pub bytes_both : (xs ys : List ℕ) → AreBytes xs → AreBytes ys → AreBytes (xs ++ ys)
bytes_both [] ys b c = c
bytes_both (x ∷ xs) ys b c = (b.0, bytes_both xs ys b.1 c)

-- so many bytes
pub record Chunk (n : ℕ) (ds ws : List ℕ) : Type 0 where
  pub size : length ds ≡ n
  pub small : AreBytes ds
  pub same : ds ≡ ws

module _ (n : ℕ) where
  chunk_round : (ds ws zs : List ℕ) → Chunk n ds ws → reads_chunk n (ws ++ zs) ≡ got ds zs
  unfolding reads_chunk
  chunk_round ds ws zs c =
      let l : length ws ≡ n = ap length (sym c.same) ∙ c.size in
      let t : leb n (length (ws ++ zs)) ≡ true = le-leb n (length (ws ++ zs)) (simp length-append (omega arith)) in
      rw (t, take_at ws zs n l, drop_at ws zs n l, c.same)

  chunk_exact : (bs ds zs : List ℕ) → AreBytes bs → (t : Bool) → leb n (length bs) ≡ t → cond t (got (take n bs) (drop n bs)) (stop []) ≡ got ds zs → Took (Chunk n) bs ds zs
  chunk_exact bs ds zs b true e h =
      let p : take n bs ≡ ds = cc in
      let q : drop n bs ≡ zs = cc in
      record {
        used = take n bs;
        is = record {
          size = ap length (sym p) ∙ length-take-le n bs (leb-true n (length bs) e);
          small = subst AreBytes p (bytes_left (take n bs) (drop n bs) (subst AreBytes (sym (take-append-drop n bs)) b));
          same = sym p;
        };
        splits = ap (λ xs. take n bs ++ xs) (sym q) ∙ take-append-drop n bs;
      }
  chunk_exact bs ds zs b false e h = absurd (let z : ◌≡◌ {A = ℕ} 0 1 = cc in omega arith)

  chunk_halts : (bs zs : List ℕ) → AreBytes bs → (t : Bool) → leb n (length bs) ≡ t → cond t (got (take n bs) (drop n bs)) (stop []) ≡ stop zs → Halted (reads_chunk n) (Chunk n) bs zs
  chunk_halts bs zs b true e h = absurd (let z : ◌≡◌ {A = ℕ} 0 1 = cc in omega arith)
  chunk_halts bs zs b false e h =
      let q : [] ≡ zs = cc in
      let l : length bs < n = leb-false n (length bs) e in
      subst (Halted (reads_chunk n) (Chunk n) bs) q
      (record {
        front = bs;
        splits = append-nil bs;
        begun = record {
          who = bs ++ replicate (n - length bs) 0;
          more = replicate (n - length bs) 0;
          is = record { size = simp (length-append, length-replicate) (omega arith); small = bytes_both bs (replicate (n - length bs) 0) b (bytes_zeros (n - length bs)); same = refl };
        };
        dead = tt;
      })

  pub chunk_law : Lawful (reads_chunk n) (Chunk n)
  unfolding reads_chunk
  chunk_law =
      record {
        some = record { who = replicate n 0; used = replicate n 0; is = record { size = length-replicate n 0; small = bytes_zeros n; same = refl } };
        round = chunk_round;
        exact = λ bs ds zs b h. chunk_exact bs ds zs b (leb n (length bs)) refl h;
        halts = λ bs zs b h. chunk_halts bs zs b (leb n (length bs)) refl h;
      }

-- one byte that is fit
pub record One (ok : ℕ → Bool) (b : ℕ) (ws : List ℕ) : Type 0 where
  pub fit : ok b ≡ true
  pub same : ws ≡ b ∷ []

module _ (ok : ℕ → Bool) (low : ℕ) (fits : ok low ≡ true) where
  one_round : (b : ℕ) (ws zs : List ℕ) → One ok b ws → reads_one ok (ws ++ zs) ≡ got b zs
  unfolding reads_one
  one_round b ws zs o = rw (o.same, o.fit)

  one_exact : (x : ℕ) (xs : List ℕ) (a : ℕ) (zs : List ℕ) (t : Bool) → ok x ≡ t → cond t (got x xs) (stop (x ∷ xs)) ≡ got a zs → Took (One ok) (x ∷ xs) a zs
  one_exact x xs a zs true e h =
      let p : x ≡ a = cc in
      let q : xs ≡ zs = cc in
      record { used = a ∷ []; is = record { fit = ap ok (sym p) ∙ e; same = refl }; splits = cc }
  one_exact x xs a zs false e h = absurd (let z : ◌≡◌ {A = ℕ} 0 1 = cc in omega arith)

  one_dead : (x : ℕ) → ok x ≡ false → (ys : List ℕ) → reads_one ok (x ∷ ys) ≡ stop (x ∷ ys)
  unfolding reads_one
  one_dead x e ys = rw e

  one_halts : (x : ℕ) (xs zs : List ℕ) (t : Bool) → ok x ≡ t → cond t (got x xs) (stop (x ∷ xs)) ≡ stop zs → Halted (reads_one ok) (One ok) (x ∷ xs) zs
  one_halts x xs zs true e h = absurd (let z : ◌≡◌ {A = ℕ} 0 1 = cc in omega arith)
  one_halts x xs zs false e h =
      let q : (x ∷ xs) ≡ zs = cc in
      subst (Halted (reads_one ok) (One ok) (x ∷ xs)) q
      (record { front = []; splits = refl; begun = record { who = low; more = low ∷ []; is = record { fit = fits; same = refl } }; dead = one_dead x e })

  one_exacts : (bs : List ℕ) (a : ℕ) (zs : List ℕ) → AreBytes bs → reads_one ok bs ≡ got a zs → Took (One ok) bs a zs
  unfolding reads_one
  one_exacts [] a zs b h = absurd (let z : ◌≡◌ {A = ℕ} 0 1 = cc in omega arith)
  one_exacts (x ∷ xs) a zs b h = one_exact x xs a zs (ok x) refl h

  one_haltss : (bs zs : List ℕ) → AreBytes bs → reads_one ok bs ≡ stop zs → Halted (reads_one ok) (One ok) bs zs
  unfolding reads_one
  one_haltss [] zs b h =
      let q : [] ≡ zs = cc in
      subst (Halted (reads_one ok) (One ok) []) q
      (record { front = []; splits = refl; begun = record { who = low; more = low ∷ []; is = record { fit = fits; same = refl } }; dead = tt })
  one_haltss (x ∷ xs) zs b h = one_halts x xs zs (ok x) refl h

  pub one_law : Lawful (reads_one ok) (One ok)
  one_law = record { some = record { who = low; used = low ∷ []; is = record { fit = fits; same = refl } }; round = one_round; exact = one_exacts; halts = one_haltss }

-- a number in n bytes
pub record Number (n v : ℕ) (ws : List ℕ) : Type 0 where
  pub small : v < 256 ^ n
  pub same : le_bytes n v ≡ ws

pub le_bytes_number : (ds : List ℕ) → AreBytes ds → le_bytes (length ds) (le_number ds) ≡ ds
unfolding le_bytes le_number
le_bytes_number [] b = refl
le_bytes_number (d ∷ ds) b =
    let m : (d + 256 * le_number ds) % 256 ≡ d = omega arith in
    let q : (d + 256 * le_number ds) / 256 ≡ le_number ds = omega arith in
    rw (m, q, le_bytes_number ds b.1)

number_small : (ds : List ℕ) → AreBytes ds → le_number ds < 256 ^ length ds
unfolding le_number
number_small [] b = omega arith
number_small (d ∷ ds) b = rw (pow-succ' 256 (length ds)) (omega (arith, number_small ds b.1))

pub number_le_bytes : (n v : ℕ) → v < 256 ^ n → le_number (le_bytes n v) ≡ v
unfolding le_bytes le_number
number_le_bytes zero v h = omega arith
number_le_bytes (suc n) v h =
    let p : v < 256 * 256 ^ n = rw (pow-succ' 256 n) at h in
    let q : v / 256 < 256 ^ n = omega arith in
    rw (number_le_bytes n (v / 256) q) (omega arith)

pub length_le_bytes : (n v : ℕ) → length (le_bytes n v) ≡ n
unfolding le_bytes
length_le_bytes zero v = refl
length_le_bytes (suc n) v = ap suc (length_le_bytes n (v / 256))

pub bytes_le_bytes : (n v : ℕ) → AreBytes (le_bytes n v)
unfolding le_bytes
bytes_le_bytes zero v = tt
bytes_le_bytes (suc n) v = (omega arith, bytes_le_bytes n (v / 256))

pub number_law : (n : ℕ) → Lawful (reads_number n) (Number n)
unfolding reads_number
number_law n = like (seq (chunk_law n) (λ ds us c. end (le_number ds))) to from
  where
    to : (v : ℕ) (ws : List ℕ) → Seq (Chunk n) (λ ds. End (le_number ds)) v ws → Number n v ws
    to v ws s =
        let e : s.first ≡ ws = s.head.same ∙ (sym (append-nil s.us) ∙ (ap (λ xs. s.us ++ xs) (sym s.tail.none) ∙ s.splits)) in
        let k = s.head.size in
        record {
          small = rw (s.tail.same, ← k) (number_small s.first s.head.small);
          same = rw (s.tail.same, ← k) (le_bytes_number s.first s.head.small ∙ e);
        }

    from : (v : ℕ) (ws : List ℕ) → Number n v ws → Seq (Chunk n) (λ ds. End (le_number ds)) v ws
    from v ws m =
        record {
          first = le_bytes n v;
          us = le_bytes n v;
          vs = [];
          head = record { size = length_le_bytes n v; small = bytes_le_bytes n v; same = refl };
          tail = record { same = sym (number_le_bytes n v m.small); none = refl };
          splits = append-nil (le_bytes n v) ∙ m.same;
        }

pub tag_law : (n : ℕ) → 0 < n → Lawful (reads_tag n) (One (λ b. ltb b n))
unfolding reads_tag
tag_law n h = one_law (λ b. ltb b n) 0 (lt-ltb 0 n h)

pub just_law : (n : ℕ) → Lawful (reads_just n) (One (λ b. eqb b n))
unfolding reads_just
just_law n = one_law (λ b. eqb b n) n (eq-eqb n n refl)

-- eight bytes, written out
pub eight_bytes : (n : ℕ) →
    le_bytes 8 n ≡ n % 256 ∷ (n / 256 % 256 ∷ (n / 65536 % 256 ∷ (n / 16777216 % 256 ∷ (n / 4294967296 % 256 ∷ (n / 1099511627776 % 256 ∷ (n / 281474976710656 % 256 ∷ (n / 72057594037927936 % 256 ∷ [])))))))
unfolding le_bytes
eight_bytes n = simp div-div-eq-div-mul

-- the digit at i, and the number of those after it
pub digit : (xs : List ℕ) (i : ℕ) → le_number (drop i xs) ≡ get_or xs i 0 + 256 * le_number (drop (suc i) xs)
unfolding le_number
digit [] zero = refl
digit [] (suc i) = refl
digit (x ∷ xs) zero = refl
digit (x ∷ xs) (suc i) = digit xs i

pub two_digits : (xs : List ℕ) → length xs ≡ 2 → le_number xs ≡ get_or xs 0 0 + 256 * get_or xs 1 0
unfolding le_number
two_digits xs h = let e = ap le_number (drop_all 2 xs (omega arith)) in omega (arith, digit xs 0, digit xs 1)

pub eight_digits : (xs : List ℕ) → length xs ≡ 8 →
    le_number xs ≡ get_or xs 0 0 + get_or xs 1 0 * 256 + get_or xs 2 0 * 65536 + get_or xs 3 0 * 16777216 + get_or xs 4 0 * 4294967296 + get_or xs 5 0 * 1099511627776 + get_or xs 6 0 * 281474976710656 + get_or xs 7 0 * 72057594037927936
unfolding le_number
eight_digits xs h =
    let e = ap le_number (drop_all 8 xs (omega arith)) in
    omega (arith, digit xs 0, digit xs 1, digit xs 2, digit xs 3, digit xs 4, digit xs 5, digit xs 6, digit xs 7)

-- low digits, and the rest of a number
pub number_append : (xs ys : List ℕ) → le_number (xs ++ ys) ≡ le_number xs + 256 ^ length xs * le_number ys
unfolding le_number
number_append [] ys = omega arith
number_append (x ∷ xs) ys = rw (number_append xs ys, pow-succ' 256 (length xs), mul_assoc 256 (256 ^ length xs) (le_number ys)) (omega arith)

pub low_word : (xs : List ℕ) → 8 ≤ length xs → le_number xs ≡ le_number (take 8 xs) + 18446744073709551616 * le_number (drop 8 xs)
low_word xs h =
    ap le_number (sym (take-append-drop 8 xs)) ∙ (number_append (take 8 xs) (drop 8 xs) ∙ ap (λ k. le_number (take 8 xs) + 256 ^ k * le_number (drop 8 xs)) (length-take-le 8 xs h))

pub four_words : (xs : List ℕ) (a b c d : ℕ) → length xs ≡ 32 → a ≡ le_number (take 8 xs) → b ≡ le_number (take 8 (drop 8 xs)) → c ≡ le_number (take 8 (drop 16 xs)) → d ≡ le_number (take 8 (drop 24 xs)) →
    le_number xs ≡ a + 18446744073709551616 * (b + 18446744073709551616 * (c + 18446744073709551616 * (d + 0)))
unfolding le_number
four_words xs a b c d l ha hb hc hd =
    let e0 = low_word xs (omega arith) in
    let e1 = low_word (drop 8 xs) (simp length-drop (omega arith)) in
    let e2 = low_word (drop 16 xs) (simp length-drop (omega arith)) in
    let e3 = low_word (drop 24 xs) (simp length-drop (omega arith)) in
    omega (arith, ap le_number (drop-drop 8 8 xs), ap le_number (drop-drop 8 16 xs), ap le_number (drop-drop 8 24 xs), ap le_number (drop_all 32 xs (omega arith)))

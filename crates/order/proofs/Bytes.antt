-- What is hashed can be told by its bytes: a digest is 32 bytes, a key's path tells its digest, and each encoding is injective.
use Rattle.std.proofs.Common.{◌≡◌, ℕ, zero, suc, ◌*◌, ◌/◌, ◌%◌, ◌^◌, ◌<◌, ◌≤◌, Bool, true, false, ◌⊎◌, List, [], ◌∷◌, ◌++◌, length, take, drop, Some, None, sym, refl, ap, ◌∙◌, ap₂, inl, inr, append_assoc, arith}
use native.Mathlib.Nat.{pow-succ'}
use Rattle.std.proofs.lemmas.List.{length-append}
use Rattle.model.specs.Sha256.{round_constants, State, initial_state, extend_schedule, rounds, add_states, be_words, be_bytes, padded, compress, state_bytes, sha256}
use Rattle.model.specs.Records.{pick, Bytes, same_bytes, bits, bits_of_bytes, key_path, node, Pointer, absent, present, Children, Value, Record, data_record, path_of, le_bytes, le_number, sized_bytes, pointer_bytes, value_bytes, merkle_bytes, record_bytes, hash_of}
use Rattle.model.specs.Verifier.{Element}
use Rattle.model.specs.Monitor.{modulus, element_bytes}
use Rattle.order.proofs.Paths.{same_or, not_same}

abbrev pub Small : List ℕ → Type 0
Small [] = Unit
Small (x ∷ xs) = (x < 256) × Small xs

small-++ : (xs ys : List ℕ) → Small xs → Small ys → Small (xs ++ ys)
small-++ [] ys a b = b
small-++ (x ∷ xs) ys a b = (a.0, small-++ xs ys a.1 b)

record Words (s : State) : Type 0 where
  wa : s.a < 4294967296
  wb : s.b < 4294967296
  wc : s.c < 4294967296
  wd : s.d < 4294967296
  we : s.e < 4294967296
  wf : s.f < 4294967296
  wg : s.g < 4294967296
  wh : s.h < 4294967296

words_first : Words initial_state
words_first = omega arith

words_both : (s t : State) → Words (add_states s t)
words_both s t = omega arith

words_blocks : (n : ℕ) (s : State) (m : List ℕ) → Words s → Words (compress n s m)
unfolding compress
words_blocks zero s m w = w
words_blocks (suc n) s m w =
    words_blocks n (add_states s (rounds s round_constants (extend_schedule 48 (be_words (take 64 m))))) (drop 64 m) (words_both s (rounds s round_constants (extend_schedule 48 (be_words (take 64 m)))))

small_four : (w : ℕ) → w < 4294967296 → Small (be_bytes w)
small_four w h = omega arith

small_bytes : (s : State) → Words s → Small (state_bytes s)
small_bytes s w =
    small-++ (be_bytes s.a) (be_bytes s.b ++ (be_bytes s.c ++ (be_bytes s.d ++ (be_bytes s.e ++ (be_bytes s.f ++ (be_bytes s.g ++ be_bytes s.h)))))) (small_four s.a w.wa)
    (small-++ (be_bytes s.b) (be_bytes s.c ++ (be_bytes s.d ++ (be_bytes s.e ++ (be_bytes s.f ++ (be_bytes s.g ++ be_bytes s.h))))) (small_four s.b w.wb)
    (small-++ (be_bytes s.c) (be_bytes s.d ++ (be_bytes s.e ++ (be_bytes s.f ++ (be_bytes s.g ++ be_bytes s.h)))) (small_four s.c w.wc)
    (small-++ (be_bytes s.d) (be_bytes s.e ++ (be_bytes s.f ++ (be_bytes s.g ++ be_bytes s.h))) (small_four s.d w.wd)
    (small-++ (be_bytes s.e) (be_bytes s.f ++ (be_bytes s.g ++ be_bytes s.h)) (small_four s.e w.we)
    (small-++ (be_bytes s.f) (be_bytes s.g ++ be_bytes s.h) (small_four s.f w.wf)
    (small-++ (be_bytes s.g) (be_bytes s.h) (small_four s.g w.wg) (small_four s.h w.wh)))))))

pub sha_small : (m : List ℕ) → Small (sha256 m)
unfolding sha256
sha_small m = small_bytes (compress (length (padded m) / 64) initial_state (padded m)) (words_blocks (length (padded m) / 64) initial_state (padded m) words_first)

pub sha_length : (m : List ℕ) → length (sha256 m) ≡ 32
unfolding sha256
sha_length m = refl

number_small : (bs : List ℕ) → Small bs → le_number bs < 256 ^ length bs
unfolding le_number
number_small [] s = omega arith
number_small (b ∷ bs) s =
    let h = number_small bs s.1 in
    let k = s.0 in
    omega (arith, pow-succ' 256 (length bs))

pub hash_small : (bs : List ℕ) → hash_of bs < modulus
hash_small bs = rw (sha_length (bs)) at (number_small (sha256 bs) (sha_small bs))

halves : (b c : ℕ) → b / 2 ≡ c / 2 → b % 2 ≡ c % 2 → b ≡ c
halves b c e f = omega arith

last_bit : (b c n : ℕ) → b < n → c < n → n ≤ 2 → b % 2 ≡ c % 2 → b ≡ c
last_bit b c n hb hc hn e = omega arith

-- a byte from its bits
byte_tells : (b c : ℕ) → b < 256 → c < 256 → (xs ys : List ℕ) → bits 8 b ++ xs ≡ bits 8 c ++ ys → (b ≡ c) × (xs ≡ ys)
unfolding bits
byte_tells b c hb hc xs ys e =
    let e0 : b % 2 ≡ c % 2 = cc in
    let e1 : b / 2 % 2 ≡ c / 2 % 2 = cc in
    let e2 : b / 2 / 2 % 2 ≡ c / 2 / 2 % 2 = cc in
    let e3 : b / 2 / 2 / 2 % 2 ≡ c / 2 / 2 / 2 % 2 = cc in
    let e4 : b / 2 / 2 / 2 / 2 % 2 ≡ c / 2 / 2 / 2 / 2 % 2 = cc in
    let e5 : b / 2 / 2 / 2 / 2 / 2 % 2 ≡ c / 2 / 2 / 2 / 2 / 2 % 2 = cc in
    let e6 : b / 2 / 2 / 2 / 2 / 2 / 2 % 2 ≡ c / 2 / 2 / 2 / 2 / 2 / 2 % 2 = cc in
    let e7 : b / 2 / 2 / 2 / 2 / 2 / 2 / 2 % 2 ≡ c / 2 / 2 / 2 / 2 / 2 / 2 / 2 % 2 = cc in
    let top : b / 2 / 2 / 2 / 2 / 2 / 2 / 2 ≡ c / 2 / 2 / 2 / 2 / 2 / 2 / 2 = last_bit (b / 2 / 2 / 2 / 2 / 2 / 2 / 2) (c / 2 / 2 / 2 / 2 / 2 / 2 / 2) 2 (omega arith) (omega arith) (omega arith) e7 in
    let h6 = halves (b / 2 / 2 / 2 / 2 / 2 / 2) (c / 2 / 2 / 2 / 2 / 2 / 2) top e6 in
    let h5 = halves (b / 2 / 2 / 2 / 2 / 2) (c / 2 / 2 / 2 / 2 / 2) h6 e5 in
    let h4 = halves (b / 2 / 2 / 2 / 2) (c / 2 / 2 / 2 / 2) h5 e4 in
    let h3 = halves (b / 2 / 2 / 2) (c / 2 / 2 / 2) h4 e3 in
    let h2 = halves (b / 2 / 2) (c / 2 / 2) h3 e2 in
    let h1 = halves (b / 2) (c / 2) h2 e1 in
    (halves b c h1 e0, cc)

bits_tell : (xs ys : List ℕ) → Small xs → Small ys → bits_of_bytes xs ≡ bits_of_bytes ys → xs ≡ ys
unfolding bits_of_bytes bits
bits_tell [] [] sx sy e = refl
bits_tell [] (y ∷ ys) sx sy e = cc
bits_tell (x ∷ xs) [] sx sy e = cc
bits_tell (x ∷ xs) (y ∷ ys) sx sy e =
    let h = byte_tells x y sx.0 sy.0 (bits_of_bytes xs) (bits_of_bytes ys) e in
    ap₂ (λ a b. a ∷ b) h.0 (bits_tell xs ys sx.1 sy.1 h.1)

pub keys_tell : (j k : List ℕ) → key_path j ≡ key_path k → sha256 j ≡ sha256 k
keys_tell j k e = bits_tell (sha256 j) (sha256 k) (sha_small j) (sha_small k) e

bits_length : (n b : ℕ) → length (bits n b) ≡ n
unfolding bits
bits_length zero b = refl
bits_length (suc n) b = length-append (bits n (b / 2)) (b % 2 ∷ []) ∙ (let h = bits_length n (b / 2) in omega arith)

bits_of_length : (bs : List ℕ) → length (bits_of_bytes bs) ≡ 8 * length bs
unfolding bits_of_bytes
bits_of_length [] = refl
bits_of_length (b ∷ bs) = length-append (bits 8 b) (bits_of_bytes bs) ∙ (let h = bits_length 8 b in let k = bits_of_length bs in omega arith)

pub key_path_length : (k : List ℕ) → length (key_path k) ≡ 256
key_path_length k = let h = bits_of_length (sha256 k) in let l = sha_length k in omega arith

-- ---- bytes one after the other can be told apart

pub app_tells : (p q x y : List ℕ) → length p ≡ length q → p ++ x ≡ q ++ y → (p ≡ q) × (x ≡ y)
app_tells [] [] x y l e = (refl, e)
app_tells [] (b ∷ q) x y l e = absurd (omega arith)
app_tells (a ∷ p) [] x y l e = absurd (omega arith)
app_tells (a ∷ p) (b ∷ q) x y l e =
    let i : a ≡ b = cc in
    let j : p ++ x ≡ q ++ y = cc in
    let h = app_tells p q x y (omega arith) j in
    (ap₂ (λ c d. c ∷ d) i h.0, h.1)

pub le_tells : (n h k : ℕ) (x y : List ℕ) → h < 256 ^ n → k < 256 ^ n → le_bytes n h ++ x ≡ le_bytes n k ++ y → (h ≡ k) × (x ≡ y)
unfolding le_bytes
le_tells zero h k x y a b e = (omega arith, e)
le_tells (suc n) h k x y a b e =
    let i : h % 256 ≡ k % 256 = cc in
    let j : le_bytes n (h / 256) ++ x ≡ le_bytes n (k / 256) ++ y = cc in
    let r = le_tells n (h / 256) (k / 256) x y (omega (arith, pow-succ' 256 n)) (omega (arith, pow-succ' 256 n)) j in
    let l = r.0 in
    (omega arith, r.1)

-- two parts and what comes after them, as one part and the rest
apart : (p q x : List ℕ) → (p ++ q) ++ x ≡ p ++ (q ++ x)
apart p q x = append_assoc p q x

pub sized_tells : (k j x y : List ℕ) → length k ≤ 65535 → length j ≤ 65535 → sized_bytes k ++ x ≡ sized_bytes j ++ y → (k ≡ j) × (x ≡ y)
sized_tells k j x y a b e =
    let f : le_bytes 2 (length k) ++ (k ++ x) ≡ le_bytes 2 (length j) ++ (j ++ y) = sym (apart (le_bytes 2 (length k)) k x) ∙ (e ∙ apart (le_bytes 2 (length j)) j y) in
    let h = le_tells 2 (length k) (length j) (k ++ x) (j ++ y) (omega arith) (omega arith) f in
    app_tells k j x y h.0 h.1

flag_tells : (b c : Bool) → pick b 1 0 ≡ pick {A = ℕ} c 1 0 → b ≡ c
unfolding pick
flag_tells true true e = refl
flag_tells true false e = absurd (omega arith)
flag_tells false true e = absurd (omega arith)
flag_tells false false e = refl

-- ---- what can be told by its bytes: lengths that fit two bytes, hashes that fit 32

abbrev pub FitPointer : Pointer → Type 0
FitPointer absent = Unit
FitPointer (present p h b) = (length p ≤ 65535) × (h < modulus)

abbrev pub FitValue : Value → Type 0
FitValue None = Unit
FitValue (Some t) = length t ≤ 65535

abbrev pub FitRecord : Record → Type 0
FitRecord (data_record k v) = (length k ≤ 65535) × FitValue v
FitRecord (node p c) = (length p ≤ 65535) × FitPointer c.left × FitPointer c.right

pub record FitElement (x : Element) : Type 0 where
  pub fit_rec : FitRecord x.rec
  pub fit_epoch : x.timestamp.epoch < 256 ^ 8
  pub fit_counter : x.timestamp.counter < 256 ^ 8

pub path_fits : (r : Record) → FitRecord r → length (path_of r) ≤ 65535
unfolding path_of
path_fits (data_record k v) f = let h = key_path_length k in omega arith
path_fits (node p c) f = f.0

pub pointer_tells : (a c : Pointer) (x y : List ℕ) → FitPointer a → FitPointer c → pointer_bytes a ++ x ≡ pointer_bytes c ++ y → (a ≡ c) × (x ≡ y)
unfolding pointer_bytes
pointer_tells absent absent x y fa fc e = (refl, cc)
pointer_tells absent (present p h b) x y fa fc e = let z : ◌≡◌ {A = ℕ} 0 1 = cc in absurd (omega arith)
pointer_tells (present p h b) absent x y fa fc e = let z : ◌≡◌ {A = ℕ} 0 1 = cc in absurd (omega arith)
pointer_tells (present p h b) (present q k c) x y fa fc e =
    let e1 : pick {A = ℕ} b 1 0 ≡ pick c 1 0 = cc in
    let e2 : (sized_bytes p ++ le_bytes 32 h) ++ x ≡ (sized_bytes q ++ le_bytes 32 k) ++ y = cc in
    let e3 : sized_bytes p ++ (le_bytes 32 h ++ x) ≡ sized_bytes q ++ (le_bytes 32 k ++ y) = sym (apart (sized_bytes p) (le_bytes 32 h) x) ∙ (e2 ∙ apart (sized_bytes q) (le_bytes 32 k) y) in
    let a = sized_tells p q (le_bytes 32 h ++ x) (le_bytes 32 k ++ y) fa.0 fc.0 e3 in
    let t = le_tells 32 h k x y fa.1 fc.1 a.1 in
    (λ i. present (a.0 i) (t.0 i) (flag_tells b c e1 i), t.1)

children_tell : (c d : Children) (x y : List ℕ) → FitPointer c.left → FitPointer c.right → FitPointer d.left → FitPointer d.right →
    (pointer_bytes c.left ++ pointer_bytes c.right) ++ x ≡ (pointer_bytes d.left ++ pointer_bytes d.right) ++ y → (c ≡ d) × (x ≡ y)
children_tell c d x y cl cr dl dr e =
    let f : pointer_bytes c.left ++ (pointer_bytes c.right ++ x) ≡ pointer_bytes d.left ++ (pointer_bytes d.right ++ y) =
    sym (apart (pointer_bytes c.left) (pointer_bytes c.right) x) ∙ (e ∙ apart (pointer_bytes d.left) (pointer_bytes d.right) y) in
    let l = pointer_tells c.left d.left (pointer_bytes c.right ++ x) (pointer_bytes d.right ++ y) cl dl f in
    let m = pointer_tells c.right d.right x y cr dr l.1 in
    (λ i. record { left = l.0 i; right = m.0 i }, m.1)

value_tells : (v w : Value) (x y : List ℕ) → FitValue v → FitValue w → value_bytes v ++ x ≡ value_bytes w ++ y → (v ≡ w) × (x ≡ y)
unfolding value_bytes
value_tells None None x y a b e = (refl, cc)
value_tells None (Some t) x y a b e = let z : ◌≡◌ {A = ℕ} 0 1 = cc in absurd (omega arith)
value_tells (Some t) None x y a b e = let z : ◌≡◌ {A = ℕ} 0 1 = cc in absurd (omega arith)
value_tells (Some t) (Some u) x y a b e =
    let f : sized_bytes t ++ x ≡ sized_bytes u ++ y = cc in
    let h = sized_tells t u x y a b f in
    (ap Some h.0, h.1)

-- two keys with one hash
abbrev pub KeysDiffer : Record → Record → Type 0
KeysDiffer r a = (j k : Bytes) × ((v w : Value) × ((r ≡ data_record j v) × (a ≡ data_record k w) × (same_bytes j k ≡ false) × (sha256 j ≡ sha256 k)))

-- two records at one path with the same bytes under the Merkle hash are the same, or their keys collide
pub merkle_tells : (r a : Record) (x y : List ℕ) → FitRecord r → FitRecord a → path_of r ≡ path_of a → merkle_bytes r ++ x ≡ merkle_bytes a ++ y →
    ((r ≡ a) ⊎ KeysDiffer r a) × (x ≡ y)
unfolding merkle_bytes path_of
merkle_tells (data_record j v) (data_record k w) x y fr fa p e = (go (same_or j k), h.1)
  where
    f : value_bytes v ++ x ≡ value_bytes w ++ y
    f = cc

    h : (v ≡ w) × (x ≡ y)
    h = value_tells v w x y fr.1 fa.1 f

    go : (j ≡ k) ⊎ (j ≡ k → ⊥) → (data_record j v ≡ data_record k w) ⊎ KeysDiffer (data_record j v) (data_record k w)
    go (inl i) = inl (ap₂ data_record i h.0)
    go (inr n) = inr (j, k, (v, w, (refl, refl, not_same j k n, keys_tell j k p)))
merkle_tells (data_record j v) (node q u) x y fr fa p e = let z : ◌≡◌ {A = ℕ} 0 1 = cc in absurd (omega arith)
merkle_tells (node q u) (data_record k w) x y fr fa p e = let z : ◌≡◌ {A = ℕ} 0 1 = cc in absurd (omega arith)
merkle_tells (node p u) (node q w) x y fr fa i e =
    let f : (pointer_bytes u.left ++ pointer_bytes u.right) ++ x ≡ (pointer_bytes w.left ++ pointer_bytes w.right) ++ y = cc in
    let h = children_tell u w x y fr.1 fr.2 fa.1 fa.2 f in
    (inl (λ z. node (i z) (h.0 z)), h.1)

pub record_tells : (r s : Record) (x y : List ℕ) → FitRecord r → FitRecord s → record_bytes r ++ x ≡ record_bytes s ++ y → (r ≡ s) × (x ≡ y)
unfolding record_bytes merkle_bytes
record_tells (data_record k v) (data_record j w) x y a b e =
    let f : (sized_bytes k ++ (0 ∷ value_bytes v)) ++ x ≡ (sized_bytes j ++ (0 ∷ value_bytes w)) ++ y = cc in
    let g : sized_bytes k ++ ((0 ∷ value_bytes v) ++ x) ≡ sized_bytes j ++ ((0 ∷ value_bytes w) ++ y) = sym (apart (sized_bytes k) (0 ∷ value_bytes v) x) ∙ (f ∙ apart (sized_bytes j) (0 ∷ value_bytes w) y) in
    let h = sized_tells k j ((0 ∷ value_bytes v) ++ x) ((0 ∷ value_bytes w) ++ y) a.0 b.0 g in
    let h1 = h.1 in
    let i : value_bytes v ++ x ≡ value_bytes w ++ y = cc in
    let l = value_tells v w x y a.1 b.1 i in
    (ap₂ data_record h.0 l.0, l.1)
record_tells (data_record k v) (node q w) x y a b e = let z : ◌≡◌ {A = ℕ} 0 1 = cc in absurd (omega arith)
record_tells (node p u) (data_record j w) x y a b e = let z : ◌≡◌ {A = ℕ} 0 1 = cc in absurd (omega arith)
record_tells (node p u) (node q w) x y a b e =
    let cu : List ℕ = 1 ∷ (pointer_bytes u.left ++ pointer_bytes u.right) in
    let cw : List ℕ = 1 ∷ (pointer_bytes w.left ++ pointer_bytes w.right) in
    let f : (sized_bytes p ++ cu) ++ x ≡ (sized_bytes q ++ cw) ++ y = cc in
    let g : sized_bytes p ++ (cu ++ x) ≡ sized_bytes q ++ (cw ++ y) = sym (apart (sized_bytes p) cu x) ∙ (f ∙ apart (sized_bytes q) cw y) in
    let h = sized_tells p q (cu ++ x) (cw ++ y) a.0 b.0 g in
    let h1 = h.1 in
    let i : (pointer_bytes u.left ++ pointer_bytes u.right) ++ x ≡ (pointer_bytes w.left ++ pointer_bytes w.right) ++ y = cc in
    let l = children_tell u w x y a.1 a.2 b.1 b.2 i in
    (λ z. node (h.0 z) (l.0 z), l.1)

pub element_tells : (x y : Element) → FitElement x → FitElement y → element_bytes x ≡ element_bytes y → x ≡ y
element_tells x y a b e =
    let end : Element → List ℕ = λ z. z.verifier ∷ [] in
    let late : Element → List ℕ = λ z. le_bytes 8 z.timestamp.counter ++ end z in
    let h = record_tells x.rec y.rec (le_bytes 8 x.timestamp.epoch ++ late x) (le_bytes 8 y.timestamp.epoch ++ late y) a.fit_rec b.fit_rec e in
    let i = le_tells 8 x.timestamp.epoch y.timestamp.epoch (late x) (late y) a.fit_epoch b.fit_epoch h.1 in
    let j = le_tells 8 x.timestamp.counter y.timestamp.counter (end x) (end y) a.fit_counter b.fit_counter i.1 in
    let j1 = j.1 in
    let k : x.verifier ≡ y.verifier = cc in
    (λ z. record { rec = h.0 z; timestamp = record { epoch = i.0 z; counter = j.0 z }; verifier = k z })

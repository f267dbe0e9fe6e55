-- A message's blocks: those that it fills, and the last one or two, with the padding.
use Rattle.std.proofs.Common.{◌≡◌, ℕ, zero, suc, ◌+◌, ◌-◌, ◌*◌, ◌/◌, ◌%◌, ◌^◌, ◌<◌, ◌≤◌, List, [], ◌∷◌, ◌++◌, length, take, drop, set, replicate, sym, refl, ap, ◌∙◌, ap₂, append_assoc, mul_comm, suc-add, zero-add, add-one, arith}
use borrow.Rule.Slice.PartMut.{post_of, put_mid}
use lib.Pow.{mod-pow-add}
use Rattle.std.proofs.lemmas.List.{length-drop, length-append, length-replicate, take_all, take_at, take-append-le, replicate-append-replicate, drop-replicate, set_at, drop_at, drop-append-le, drop-drop, drop_all, append-nil}
use Rattle.model.specs.Sha256.{State, be_bytes, block_count, compress, padded}
use Rattle.sha256.specs.Parts.{add_states, bit_length_bytes, compress_block, final_state, initial_state, padding, round_constants}

-- ---- blocks

compress_suc : (n : ℕ) (s : State) (m : List ℕ) → compress (suc n) s m ≡ compress n (compress_block s (take 64 m)) (drop 64 m)
unfolding compress compress_block add_states round_constants
compress_suc n s m = refl

compress_none : (s : State) (m : List ℕ) → compress 0 s m ≡ s
unfolding compress
compress_none s m = refl

-- the block after the first j
compress_next : (j : ℕ) (s : State) (m : List ℕ) → compress (suc j) s m ≡ compress_block (compress j s m) (take 64 (drop (64 * j) m))
compress_next zero s m = compress_suc 0 s m ∙ compress_none _ (drop 64 m) ∙ ap (λ (t : State). compress_block t (take 64 m)) (sym (compress_none s m))
compress_next (suc j) s m =
    let e : 64 + 64 * j ≡ 64 * suc j = omega arith in
    let d = drop-drop (64 * j) 64 m in
    let a = compress_suc (suc j) s m in
    let b = compress_next j (compress_block s (take 64 m)) (drop 64 m) in
    let f = compress_suc j s m in
    cc

-- the first q blocks of a message and what follows it are those of the message
compress_append : (q n : ℕ) (s : State) (m p : List ℕ) → 64 * q ≤ length m
    → compress (q + n) s (m ++ p) ≡ compress n (compress q s m) (drop (64 * q) m ++ p)
compress_append zero n s m p h =
    ap (λ (k : ℕ). compress k s (m ++ p)) (zero-add n) ∙ ap (λ (t : State). compress n t (m ++ p)) (sym (compress_none s m))
compress_append (suc q) n s m p h =
    let k : 64 ≤ length m = omega arith in
    let l : 64 * q ≤ length (drop 64 m) = simp length-drop (omega arith) in
    let e : 64 + 64 * q ≡ 64 * suc q = omega arith in
    let d = drop-drop (64 * q) 64 m in
    let t = take-append-le 64 m p k in
    let u = drop-append-le 64 m p k in
    let i = compress_append q n (compress_block s (take 64 m)) (drop 64 m) p l in
    let f = suc-add q n in
    let g = compress_suc (q + n) s (m ++ p) in
    let v = compress_suc q s m in
    cc

compress_one : (s : State) (m : List ℕ) → length m ≡ 64 → compress 1 s m ≡ compress_block s m
compress_one s m h =
    let l : length m ≤ 64 = omega arith in
    compress_suc 0 s m ∙ compress_none _ (drop 64 m) ∙ ap (compress_block s) (take_all 64 m l)

compress_two : (s : State) (m p : List ℕ) → length m ≡ 64 → length p ≡ 64 → compress 2 s (m ++ p) ≡ compress_block (compress_block s m) p
compress_two s m p h k =
    let t = take_at m p 64 h in
    let u = drop_at m p 64 h in
    let a = compress_suc 1 s (m ++ p) in
    let b = compress_one (compress_block s m) p k in
    cc

-- one block more, as the code takes it
pub compress_more : (j : ℕ) (s t : State) (m : List ℕ) → s ≡ compress j initial_state m → t ≡ compress_block s (take 64 (drop (64 * j) m))
    → t ≡ compress (j + 1) initial_state m
compress_more j s t m a b =
    let f = compress_next j initial_state m in
    let o = add-one j in
    cc

-- ---- the padding

-- the eight bytes of a number, the high one first, as `to_be_bytes` has them
abbrev eight_bytes : ℕ → List ℕ
eight_bytes x =
    (x / 72057594037927936 % 256) ∷ ((x / 281474976710656 % 256) ∷ ((x / 1099511627776 % 256) ∷ ((x / 4294967296 % 256)
    ∷ ((x / 16777216 % 256) ∷ ((x / 65536 % 256) ∷ ((x / 256 % 256) ∷ ((x % 256) ∷ [])))))))

eight_same : {a b c d e f g h a' b' c' d' e' f' g' h' : ℕ} → a ≡ a' → b ≡ b' → c ≡ c' → d ≡ d' → e ≡ e' → f ≡ f' → g ≡ g' → h ≡ h'
    → a ∷ (b ∷ (c ∷ (d ∷ (e ∷ (f ∷ (g ∷ (h ∷ []))))))) ≡ a' ∷ (b' ∷ (c' ∷ (d' ∷ (e' ∷ (f' ∷ (g' ∷ (h' ∷ [])))))))
eight_same a b c d e f g h = λ i. a i ∷ (b i ∷ (c i ∷ (d i ∷ (e i ∷ (f i ∷ (g i ∷ (h i ∷ [])))))))

two_words : (x hi lo : ℕ) → hi < 2 ^ 32 → lo < 2 ^ 32 → x ≡ hi * 2 ^ 32 + lo → eight_bytes x ≡ be_bytes hi ++ be_bytes lo
two_words x hi lo h l e =
    eight_same (omega arith) (omega arith) (omega arith) (omega arith) (omega arith) (omega arith) (omega arith) (omega arith)

pub bit_length_is : (n : ℕ) → eight_bytes (n * 8 % 2 ^ 64) ≡ bit_length_bytes n
unfolding bit_length_bytes
bit_length_is n =
    two_words (n * 8 % 2 ^ 64) (8 * n / 2 ^ 32 % 2 ^ 32) (8 * n % 2 ^ 32) (omega arith) (omega arith)
    (ap (λ (k : ℕ). k % 2 ^ 64) (mul_comm n 8) ∙ mod-pow-add (8 * n) 32 32)

length_padding : (n : ℕ) → length (padding n) ≡ 9 + (119 - n % 64) % 64
unfolding padding bit_length_bytes
length_padding n = simp (length-append, length-replicate) (omega arith)

length_closed : (n : ℕ) → length (replicate 56 0 ++ bit_length_bytes n) ≡ 64
unfolding bit_length_bytes
length_closed n = refl

zeros_after : (n t : ℕ) → t < n → drop t (replicate {A = ℕ} n 0) ≡ 0 ∷ replicate (n - 1 - t) 0
zeros_after n t h =
    let m : n - t ≡ suc (n - 1 - t) = omega arith in
    drop-replicate t n 0 ∙ ap (λ (i : ℕ). replicate i 0) m

-- a block of n bytes that begins with the tail, then 128 and zeros, as the code writes it
pub start_end : (n : ℕ) (tail x : List ℕ) → length tail < n → x ≡ tail
    → set (x ++ post_of 0 (length tail) (replicate n 0)) (length tail) 128 ≡ tail ++ (128 ∷ replicate (n - 1 - length tail) 0)
start_end n tail x h e =
    ap₂ (λ (y z : List ℕ). set (y ++ z) (length tail) 128) e (zeros_after n (length tail) h)
    ∙ set_at tail 0 (replicate (n - 1 - length tail) 0) 128 (length tail) refl

-- a block whose last eight bytes are ys
pub close_end : (block x ys : List ℕ) → length block ≡ 64 → x ≡ ys → put_mid 56 8 block x ≡ take 56 block ++ ys
close_end block x ys h e =
    let l : length (drop 56 block) ≤ 8 = simp length-drop (omega arith) in
    let d = drop_all 8 (drop 56 block) l in
    ap₂ (λ (y z : List ℕ). take 56 block ++ (y ++ z)) e d ∙ ap (λ (y : List ℕ). take 56 block ++ y) (append-nil ys)

-- what is left of a message of n bytes, with the padding: one block or two
module _ (tail : List ℕ) (n : ℕ) (e : length tail ≡ n % 64) where
  short_end : length tail < 56 → tail ++ padding n ≡ take 56 (tail ++ (128 ∷ replicate (63 - length tail) 0)) ++ bit_length_bytes n
  unfolding padding
  short_end h =
      let k : (119 - n % 64) % 64 ≡ 55 - length tail = omega arith in
      let m : 55 - length tail + 8 ≡ 63 - length tail = omega arith in
      let z : replicate {A = ℕ} (63 - length tail) 0 ≡ replicate (55 - length tail) 0 ++ replicate 8 0 =
      ap (λ (i : ℕ). replicate i 0) (sym m) ∙ sym (replicate-append-replicate (55 - length tail) 8 0) in
      let p : List ℕ = 128 ∷ replicate (55 - length tail) 0 in
      let l : length (tail ++ p) ≡ 56 = simp (length-append, length-replicate) (omega arith) in
      let a : tail ++ (128 ∷ replicate (63 - length tail) 0) ≡ (tail ++ p) ++ replicate 8 0 =
      ap (λ (y : List ℕ). tail ++ (128 ∷ y)) z ∙ sym (append_assoc tail p (replicate 8 0)) in
      let t : take 56 (tail ++ (128 ∷ replicate (63 - length tail) 0)) ≡ tail ++ p = ap (take 56) a ∙ take_at (tail ++ p) (replicate 8 0) 56 l in
      ap (λ (i : ℕ). tail ++ (128 ∷ (replicate i 0 ++ bit_length_bytes n))) k
      ∙ sym (append_assoc tail p (bit_length_bytes n)) ∙ ap (λ (y : List ℕ). y ++ bit_length_bytes n) (sym t)

  long_end : 56 ≤ length tail → tail ++ padding n ≡ (tail ++ (128 ∷ replicate (63 - length tail) 0)) ++ (replicate 56 0 ++ bit_length_bytes n)
  unfolding padding
  long_end h =
      let k : (119 - n % 64) % 64 ≡ 63 - length tail + 56 = omega arith in
      let p : List ℕ = 128 ∷ replicate (63 - length tail) 0 in
      let z : replicate {A = ℕ} (63 - length tail) 0 ++ replicate 56 0 ≡ replicate (63 - length tail + 56) 0 =
      replicate-append-replicate (63 - length tail) 56 0 in
      ap (λ (i : ℕ). tail ++ (128 ∷ (replicate i 0 ++ bit_length_bytes n))) k
      ∙ ap (λ (y : List ℕ). tail ++ (128 ∷ (y ++ bit_length_bytes n))) (sym z)
      ∙ ap (λ (y : List ℕ). tail ++ (128 ∷ y)) (append_assoc (replicate (63 - length tail) 0) (replicate 56 0) (bit_length_bytes n))
      ∙ sym (append_assoc tail p (replicate 56 0 ++ bit_length_bytes n))

  length_end : length (tail ++ padding n) ≡ length tail + (9 + (119 - n % 64) % 64)
  length_end = length-append tail (padding n) ∙ ap (λ (k : ℕ). length tail + k) (length_padding n)

  pub tail_short : (s : State) (opened closed : List ℕ) → length tail < 56 → opened ≡ tail ++ (128 ∷ replicate (63 - length tail) 0)
      → closed ≡ take 56 opened ++ bit_length_bytes n
      → compress_block s closed ≡ compress (length (tail ++ padding n) / 64) s (tail ++ padding n)
  tail_short s opened closed h o k =
      let l : length (tail ++ padding n) ≡ 64 = omega (arith, length_end) in
      let q : length (tail ++ padding n) / 64 ≡ 1 = omega arith in
      let f = short_end h in
      let b = compress_one s (tail ++ padding n) l in
      cc

  pub tail_long : (s : State) (opened closed : List ℕ) → 56 ≤ length tail → opened ≡ tail ++ (128 ∷ replicate (63 - length tail) 0)
      → closed ≡ replicate 56 0 ++ bit_length_bytes n
      → compress_block (compress_block s opened) closed ≡ compress (length (tail ++ padding n) / 64) s (tail ++ padding n)
  tail_long s opened closed h o k =
      let t : length tail < 64 = omega arith in
      let q : length (tail ++ padding n) / 64 ≡ 2 = omega (arith, length_end) in
      let f = long_end h in
      let lo : length opened ≡ 64 = ap length o ∙ simp (length-append, length-replicate) (omega arith) in
      let lc : length closed ≡ 64 = ap length k ∙ length_closed n in
      let b = compress_two s opened closed lo lc in
      cc

-- ---- the whole message

padded_is : (m : List ℕ) → padded m ≡ m ++ padding (length m)
unfolding padding bit_length_bytes
padded_is m = refl

length_padded : (m : List ℕ) → length (padded m) ≡ length m + (9 + (119 - length m % 64) % 64)
length_padded m = ap length (padded_is m) ∙ length-append m (padding (length m)) ∙ ap (λ (k : ℕ). length m + k) (length_padding (length m))

pub block_count_is : (m : List ℕ) → length m / 64 + (length m % 64 + 72) / 64 ≡ block_count m
block_count_is m = omega (arith, length_padded m)

-- the blocks that a message fills, and what is left of it with the padding, as the code takes it
pub final_state_is : (m tail : List ℕ) (s t : State) → s ≡ compress (length m / 64) initial_state m → tail ≡ drop (length m / 64 * 64) m
    → t ≡ compress (length (tail ++ padding (length m)) / 64) s (tail ++ padding (length m))
    → t ≡ final_state m
unfolding final_state
final_state_is m tail s t a back b =
    let q : ℕ = length m / 64 in
    let h : 64 * q ≤ length m = omega arith in
    let r : List ℕ = drop (64 * q) m ++ padding (length m) in
    let d : tail ≡ drop (64 * q) m = back ∙ ap (λ (k : ℕ). drop k m) (let e : q * 64 ≡ 64 * q = omega arith in e) in
    let p = padded_is m in
    let lr : length r ≡ length m - 64 * q + length (padding (length m)) =
    length-append (drop (64 * q) m) (padding (length m)) ∙ ap (λ (k : ℕ). k + length (padding (length m))) (length-drop (64 * q) m) in
    let lp : length (m ++ padding (length m)) ≡ length m + length (padding (length m)) = length-append m (padding (length m)) in
    let n : length (m ++ padding (length m)) / 64 ≡ q + length r / 64 = omega arith in
    let f = compress_append q (length r / 64) initial_state m (padding (length m)) h in
    cc

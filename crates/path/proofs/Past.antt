-- No bit is set past a path exactly if its last word, shifted, is zero, and so are the words after it.
use Rattle.std.proofs.Common.{◌≡◌, ℕ, zero, suc, ◌+◌, ◌-◌, ◌*◌, ◌/◌, ◌%◌, ◌^◌, ◌<◌, ◌≤◌, ◌⊎◌, List, [], ◌∷◌, ◌++◌, length, get_or, take, drop, replicate, sym, refl, ap, ◌∙◌, ap₂, inl, inr, add-zero, suc-mul, zero-mul, arith, length-drop}
use native.Mathlib.Nat.{mul-mod_left}
use Rattle.std.proofs.lemmas.List.{take_at, drop_at, drop-drop, drop_all, drop-append-le, take-replicate, drop-replicate, replicate_more, replicate-append-replicate, same_from_push, ext_get_or}
use Rattle.std.proofs.lemmas.Bool.{cases_lt}
use Rattle.std.proofs.lemmas.Nat.{mod-pow-add, shl-shr, pow_pos}
use Rattle.model.specs.Records.{bits}
use Rattle.path.specs.Packs.{word_bits, Packs, Fit}
use Rattle.path.proofs.Words.{length_bits, bits_same, length_word_bits}

-- ---- one word

-- the low bits are the last
low_bits : (m k w : ℕ) → drop m (bits (m + k) w) ≡ bits k w
unfolding bits
low_bits m zero w = let l = length_bits (m + 0) w in drop_all m (bits (m + 0) w) (omega arith)
low_bits m (suc k) w =
    let l = length_bits (m + k) (w / 2) in
    let e : m + suc k ≡ suc (m + k) = omega arith in
    ap (λ (n : ℕ). drop m (bits n w)) e
    ∙ (drop-append-le m (bits (m + k) (w / 2)) (w % 2 ∷ []) (omega arith) ∙ ap (λ (l : List ℕ). l ++ (w % 2 ∷ [])) (low_bits m k (w / 2)))

halved : (k w : ℕ) → w % 2 ^ (k + 1) ≡ (w / 2 % 2 ^ k) * 2 + w % 2
halved k w = mod-pow-add w k 1

bits_zero : (k w : ℕ) → w % 2 ^ k ≡ 0 → bits k w ≡ replicate k 0
unfolding bits
bits_zero zero w h = refl
bits_zero (suc k) w h =
    let e : suc k ≡ k + 1 = omega arith in
    let d : (w / 2 % 2 ^ k) * 2 + w % 2 ≡ 0 = sym (halved k w) ∙ (ap (λ (n : ℕ). w % 2 ^ n) (sym e) ∙ h) in
    let a : w / 2 % 2 ^ k ≡ 0 = omega arith in
    let b : w % 2 ≡ 0 = omega arith in
    ap₂ (λ (l : List ℕ) (x : ℕ). l ++ (x ∷ [])) (bits_zero k (w / 2) a) b ∙ (replicate_more k 0 ∙ ap (λ (n : ℕ). replicate n 0) (sym e))

zero_bits : (k w : ℕ) → bits k w ≡ replicate k 0 → w % 2 ^ k ≡ 0
unfolding bits
zero_bits zero w h = omega arith
zero_bits (suc k) w h =
    let e : suc k ≡ k + 1 = omega arith in
    let p = same_from_push (bits k (w / 2)) (replicate k 0) (w % 2) 0 (h ∙ (ap (λ (n : ℕ). replicate n 0) e ∙ sym (replicate_more k 0))) in
    let a = zero_bits k (w / 2) p.0 in
    let b = p.1 in
    ap (λ (n : ℕ). w % 2 ^ n) e ∙ (halved k w ∙ (let d : (w / 2 % 2 ^ k) * 2 + w % 2 ≡ 0 = omega arith in d))

-- a word, shifted to the left
shifted : (m w : ℕ) → m ≤ 64 → w * 2 ^ m % 2 ^ 64 ≡ (w % 2 ^ (64 - m)) * 2 ^ m
shifted m w h =
    let e : (64 - m) + m ≡ 64 = omega arith in
    let z : w * 2 ^ m % 2 ^ m ≡ 0 = mul-mod_left w (2 ^ m) in
    ap (λ (n : ℕ). w * 2 ^ m % 2 ^ n) (sym e)
    ∙ (mod-pow-add (w * 2 ^ m) (64 - m) m ∙ (ap₂ (λ (x y : ℕ). (x % 2 ^ (64 - m)) * 2 ^ m + y) (shl-shr w m) z ∙ add-zero ((w % 2 ^ (64 - m)) * 2 ^ m)))

word_past : (m w : ℕ) → m ≤ 64 → drop m (bits 64 w) ≡ bits (64 - m) w
word_past m w h = let e : 64 ≡ m + (64 - m) = omega arith in ap (λ (n : ℕ). drop m (bits n w)) e ∙ low_bits m (64 - m) w

shift_zero : (m w : ℕ) → m ≤ 64 → w * 2 ^ m % 2 ^ 64 ≡ 0 → drop m (bits 64 w) ≡ replicate (64 - m) 0
shift_zero m w h e = word_past m w h ∙ bits_zero (64 - m) w (no_product (w % 2 ^ (64 - m)) (2 ^ m) (pow_pos m) (sym (shifted m w h) ∙ e))
  where
    no_product : (a b : ℕ) → 0 < b → a * b ≡ 0 → a ≡ 0
    no_product zero b l e = refl
    no_product (suc a) b l e = absurd (omega (arith, suc-mul a b))

zero_shift : (m w : ℕ) → m ≤ 64 → drop m (bits 64 w) ≡ replicate (64 - m) 0 → w * 2 ^ m % 2 ^ 64 ≡ 0
zero_shift m w h e = shifted m w h ∙ (ap (λ (x : ℕ). x * 2 ^ m) (zero_bits (64 - m) w (sym (word_past m w h) ∙ e)) ∙ zero-mul (2 ^ m))

word_zero : (w : ℕ) → w < 2 ^ 64 → bits 64 w ≡ replicate 64 0 → w ≡ 0
word_zero w h e = bits_same 64 w 0 h (omega arith) (e ∙ sym (bits_zero 64 0 refl))

-- ---- words

zeros_before : (xs ys : List ℕ) (n k : ℕ) → length xs ≡ n → n ≤ k → xs ++ ys ≡ replicate k 0 → xs ≡ replicate n 0
zeros_before xs ys n k l h e = sym (take_at xs ys n l) ∙ (ap (take n) e ∙ take-replicate n k 0 h)

zeros_after : (xs ys : List ℕ) (n k m : ℕ) → length xs ≡ n → k - n ≡ m → xs ++ ys ≡ replicate k 0 → ys ≡ replicate m 0
zeros_after xs ys n k m l h e = sym (drop_at xs ys n l) ∙ (ap (drop n) e ∙ (drop-replicate n k 0 ∙ ap (λ (i : ℕ). replicate i 0) h))

zeros_both : (xs ys : List ℕ) (n m k : ℕ) → xs ≡ replicate n 0 → ys ≡ replicate m 0 → n + m ≡ k → xs ++ ys ≡ replicate k 0
zeros_both xs ys n m k x y e = ap₂ (λ (u v : List ℕ). u ++ v) x y ∙ (replicate-append-replicate n m 0 ∙ ap (λ (i : ℕ). replicate i 0) e)

words_zero : (ws : List ℕ) → ((k : ℕ) → k < length ws → get_or ws k 0 ≡ 0) → word_bits ws ≡ replicate (64 * length ws) 0
unfolding word_bits
words_zero [] h = refl
words_zero (w ∷ ws) h =
    let b : bits 64 w ≡ replicate 64 0 = ap (bits 64) (h 0 (omega arith)) ∙ bits_zero 64 0 refl in
    zeros_both (bits 64 w) (word_bits ws) 64 (64 * length ws) (64 * length (w ∷ ws)) b (words_zero ws (λ k l. h (suc k) (omega arith))) (omega arith)

zero_words : (ws : List ℕ) → Fit ws → word_bits ws ≡ replicate (64 * length ws) 0 → (k : ℕ) → k < length ws → get_or ws k 0 ≡ 0
unfolding word_bits
zero_words [] f e k h = absurd (omega arith)
zero_words (w ∷ ws) f e zero h = word_zero w (f 0) (zeros_before (bits 64 w) (word_bits ws) 64 (64 * length (w ∷ ws)) (length_bits 64 w) (omega arith) e)
zero_words (w ∷ ws) f e (suc k) h = zero_words ws (λ i. f (suc i)) (zeros_after (bits 64 w) (word_bits ws) 64 (64 * length (w ∷ ws)) (64 * length ws) (length_bits 64 w) (omega arith) e) k (omega arith)

-- the last word of n bits, shifted, and the words after it
abbrev pub Rest : ℕ → List ℕ → Type 0
Rest n ws = (get_or ws (n / 64) 0 * 2 ^ (n % 64) % 2 ^ 64 ≡ 0) × ((k : ℕ) → n / 64 < k → k < length ws → get_or ws k 0 ≡ 0)

drop_word : (n w : ℕ) (ws : List ℕ) → 64 ≤ n → drop n (bits 64 w ++ word_bits ws) ≡ drop (n - 64) (word_bits ws)
drop_word n w ws h =
    let e : n ≡ 64 + (n - 64) = omega arith in
    ap (λ (k : ℕ). drop k (bits 64 w ++ word_bits ws)) e
    ∙ (sym (drop-drop (n - 64) 64 (bits 64 w ++ word_bits ws)) ∙ ap (drop (n - 64)) (drop_at (bits 64 w) (word_bits ws) 64 (length_bits 64 w)))

drop_in_word : (n w : ℕ) (ws : List ℕ) → n < 64 → drop n (bits 64 w ++ word_bits ws) ≡ drop n (bits 64 w) ++ word_bits ws
drop_in_word n w ws h = let l = length_bits 64 w in drop-append-le n (bits 64 w) (word_bits ws) (omega arith)

pub rest_packs : (n : ℕ) (ws : List ℕ) → n / 64 < length ws → Rest n ws → Packs n ws
unfolding word_bits
rest_packs n [] h r = absurd (omega arith)
rest_packs n (w ∷ ws) h r = go (rest_packs (n - 64) ws) (cases_lt n 64)
  where
    go : (((n - 64) / 64 < length ws → Rest (n - 64) ws → Packs (n - 64) ws)) → (n < 64) ⊎ (64 ≤ n) → Packs n (w ∷ ws)
    go ih (inl lt) =
        let q : n / 64 ≡ 0 = omega arith in
        let m : n % 64 ≡ n = omega arith in
        let s : w * 2 ^ n % 2 ^ 64 ≡ 0 = rw (q, m) at r.0 in
        let z = words_zero ws (λ k l. r.1 (suc k) (omega arith) (omega arith)) in
        (omega arith, drop_in_word n w ws lt ∙ zeros_both (drop n (bits 64 w)) (word_bits ws) (64 - n) (64 * length ws) (64 * length (w ∷ ws) - n) (shift_zero n w (omega arith) s) z (omega arith))
    go ih (inr ge) =
        let q : n / 64 ≡ suc ((n - 64) / 64) = omega arith in
        let m : n % 64 ≡ (n - 64) % 64 = omega arith in
        let p = ih (omega arith) (rw (q, m) at r.0, λ k i j. r.1 (suc k) (omega arith) (omega arith)) in
        let a = p.0 in
        let e : 64 * length ws - (n - 64) ≡ 64 * length (w ∷ ws) - n = omega arith in
        (omega arith, drop_word n w ws ge ∙ (p.1 ∙ ap (λ (k : ℕ). replicate k 0) e))

pub packs_rest : (n : ℕ) (ws : List ℕ) → n / 64 < length ws → Fit ws → Packs n ws → Rest n ws
unfolding word_bits
packs_rest n [] h f p = absurd (omega arith)
packs_rest n (w ∷ ws) h f p = go (packs_rest (n - 64) ws) (cases_lt n 64)
  where
    go : ((n - 64) / 64 < length ws → Fit ws → Packs (n - 64) ws → Rest (n - 64) ws) → (n < 64) ⊎ (64 ≤ n) → Rest n (w ∷ ws)
    go ih (inl lt) =
        let q : n / 64 ≡ 0 = omega arith in
        let m : n % 64 ≡ n = omega arith in
        let l : length (drop n (bits 64 w)) ≡ 64 - n = length-drop n (bits 64 w) ∙ ap (λ (k : ℕ). k - n) (length_bits 64 w) in
        let e : drop n (bits 64 w) ++ word_bits ws ≡ replicate (64 * length (w ∷ ws) - n) 0 = sym (drop_in_word n w ws lt) ∙ p.1 in
        let a = zeros_before (drop n (bits 64 w)) (word_bits ws) (64 - n) (64 * length (w ∷ ws) - n) l (omega arith) e in
        let b = zeros_after (drop n (bits 64 w)) (word_bits ws) (64 - n) (64 * length (w ∷ ws) - n) (64 * length ws) l (omega arith) e in
        (rw (q, m) (zero_shift n w (omega arith) a), λ k i j. later k (omega arith) j (zero_words ws (λ x. f (suc x)) b))
      where
        later : (k : ℕ) → 0 < k → k < length (w ∷ ws) → ((j : ℕ) → j < length ws → get_or ws j 0 ≡ 0) → get_or (w ∷ ws) k 0 ≡ 0
        later zero i j z = absurd (omega arith)
        later (suc k) i j z = z k (omega arith)
    go ih (inr ge) =
        let q : n / 64 ≡ suc ((n - 64) / 64) = omega arith in
        let m : n % 64 ≡ (n - 64) % 64 = omega arith in
        let a = p.0 in
        let e : 64 * length (w ∷ ws) - n ≡ 64 * length ws - (n - 64) = omega arith in
        let t = ih (omega arith) (λ x. f (suc x)) (omega arith, sym (drop_word n w ws ge) ∙ (p.1 ∙ ap (λ (k : ℕ). replicate k 0) e)) in
        (rw (q, m) t.0, λ k i j. later k (omega arith) j t.1)
      where
        later : (k : ℕ) → suc ((n - 64) / 64) < k → k < length (w ∷ ws) → ((j : ℕ) → (n - 64) / 64 < j → j < length ws → get_or ws j 0 ≡ 0) → get_or (w ∷ ws) k 0 ≡ 0
        later zero i j z = absurd (omega arith)
        later (suc k) i j z = z k (omega arith) (omega arith)

-- a path that fills its words
pub whole_packs : (n : ℕ) (ws : List ℕ) → n ≡ 64 * length ws → Packs n ws
whole_packs n ws h =
    let l = length_word_bits ws in
    let z : 64 * length ws - n ≡ 0 = omega arith in
    (omega arith, drop_all n (word_bits ws) (omega arith) ∙ ap (λ (k : ℕ). replicate k 0) (sym z))

pub four_words : (ws : List ℕ) → length ws ≡ 4 → get_or ws 0 0 ∷ (get_or ws 1 0 ∷ (get_or ws 2 0 ∷ (get_or ws 3 0 ∷ []))) ≡ ws
four_words ws h = ext_get_or 0 (get_or ws 0 0 ∷ (get_or ws 1 0 ∷ (get_or ws 2 0 ∷ (get_or ws 3 0 ∷ [])))) ws (sym h) each
  where
    each : (i : ℕ) → i < 4 → get_or (get_or ws 0 0 ∷ (get_or ws 1 0 ∷ (get_or ws 2 0 ∷ (get_or ws 3 0 ∷ [])))) i 0 ≡ get_or ws i 0
    each zero l = refl
    each (suc zero) l = refl
    each (suc (suc zero)) l = refl
    each (suc (suc (suc zero))) l = refl
    each (suc (suc (suc (suc i)))) l = absurd (omega arith)

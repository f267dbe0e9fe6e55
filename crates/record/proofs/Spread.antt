-- The eight bits of a byte, spread over as many bytes by a product.
use Rattle.std.proofs.Common.{◌≡◌, ℕ, zero, suc, ◌+◌, ◌-◌, ◌*◌, ◌/◌, ◌%◌, ◌^◌, ◌<◌, ◌≤◌, Bool, true, ◌&&◌, List, [], ◌∷◌, length, get_or, take, drop, sym, refl, ap, ◌∙◌, ap₂, inl, inr, mul_assoc, arith}
use lib.Bits.{bit_and}
use Rattle.std.proofs.lemmas.Nat.{div-add-mod', field_of, pow-add, shr-shr}
use Rattle.std.proofs.lemmas.List.{ext_get_or, get_or-take, get_or-drop, length-take-le, length-drop}
use Rattle.std.proofs.lemmas.Bool.{and_parts, cases_eq}
use Rattle.model.specs.Records.{bits, same_bytes}
use Rattle.path.specs.Packs.{word_bits}
use Rattle.path.proofs.Same.{same_true}
use Rattle.path.proofs.Words.{get_d_bits, get_or_word_bits, length_bits, length_word_bits}

-- a test of every number below n
abbrev all_below : ℕ → (ℕ → Bool) → Bool
all_below zero f = true
all_below (suc n) f = f n && all_below n f

all_at : (n : ℕ) (f : ℕ → Bool) → all_below n f ≡ true → (i : ℕ) → i < n → f i ≡ true
all_at zero f h i k = absurd (omega arith)
all_at (suc n) f h i k =
    let p = and_parts (f n) (all_below n f) h in
    elim (cases_eq i n) [ inl e ↦ ap f e ∙ p.0 | inr ne ↦ all_at n f p.1 i (below ne) ]
  where
    below : (i ≡ n → ⊥) → i < n
    below ne = omega arith

-- what to_le_bytes gives
abbrev eight_bytes : ℕ → List ℕ
eight_bytes x = x % 256 ∷ (x / 256 % 256 ∷ (x / 65536 % 256 ∷ (x / 16777216 % 256 ∷ (x / 4294967296 % 256 ∷ (x / 1099511627776 % 256 ∷ (x / 281474976710656 % 256 ∷ (x / 72057594037927936 % 256 ∷ [])))))))

abbrev spread : ℕ → ℕ
spread b = bit_and (b * 0x8040201008040201 % 18446744073709551616 / 128) 0x0101010101010101

each_spread : all_below 256 (λ (b : ℕ). same_bytes (eight_bytes (spread b)) (bits 8 b)) ≡ true
unfolding same_bytes bits
each_spread = refl

pub spread_bits : (b : ℕ) → b < 256 → eight_bytes (spread b) ≡ bits 8 b
spread_bits b h = same_true (eight_bytes (spread b)) (bits 8 b) (all_at 256 (λ (x : ℕ). same_bytes (eight_bytes (spread x)) (bits 8 x)) each_spread b h)

-- ---- a byte of words

-- a bit of eight that are cut out
cut_bit : (x i : ℕ) → i < 8 → x % 256 / 2 ^ (7 - i) % 2 ≡ x / 2 ^ (7 - i) % 2
cut_bit x i h =
    let e : i + 1 + (7 - i) ≡ 8 = omega arith in
    let f : x % 256 / 2 ^ (7 - i) ≡ x / 2 ^ (7 - i) % 2 ^ (i + 1) = ap (λ (n : ℕ). x % 2 ^ n / 2 ^ (7 - i)) (sym e) ∙ field_of x (i + 1) (7 - i) in
    let d : 2 ^ (i + 1) ≡ 2 ^ i * 2 = pow-add 2 i 1 in
    ap (λ (y : ℕ). y % 2) f ∙ (ap (λ (y : ℕ). x / 2 ^ (7 - i) % y % 2) d ∙ mod_mod (x / 2 ^ (7 - i)) (2 ^ i))
  where
    mod_mod : (n m : ℕ) → n % (m * 2) % 2 ≡ n % 2
    mod_mod n m = let e = div-add-mod' n (m * 2) in let a : n / (m * 2) * (m * 2) ≡ (n / (m * 2) * m) * 2 = sym (mul_assoc (n / (m * 2)) m 2) in omega arith

pub byte_bits : (ws : List ℕ) (j : ℕ) → 8 * j + 8 ≤ 64 * length ws → bits 8 (get_or ws (j / 8) 0 / 2 ^ (56 - 8 * (j % 8)) % 256) ≡ take 8 (drop (8 * j) (word_bits ws))
byte_bits ws j h =
    let n = length_word_bits ws in
    let m = length-drop (8 * j) (word_bits ws) in
    ext_get_or 0 (bits 8 x) (take 8 (drop (8 * j) (word_bits ws))) (length_bits 8 x ∙ sym (length-take-le 8 (drop (8 * j) (word_bits ws)) (omega arith)))
    (λ i l. each i (omega (arith, length_bits 8 x)))
  where
    w : ℕ
    w = get_or ws (j / 8) 0

    k : ℕ
    k = 56 - 8 * (j % 8)

    x : ℕ
    x = w / 2 ^ k % 256

    each : (i : ℕ) → i < 8 → get_or (bits 8 x) i 0 ≡ get_or (take 8 (drop (8 * j) (word_bits ws))) i 0
    each i l =
        let q : (8 * j + i) / 64 ≡ j / 8 = omega arith in
        let r : k + (7 - i) ≡ 63 - (8 * j + i) % 64 = omega arith in
        get_d_bits 8 x i l
        ∙ (cut_bit (w / 2 ^ k) i l
        ∙ (ap (λ (y : ℕ). y % 2) (shr-shr w k (7 - i))
        ∙ (ap₂ (λ (a b : ℕ). get_or ws a 0 / 2 ^ b % 2) (sym q) r
        ∙ sym (get_or-take 8 (drop (8 * j) (word_bits ws)) i 0 l ∙ (get_or-drop (8 * j) (word_bits ws) i 0 ∙ get_or_word_bits ws (8 * j + i) (omega arith))))))

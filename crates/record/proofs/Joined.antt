-- The bits of a number that is made of others, one after the other.
use Rattle.std.proofs.Common.{◌≡◌, ℕ, zero, suc, ◌+◌, ◌*◌, ◌/◌, ◌%◌, ◌^◌, ◌<◌, ◌≤◌, List, [], ◌∷◌, ◌++◌, length, sym, ap, ◌∙◌, ap₂, append_assoc, append-nil, add-zero, mul_assoc, pow-suc, mul-one, arith}
use lib.Bits.{bit_or}
use Rattle.std.proofs.lemmas.Nat.{or_shifted, pow-add, shl_whole}
use Rattle.model.specs.Records.{bits, bits_of_bytes}

pub bits_append : (n m w b : ℕ) → b < 2 ^ m → bits (n + m) (w * 2 ^ m + b) ≡ bits n w ++ bits m b
unfolding bits
bits_append n zero w b h =
    let z : w * 2 ^ 0 + b ≡ w = let e = mul-one w in omega arith in
    ap₂ bits (add-zero n) z ∙ sym (append-nil (bits n w))
bits_append n (suc m) w b h =
    let d : 2 ^ suc m ≡ 2 ^ m * 2 = pow-suc 2 m in
    let p : w * 2 ^ suc m ≡ (w * 2 ^ m) * 2 = ap (λ (x : ℕ). w * x) d ∙ sym (mul_assoc w (2 ^ m) 2) in
    let half : (w * 2 ^ suc m + b) / 2 ≡ w * 2 ^ m + b / 2 = omega arith in
    let last : (w * 2 ^ suc m + b) % 2 ≡ b % 2 = omega arith in
    let e : n + suc m ≡ suc (n + m) = omega arith in
    ap (λ (k : ℕ). bits k (w * 2 ^ suc m + b)) e
    ∙ (ap₂ (λ (x y : ℕ). bits (n + m) x ++ (y ∷ [])) half last
    ∙ (ap (λ (l : List ℕ). l ++ (b % 2 ∷ [])) (bits_append n m w (b / 2) (omega arith)) ∙ append_assoc (bits n w) (bits m (b / 2)) (b % 2 ∷ [])))

-- bytes one after the other, the first the highest
abbrev pub AllBytes : List ℕ → Type 0
AllBytes [] = Unit {0}
AllBytes (x ∷ xs) = (x < 256) × AllBytes xs

abbrev pub high_first : ℕ → List ℕ → ℕ
high_first w [] = w
high_first w (b ∷ bs) = high_first (w * 256 + b) bs

pub high_first_bits : (bs : List ℕ) (n w : ℕ) → AllBytes bs → bits (n + 8 * length bs) (high_first w bs) ≡ bits n w ++ bits_of_bytes bs
unfolding bits_of_bytes
high_first_bits [] n w h = ap (λ (k : ℕ). bits k w) (add-zero n) ∙ sym (append-nil (bits n w))
high_first_bits (b ∷ bs) n w h =
    let e : n + 8 * suc (length bs) ≡ n + 8 + 8 * length bs = omega arith in
    ap (λ (k : ℕ). bits k (high_first (w * 256 + b) bs)) e
    ∙ (high_first_bits bs (n + 8) (w * 256 + b) h.1
    ∙ (ap (λ (l : List ℕ). l ++ bits_of_bytes bs) (bits_append n 8 w b h.0) ∙ append_assoc (bits n w) (bits 8 b) (bits_of_bytes bs)))

-- a word that eight bits more are shifted into
pub shifted : (n w b : ℕ) → n + 8 ≤ 64 → w < 2 ^ n → b < 256 → bit_or (w * 256 % 18446744073709551616) b ≡ w * 256 + b
shifted n w b h k l = ap (λ (x : ℕ). bit_or x b) (shl_whole w n 8 64 k h) ∙ or_shifted w 8 b l

pub shifted_below : (n w b : ℕ) → w < 2 ^ n → b < 256 → w * 256 + b < 2 ^ (n + 8)
shifted_below n w b h k = let e : 2 ^ (n + 8) ≡ 2 ^ n * 256 = pow-add 2 n 8 in omega arith

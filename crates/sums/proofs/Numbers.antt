-- Numbers in words, added with what is carried.
use Rattle.std.proofs.Common.{◌≡◌, ℕ, ◌+◌, ◌*◌, ◌%◌, ◌^◌, ◌<◌, List, [], ◌∷◌, length, get_or, arith}
use Rattle.model.specs.Monitor.{modulus}
use Rattle.slot.specs.Layout.{number_in}

-- the number in four words
four : (ws : List ℕ) → length ws ≡ 4 → number_in ws ≡ get_or ws 0 0 + 18446744073709551616 * (get_or ws 1 0 + 18446744073709551616 * (get_or ws 2 0 + 18446744073709551616 * get_or ws 3 0))
unfolding number_in
four [] e = absurd (omega arith)
four (a ∷ []) e = absurd (omega arith)
four (a ∷ b ∷ []) e = absurd (omega arith)
four (a ∷ b ∷ c ∷ []) e = absurd (omega arith)
four (a ∷ b ∷ c ∷ d ∷ []) e = omega arith
four (a ∷ b ∷ c ∷ d ∷ f ∷ ws) e = absurd (omega arith)

-- what is left of a sum that wraps
wraps : (n u x : ℕ) → n + modulus * u ≡ x → n < modulus → n ≡ x % modulus
wraps n u x e h = omega arith

-- four words that are added, with what is carried from each
pub added : (s h : List ℕ) → length s ≡ 4 → length h ≡ 4 → (a p b q c r d u : ℕ)
    → a + p * 2 ^ 64 ≡ get_or s 0 0 + get_or h 0 0 + 0 → b + q * 2 ^ 64 ≡ get_or s 1 0 + get_or h 1 0 + p
    → c + r * 2 ^ 64 ≡ get_or s 2 0 + get_or h 2 0 + q → d + u * 2 ^ 64 ≡ get_or s 3 0 + get_or h 3 0 + r
    → a < 2 ^ 64 → b < 2 ^ 64 → c < 2 ^ 64 → d < 2 ^ 64
    → number_in (a ∷ (b ∷ (c ∷ (d ∷ [])))) ≡ (number_in s + number_in h) % modulus
unfolding number_in
added s h ls lh a p b q c r d u ea eb ec ed ha hb hc hd =
    let ns = four s ls in
    let nh = four h lh in
    wraps _ u _ (omega arith) (omega arith)

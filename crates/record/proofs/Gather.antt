-- Eight bits in as many bytes, brought into one byte by a product.
use Rattle.std.proofs.Common.{◌≡◌, ℕ, zero, suc, ◌+◌, ◌*◌, ◌/◌, ◌%◌, ◌<◌, true, List, [], ◌∷◌, ◌++◌, length, get_or, sym, refl, ap, ◌∙◌, arith}
use Rattle.std.proofs.lemmas.List.{ext_get_or}
use Rattle.model.specs.Monitor.{are_bits}
use Rattle.model.specs.Records.{bits}
use Rattle.record.proofs.Joined.{bits_append}
use Rattle.record.proofs.Ones.{bit_at}

-- eight bytes as a number, the first the lowest
abbrev pub low_first : ℕ → ℕ → ℕ → ℕ → ℕ → ℕ → ℕ → ℕ → ℕ
low_first a b c d e f g h = a + b * 256 + c * 65536 + d * 16777216 + e * 4294967296 + f * 1099511627776 + g * 281474976710656 + h * 72057594037927936

highest : (q t l : ℕ) → t < 256 → l < 72057594037927936 → (q * 18446744073709551616 + t * 72057594037927936 + l) % 18446744073709551616 / 72057594037927936 ≡ t
highest q t l i j = omega arith

gathered : (a b c d e f g h : ℕ) → a < 2 → b < 2 → c < 2 → d < 2 → e < 2 → f < 2 → g < 2 → h < 2 →
    low_first a b c d e f g h * 0x8040201008040201 % 18446744073709551616 / 72057594037927936
    ≡ a * 128 + b * 64 + c * 32 + d * 16 + e * 8 + f * 4 + g * 2 + h
gathered a b c d e f g h i j k l m n o p =
    let q : ℕ = a * 0 + b * 128 + c * 32832 + d * 8405024 + e * 2151686160 + f * 550831656968 + g * 141012904183812 + h * 36099303471055874 in
    let t : ℕ = a * 128 + b * 64 + c * 32 + d * 16 + e * 8 + f * 4 + g * 2 + h in
    let r : ℕ = a * 18049651735527937 + b * 9024825867763968 + c * 4512412933881856 + d * 2256206466908160 + e * 1128103225065472 + f * 564049465049088 + g * 281474976710656 + h * 0 in
    let s : low_first a b c d e f g h * 0x8040201008040201 ≡ q * 18446744073709551616 + t * 72057594037927936 + r = omega arith in
    ap (λ (x : ℕ). x % 18446744073709551616 / 72057594037927936) s ∙ highest q t r (omega arith) (omega arith)

one_bit : (a : ℕ) → a < 2 → bits 1 a ≡ a ∷ []
unfolding bits
one_bit a h = ap (λ (x : ℕ). x ∷ []) (let e : a % 2 ≡ a = omega arith in e)

bit_more : (n w b : ℕ) → b < 2 → bits (n + 1) (w * 2 + b) ≡ bits n w ++ (b ∷ [])
bit_more n w b h = bits_append n 1 w b h ∙ ap (λ (l : List ℕ). bits n w ++ l) (one_bit b h)

eight_bits : (a b c d e f g h : ℕ) → a < 2 → b < 2 → c < 2 → d < 2 → e < 2 → f < 2 → g < 2 → h < 2 →
    bits 8 (a * 128 + b * 64 + c * 32 + d * 16 + e * 8 + f * 4 + g * 2 + h) ≡ a ∷ (b ∷ (c ∷ (d ∷ (e ∷ (f ∷ (g ∷ (h ∷ [])))))))
eight_bits a b c d e f g h i j k l m n o p =
    let w2 : ℕ = a * 2 + b in
    let w3 : ℕ = w2 * 2 + c in
    let w4 : ℕ = w3 * 2 + d in
    let w5 : ℕ = w4 * 2 + e in
    let w6 : ℕ = w5 * 2 + f in
    let w7 : ℕ = w6 * 2 + g in
    let s : a * 128 + b * 64 + c * 32 + d * 16 + e * 8 + f * 4 + g * 2 + h ≡ w7 * 2 + h = omega arith in
    let p1 = one_bit a i in
    let p2 : bits 2 w2 ≡ a ∷ (b ∷ []) = bit_more 1 a b j ∙ ap (λ (l : List ℕ). l ++ (b ∷ [])) p1 in
    let p3 : bits 3 w3 ≡ a ∷ (b ∷ (c ∷ [])) = bit_more 2 w2 c k ∙ ap (λ (l : List ℕ). l ++ (c ∷ [])) p2 in
    let p4 : bits 4 w4 ≡ a ∷ (b ∷ (c ∷ (d ∷ []))) = bit_more 3 w3 d l ∙ ap (λ (l : List ℕ). l ++ (d ∷ [])) p3 in
    let p5 : bits 5 w5 ≡ a ∷ (b ∷ (c ∷ (d ∷ (e ∷ [])))) = bit_more 4 w4 e m ∙ ap (λ (l : List ℕ). l ++ (e ∷ [])) p4 in
    let p6 : bits 6 w6 ≡ a ∷ (b ∷ (c ∷ (d ∷ (e ∷ (f ∷ []))))) = bit_more 5 w5 f n ∙ ap (λ (l : List ℕ). l ++ (f ∷ [])) p5 in
    let p7 : bits 7 w7 ≡ a ∷ (b ∷ (c ∷ (d ∷ (e ∷ (f ∷ (g ∷ [])))))) = bit_more 6 w6 g o ∙ ap (λ (l : List ℕ). l ++ (g ∷ [])) p6 in
    ap (bits 8) s ∙ (bit_more 7 w7 h p ∙ ap (λ (l : List ℕ). l ++ (h ∷ [])) p7)

-- a list of eight, by its items
eight_items : (xs : List ℕ) → length xs ≡ 8 →
    xs ≡ get_or xs 0 0 ∷ (get_or xs 1 0 ∷ (get_or xs 2 0 ∷ (get_or xs 3 0 ∷ (get_or xs 4 0 ∷ (get_or xs 5 0 ∷ (get_or xs 6 0 ∷ (get_or xs 7 0 ∷ [])))))))
eight_items xs l = ext_get_or 0 xs _ l (λ i h. go i (omega arith))
  where
    go : (i : ℕ) → i < 8 → get_or xs i 0 ≡ get_or (get_or xs 0 0 ∷ (get_or xs 1 0 ∷ (get_or xs 2 0 ∷ (get_or xs 3 0 ∷ (get_or xs 4 0 ∷ (get_or xs 5 0 ∷ (get_or xs 6 0 ∷ (get_or xs 7 0 ∷ [])))))))) i 0
    go zero h = refl
    go (suc zero) h = refl
    go (suc (suc zero)) h = refl
    go (suc (suc (suc zero))) h = refl
    go (suc (suc (suc (suc zero)))) h = refl
    go (suc (suc (suc (suc (suc zero))))) h = refl
    go (suc (suc (suc (suc (suc (suc zero)))))) h = refl
    go (suc (suc (suc (suc (suc (suc (suc zero))))))) h = refl
    go (suc (suc (suc (suc (suc (suc (suc (suc i)))))))) h = absurd (omega arith)

pub gathered_bits : (xs : List ℕ) → length xs ≡ 8 → are_bits xs ≡ true →
    bits 8 (low_first (get_or xs 0 0) (get_or xs 1 0) (get_or xs 2 0) (get_or xs 3 0) (get_or xs 4 0) (get_or xs 5 0) (get_or xs 6 0) (get_or xs 7 0) * 0x8040201008040201 % 18446744073709551616 / 72057594037927936) ≡ xs
gathered_bits xs l h =
    let a : (i : ℕ) → get_or xs i 0 < 2 = λ i. bit_at xs i h in
    ap (bits 8) (gathered _ _ _ _ _ _ _ _ (a 0) (a 1) (a 2) (a 3) (a 4) (a 5) (a 6) (a 7))
    ∙ (eight_bits _ _ _ _ _ _ _ _ (a 0) (a 1) (a 2) (a 3) (a 4) (a 5) (a 6) (a 7) ∙ sym (eight_items xs l))

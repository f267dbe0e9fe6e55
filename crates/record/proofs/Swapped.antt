-- The bits of a digest, from limbs with their bytes turned round.
use Rattle.std.proofs.Common.{◌≡◌, ℕ, zero, suc, ◌+◌, ◌-◌, ◌*◌, ◌/◌, ◌%◌, ◌<◌, List, [], ◌∷◌, ◌++◌, length, get_or, replicate, sym, refl, ap, ◌∙◌, ap₂, append_assoc, arith}
use Rattle.std.proofs.lemmas.Nat.{mod_below, shr-shr}
use Rattle.std.proofs.lemmas.List.{take_all, drop_all}
use Rattle.model.specs.Records.{bits, bits_of_bytes, le_bytes}
use Rattle.path.specs.Packs.{word_bits, path_in, Packs}
use Rattle.path.proofs.Words.{length_word_bits}
use Rattle.sha256.specs.Limbs.{limbs_bytes}
use Rattle.record.proofs.Joined.{AllBytes, high_first, high_first_bits}

-- what swap_bytes gives
abbrev swapped : ℕ → ℕ
swapped x = x % 256 * 72057594037927936 + x / 256 % 256 * 281474976710656 + x / 65536 % 256 * 1099511627776 + x / 16777216 % 256 * 4294967296 + x / 4294967296 % 256 * 16777216 + x / 1099511627776 % 256 * 65536 + x / 281474976710656 % 256 * 256 + x / 72057594037927936 % 256

le_are_bytes : (k n : ℕ) → AllBytes (le_bytes k n)
unfolding le_bytes
le_are_bytes zero n = tt
le_are_bytes (suc k) n = (mod_below n 256 (omega arith), le_are_bytes k (n / 256))

swapped_is : (x : ℕ) → high_first 0 (le_bytes 8 x) ≡ swapped x
unfolding le_bytes
swapped_is x =
    let e2 : x / 256 / 256 ≡ x / 65536 = shr-shr x 8 8 in
    let e3 : x / 256 / 256 / 256 ≡ x / 16777216 = ap (λ (y : ℕ). y / 256) e2 ∙ shr-shr x 16 8 in
    let e4 : x / 256 / 256 / 256 / 256 ≡ x / 4294967296 = ap (λ (y : ℕ). y / 256) e3 ∙ shr-shr x 24 8 in
    let e5 : x / 256 / 256 / 256 / 256 / 256 ≡ x / 1099511627776 = ap (λ (y : ℕ). y / 256) e4 ∙ shr-shr x 32 8 in
    let e6 : x / 256 / 256 / 256 / 256 / 256 / 256 ≡ x / 281474976710656 = ap (λ (y : ℕ). y / 256) e5 ∙ shr-shr x 40 8 in
    let e7 : x / 256 / 256 / 256 / 256 / 256 / 256 / 256 ≡ x / 72057594037927936 = ap (λ (y : ℕ). y / 256) e6 ∙ shr-shr x 48 8 in
    rw (e7, e6, e5, e4, e3, e2) (sum (x % 256) (x / 256 % 256) (x / 65536 % 256) (x / 16777216 % 256) (x / 4294967296 % 256) (x / 1099511627776 % 256) (x / 281474976710656 % 256) (x / 72057594037927936 % 256))
  where
    sum : (a b c d e f g h : ℕ) → (((((((0 * 256 + a) * 256 + b) * 256 + c) * 256 + d) * 256 + e) * 256 + f) * 256 + g) * 256 + h
        ≡ a * 72057594037927936 + b * 281474976710656 + c * 1099511627776 + d * 4294967296 + e * 16777216 + f * 65536 + g * 256 + h
    sum a b c d e f g h = omega arith

pub swapped_bits : (x : ℕ) → bits 64 (swapped x) ≡ bits_of_bytes (le_bytes 8 x)
unfolding bits le_bytes
swapped_bits x = ap (bits 64) (sym (swapped_is x)) ∙ high_first_bits (le_bytes 8 x) 0 0 (le_are_bytes 8 x)

bits_of_append : (xs ys : List ℕ) → bits_of_bytes (xs ++ ys) ≡ bits_of_bytes xs ++ bits_of_bytes ys
unfolding bits_of_bytes
bits_of_append [] ys = refl
bits_of_append (x ∷ xs) ys = ap (λ (l : List ℕ). bits 8 x ++ l) (bits_of_append xs ys) ∙ sym (append_assoc (bits 8 x) (bits_of_bytes xs) (bits_of_bytes ys))

-- words with the bits of limbs
pub digest_bits : (ws xs : List ℕ) → length ws ≡ length xs → ((i : ℕ) → i < length xs → bits 64 (get_or ws i 0) ≡ bits_of_bytes (le_bytes 8 (get_or xs i 0))) →
    word_bits ws ≡ bits_of_bytes (limbs_bytes xs)
unfolding word_bits limbs_bytes bits_of_bytes
digest_bits [] [] l h = refl
digest_bits [] (x ∷ xs) l h = absurd (omega arith)
digest_bits (w ∷ ws) [] l h = absurd (omega arith)
digest_bits (w ∷ ws) (x ∷ xs) l h =
    ap₂ (λ (x y : List ℕ). x ++ y) (h 0 (omega arith)) (digest_bits ws xs (omega arith) (λ i k. h (suc i) (omega arith))) ∙ sym (bits_of_append (le_bytes 8 x) (limbs_bytes xs))

-- words that are all path
pub whole_packs : (ws : List ℕ) → Packs (64 * length ws) ws
whole_packs ws =
    let l = length_word_bits ws in
    let z : 64 * length ws - 64 * length ws ≡ 0 = omega arith in
    (omega arith, drop_all (64 * length ws) (word_bits ws) (omega arith) ∙ sym (ap (λ (n : ℕ). replicate n 0) z))

pub whole_path : (ws : List ℕ) → path_in (64 * length ws) ws ≡ word_bits ws
whole_path ws = let l = length_word_bits ws in take_all (64 * length ws) (word_bits ws) (omega arith)

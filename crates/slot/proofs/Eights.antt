-- The bytes in words, eight to a word.
use Rattle.std.proofs.Common.{◌≡◌, ℕ, zero, suc, ◌+◌, ◌*◌, ◌^◌, ◌<◌, List, [], ◌∷◌, ◌++◌, length, get_or, take, drop, sym, refl, ap, ◌∙◌, arith, drop-drop}
use Rattle.std.proofs.lemmas.List.{take_at, drop_at}
use Rattle.std.specs.List.{flat_map}
use Rattle.model.specs.Records.{le_bytes, le_number}
use Rattle.slot.specs.Layout.{bytes_in}

pub length_eight : (w : ℕ) → length (le_bytes 8 w) ≡ 8
unfolding le_bytes
length_eight w = refl

-- one of the words
pub word_bytes : (ws : List ℕ) (j : ℕ) → j < length ws → take 8 (drop (8 * j) (bytes_in ws)) ≡ le_bytes 8 (get_or ws j 0)
unfolding bytes_in
word_bytes [] j h = absurd (omega arith)
word_bytes (w ∷ ws) zero h = take_at (le_bytes 8 w) (bytes_in ws) 8 (length_eight w)
word_bytes (w ∷ ws) (suc j) h =
    let q : 8 * suc j ≡ 8 + 8 * j = omega arith in
    ap (λ (k : ℕ). take 8 (drop k (le_bytes 8 w ++ bytes_in ws))) q
    ∙ ap (take 8) (sym (drop-drop (8 * j) 8 (le_bytes 8 w ++ bytes_in ws)) ∙ ap (drop (8 * j)) (drop_at (le_bytes 8 w) (bytes_in ws) 8 (length_eight w)))
    ∙ word_bytes ws j (omega arith)

-- numbers that are written one after the other
pub numbers_in : (ws : List ℕ) → flat_map (le_bytes 8) ws ≡ bytes_in ws
unfolding bytes_in
numbers_in [] = refl
numbers_in (w ∷ ws) = ap (λ (x : List ℕ). le_bytes 8 w ++ x) (numbers_in ws)

-- and back
pub number_then : (w : ℕ) (bs : List ℕ) → w < 2 ^ 64 → le_number (le_bytes 8 w ++ bs) ≡ w + 2 ^ 64 * le_number bs
unfolding le_bytes le_number
number_then w bs h = omega arith

-- The bytes in words, eight to a word.
use Rattle.std.proofs.Common.{◌≡◌, ℕ, zero, suc, ◌+◌, ◌*◌, ◌/◌, ◌^◌, ◌≤◌, List, [], ◌∷◌, ◌++◌, length, take, sym, refl, ap, ap₂, ◌∙◌, append-nil, arith}
use Rattle.std.specs.List.{flat_map}
use Rattle.std.proofs.lemmas.List.{take_at, drop_at}
use Rattle.model.specs.Records.{le_bytes, le_number}
use Rattle.path.specs.Packs.{Fit}
use Rattle.slot.specs.Layout.{bytes_in, number_in}
use Rattle.record.proofs.Filled.{more_taken}
use Rattle.slot.proofs.Eights.{length_eight, number_then}
use Rattle.slot.proofs.Texts.{AllBytes, length_bytes_in, bytes_number}

-- numbers that are written one after the other
pub numbers_taken : (ws : List ℕ) (j : ℕ) → j ≤ length ws → flat_map (le_bytes 8) (take j ws) ≡ take (8 * j) (bytes_in ws)
unfolding bytes_in
numbers_taken ws zero h = refl
numbers_taken [] (suc j) h = absurd (omega arith)
numbers_taken (w ∷ ws) (suc j) h =
    ap₂ (λ (x y : List ℕ). x ++ y) (sym (take_at (le_bytes 8 w) (bytes_in ws) 8 (length_eight w)))
    (numbers_taken ws j (omega arith) ∙ ap (take (8 * j)) (sym (drop_at (le_bytes 8 w) (bytes_in ws) 8 (length_eight w))))
    ∙ more_taken 8 (8 * j) (8 * suc j) (bytes_in (w ∷ ws)) _ (omega arith) refl

-- ---- the number in words

append_bytes : (xs ys : List ℕ) → AllBytes xs → AllBytes ys → AllBytes (xs ++ ys)
append_bytes [] ys a b i = b i
append_bytes (x ∷ xs) ys a b zero = a 0
append_bytes (x ∷ xs) ys a b (suc i) = append_bytes xs ys (λ j. a (suc j)) b i

le_all : (k n : ℕ) → AllBytes (le_bytes k n)
unfolding le_bytes
le_all zero n i = omega arith
le_all (suc k) n zero = omega arith
le_all (suc k) n (suc i) = le_all k (n / 256) i

all_in : (ws : List ℕ) → AllBytes (bytes_in ws)
unfolding bytes_in
all_in [] i = omega arith
all_in (w ∷ ws) i = append_bytes (le_bytes 8 w) (bytes_in ws) (le_all 8 w) (all_in ws) i

number_bytes : (ws : List ℕ) → Fit ws → le_number (bytes_in ws) ≡ number_in ws
unfolding bytes_in number_in le_number
number_bytes [] f = refl
number_bytes (w ∷ ws) f = number_then w (bytes_in ws) (f 0) ∙ ap (λ (n : ℕ). w + 2 ^ 64 * n) (number_bytes ws (λ i. f (suc i)))

pub bytes_of_number : (ws : List ℕ) → Fit ws → le_bytes (8 * length ws) (number_in ws) ≡ bytes_in ws
bytes_of_number ws f =
    let l = length_bytes_in ws in
    ap (le_bytes (8 * length ws)) (sym (number_bytes ws f)) ∙ bytes_number (bytes_in ws) 0 (8 * length ws) (omega arith) (all_in ws) ∙ append-nil (bytes_in ws)

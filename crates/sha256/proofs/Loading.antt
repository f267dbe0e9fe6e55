-- Bytes as words, the high byte first; a list in pieces of one length.
use Rattle.std.proofs.Common.{◌≡◌, ℕ, zero, suc, ◌+◌, ◌*◌, ◌<◌, List, [], ◌∷◌, ◌++◌, length, get_or, take, drop, refl, sym, ap, ◌∙◌, append_assoc, mul-suc, arith}
use Rattle.std.specs.List.{flat_map}
use Rattle.std.specs.Simd.{first_chunks}
use Rattle.std.proofs.lemmas.List.{drop-drop}
use Rattle.model.specs.Sha256.{be_words}
use Rattle.sha256.proofs.Lanes.{by_four}

-- one of the pieces that a list is cut into
pub chunk_at : (n k : ℕ) (xs : List ℕ) (i : ℕ) (d : List ℕ) → i < k → get_or (first_chunks n k xs) i d ≡ take n (drop (n * i) xs)
chunk_at n zero xs i d h = absurd (omega arith)
chunk_at n (suc k) xs zero d h = ap (λ (m : ℕ). take n (drop m xs)) (let z : 0 ≡ n * 0 = omega arith in z)
chunk_at n (suc k) xs (suc i) d h =
    chunk_at n k (drop n xs) i d (omega arith) ∙ ap (take n) (drop-drop (n * i) n xs ∙ ap (λ (m : ℕ). drop m xs) (let e : n + n * i ≡ n * suc i = omega (arith, mul-suc n i) in e))

-- a word, as from_be_bytes has it
pub word_is : (x : List ℕ) → length x ≡ 4 → (n : ℕ) → n ≡ get_or x 0 0 * 16777216 + get_or x 1 0 * 65536 + get_or x 2 0 * 256 + get_or x 3 0 → n ∷ [] ≡ be_words x
unfolding be_words
word_is x l =
    by_four (λ (x : List ℕ). (n : ℕ) → n ≡ get_or x 0 0 * 16777216 + get_or x 1 0 * 65536 + get_or x 2 0 * 256 + get_or x 3 0 → n ∷ [] ≡ be_words x)
    (λ p q r s n e. ap (λ (m : ℕ). m ∷ []) (e ∙ (let v : p * 16777216 + q * 65536 + r * 256 + s ≡ ((p * 256 + q) * 256 + r) * 256 + s = omega arith in v))) x l

-- words in pieces of four bytes
pub pieces_are : (k : ℕ) (xs : List ℕ) → length xs ≡ 4 * k → flat_map be_words (first_chunks 4 k xs) ≡ be_words xs
unfolding be_words
pieces_are zero [] l = refl
pieces_are zero (x ∷ xs) l = absurd (omega arith)
pieces_are (suc k) [] l = absurd (omega arith)
pieces_are (suc k) (a ∷ []) l = absurd (omega arith)
pieces_are (suc k) (a ∷ (b ∷ [])) l = absurd (omega arith)
pieces_are (suc k) (a ∷ (b ∷ (c ∷ []))) l = absurd (omega arith)
pieces_are (suc k) (a ∷ (b ∷ (c ∷ (d ∷ xs)))) l = ap (λ (ys : List ℕ). (((a * 256 + b) * 256 + c) * 256 + d) ∷ ys) (pieces_are k xs (omega arith))

pub four_pieces : (xs : List (List ℕ)) → length xs ≡ 4 → (p q r s : ℕ) → p ∷ [] ≡ be_words (get_or xs 0 []) → q ∷ [] ≡ be_words (get_or xs 1 [])
    → r ∷ [] ≡ be_words (get_or xs 2 []) → s ∷ [] ≡ be_words (get_or xs 3 []) → p ∷ (q ∷ (r ∷ (s ∷ []))) ≡ flat_map be_words xs
four_pieces [] l p q r s f g h i = absurd (omega arith)
four_pieces (a ∷ []) l p q r s f g h i = absurd (omega arith)
four_pieces (a ∷ (b ∷ [])) l p q r s f g h i = absurd (omega arith)
four_pieces (a ∷ (b ∷ (c ∷ []))) l p q r s f g h i = absurd (omega arith)
four_pieces (a ∷ (b ∷ (c ∷ (d ∷ [])))) l p q r s e f g h = λ i. e i ++ (f i ++ (g i ++ (h i ++ [])))
four_pieces (a ∷ (b ∷ (c ∷ (d ∷ (e ∷ xs))))) l p q r s f g h i = absurd (omega arith)

flat_parts : (n : ℕ) (xs : List (List ℕ)) → flat_map be_words xs ≡ flat_map be_words (take n xs) ++ flat_map be_words (drop n xs)
flat_parts zero xs = refl
flat_parts (suc n) [] = refl
flat_parts (suc n) (x ∷ xs) = ap (λ (ys : List ℕ). be_words x ++ ys) (flat_parts n xs) ∙ sym (append_assoc (be_words x) (flat_map be_words (take n xs)) (flat_map be_words (drop n xs)))

-- the words of a block, four at a time
pub sixteen_words : (block : List ℕ) (xs : List (List ℕ)) → length block ≡ 64 → xs ≡ first_chunks 4 16 block
    → flat_map be_words (take 4 xs) ++ (flat_map be_words (take 4 (drop 4 xs)) ++ (flat_map be_words (take 4 (drop 8 xs)) ++ flat_map be_words (drop 12 xs))) ≡ be_words block
sixteen_words block xs l e =
    let a = flat_parts 4 xs in
    let b = flat_parts 4 (drop 4 xs) in
    let c = flat_parts 4 (drop 8 xs) in
    let d = drop-drop 4 4 xs in
    let f = drop-drop 4 8 xs in
    let g = pieces_are 16 block l in
    cc

pub four_listed : (rs : List ℕ) → length rs ≡ 4 → rs ≡ get_or rs 0 0 ∷ (get_or rs 1 0 ∷ (get_or rs 2 0 ∷ (get_or rs 3 0 ∷ [])))
four_listed rs l = by_four (λ (x : List ℕ). x ≡ get_or x 0 0 ∷ (get_or x 1 0 ∷ (get_or x 2 0 ∷ (get_or x 3 0 ∷ [])))) (λ p q r s. refl) rs l

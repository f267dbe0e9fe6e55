-- One step of a reader at a slice, as the code takes it.
use Rattle.std.proofs.Common.{◌≡◌, ℕ, ◌+◌, ◌-◌, ◌*◌, ◌<◌, ◌≤◌, Bool, true, false, List, [], ◌∷◌, length, take, drop, refl, ◌∙◌, ⊎_elim, add-zero, arith}
use Rattle.std.proofs.lemmas.List.{take_rest, drop_all, drop-drop, drop-take, take-take, length-drop, length-take-le}
use Rattle.std.proofs.lemmas.Bool.{le-leb, lt-leb, cases_lt}
use Rattle.model.specs.Records.{le_number}
use Rattle.model.specs.Wire.{Got, got, stop, and_then, reads_chunk, reads_number, reads_one}
use Rattle.wire_laws.proofs.Numbers.{low_word}
use Rattle.reader.specs.Meaning.{hash_number}

module _ (fit : ℕ → Bool) where
  pub one_none : (xs : List ℕ) → length xs ≡ 0 → reads_one fit xs ≡ stop xs
  unfolding reads_one
  one_none [] h = refl
  one_none (x ∷ xs) h = absurd (omega arith)

  pub one_other : (xs : List ℕ) (x : ℕ) (rest : List ℕ) → xs ≡ x ∷ rest → fit x ≡ false → reads_one fit xs ≡ stop xs
  unfolding reads_one
  one_other xs x rest e l = rw (e, l)

  pub one_fit : (xs : List ℕ) (x : ℕ) (rest : List ℕ) → xs ≡ x ∷ rest → fit x ≡ true → reads_one fit xs ≡ got x rest
  unfolding reads_one
  one_fit xs x rest e l = rw (e, l)

pub chunk_short : (n : ℕ) (xs : List ℕ) → length xs < n → reads_chunk n xs ≡ stop (take (length xs - length xs) (drop (length xs) xs))
unfolding reads_chunk
chunk_short n xs h = rw (lt-leb n (length xs) h, take_rest xs (length xs), drop_all (length xs) xs (omega arith))

pub chunk_long : (n : ℕ) (xs : List ℕ) → n ≤ length xs → reads_chunk n xs ≡ got (take n xs) (drop n xs)
unfolding reads_chunk
chunk_long n xs h = rw (le-leb n (length xs) h)

low_parts : (n : ℕ) (xs : List ℕ) → 8 + n ≤ length xs → le_number (take (8 + n) xs) ≡ le_number (take 8 xs) + 18446744073709551616 * le_number (take n (drop 8 xs))
low_parts n xs h =
    let l : 8 ≤ length (take (8 + n) xs) = rw (length-take-le (8 + n) xs h) (omega arith) in
    low_word (take (8 + n) xs) l ∙ rw (take-take 8 (8 + n) xs (omega arith), drop-take 8 n xs)

-- a number's low word, and the rest of it
pub word_then : (n : ℕ) (xs : List ℕ) → reads_number (8 + n) xs ≡ and_then (reads_number 8 xs) (λ a ys. and_then (reads_number n ys) (λ b zs. got (a + 18446744073709551616 * b) zs))
unfolding reads_number reads_chunk
word_then n xs =
    ⊎_elim
    (λ (lt : length xs < 8). rw (lt-leb 8 (length xs) lt, lt-leb (8 + n) (length xs) (omega arith)))
    (λ (ge : 8 ≤ length xs). ⊎_elim
    (λ (lt : length xs < 8 + n). let l : length (drop 8 xs) < n = rw (length-drop 8 xs) (omega arith) in rw (le-leb 8 (length xs) ge, lt-leb n (length (drop 8 xs)) l, lt-leb (8 + n) (length xs) lt))
    (λ (gt : 8 + n ≤ length xs). let l : n ≤ length (drop 8 xs) = rw (length-drop 8 xs) (omega arith) in rw (le-leb 8 (length xs) ge, le-leb n (length (drop 8 xs)) l, le-leb (8 + n) (length xs) gt, low_parts n xs gt, drop-drop n 8 xs))
    (cases_lt (length xs) (8 + n)))
    (cases_lt (length xs) 8)

regroup : {A B C : Type 0} (r : Got A) (f : A → List ℕ → Got B) (g : B → List ℕ → Got C) → and_then (and_then r f) g ≡ and_then r (λ a bs. and_then (f a bs) g)
regroup (got a bs) f g = refl
regroup (stop bs) f g = refl

-- a hash, number by number
pub hash_words : (xs : List ℕ) → reads_number 32 xs ≡ and_then (reads_number 8 xs) (λ a ys. and_then (reads_number 8 ys) (λ b zs. and_then (reads_number 8 zs) (λ c us. and_then (reads_number 8 us) (λ d vs. got (hash_number (a ∷ b ∷ c ∷ d ∷ [])) vs))))
hash_words xs = simp (word_then 24, word_then 16, word_then 8, regroup, add-zero)

-- 256 bits in four words; bits that are filled up with zeros.
use Rattle.std.proofs.Common.{◌≡◌, ℕ, zero, suc, ◌+◌, ◌-◌, ◌*◌, ◌<◌, ◌≤◌, true, List, [], ◌∷◌, ◌++◌, length, get_or, take, drop, replicate, sym, refl, ap, ◌∙◌, ap₂, arith}
use Rattle.std.proofs.lemmas.List.{take_at, drop_at, take-append-drop, take-take, drop-take, drop-drop, length-drop, drop-replicate, length-append, length-replicate}
use Rattle.model.specs.Monitor.{are_bits}
use Rattle.model.specs.Records.{bits}
use Rattle.path.specs.Packs.{word_bits, path_in, Packs}
use Rattle.record.proofs.Ones.{take_bits, drop_bits, append_bits, zero_bits}

pub take_plus : (m k : ℕ) (xs : List ℕ) → take (m + k) xs ≡ take m xs ++ take k (drop m xs)
take_plus m k xs =
    sym (take-append-drop m (take (m + k) xs)) ∙ ap₂ (λ (x y : List ℕ). x ++ y) (take-take m (m + k) xs (omega arith)) (drop-take m k xs)

-- n of a list's items, and then m more
pub more_taken : (n m k : ℕ) (s ys : List ℕ) → n + m ≡ k → ys ≡ take m (drop n s) → take n s ++ ys ≡ take k s
more_taken n m k s ys e f = ap (λ (x : List ℕ). take n s ++ x) f ∙ sym (take_plus n m s) ∙ ap (λ (i : ℕ). take i s) e

-- words that are packed from as many pieces of 64 bits
pub words_packed : (ws xs : List ℕ) → length xs ≡ 64 * length ws → ((i : ℕ) → i < length ws → bits 64 (get_or ws i 0) ≡ take 64 (drop (64 * i) xs)) → word_bits ws ≡ xs
unfolding word_bits
words_packed [] [] l h = refl
words_packed [] (x ∷ xs) l h = absurd (omega arith)
words_packed (w ∷ ws) xs l h =
    let rest : (i : ℕ) → i < length ws → bits 64 (get_or ws i 0) ≡ take 64 (drop (64 * i) (drop 64 xs)) = λ i k.
    h (suc i) (omega arith) ∙ ap (take 64) (ap (λ n. drop n xs) (let z : 64 * suc i ≡ 64 + 64 * i = omega arith in z) ∙ sym (drop-drop (64 * i) 64 xs)) in
    ap₂ (λ (x y : List ℕ). x ++ y) (h 0 (omega arith)) (words_packed ws (drop 64 xs) (omega (arith, length-drop 64 xs)) rest) ∙ take-append-drop 64 xs

-- what holds at each index of four
pub at_four : (P : ℕ → Type 0) → P 0 → P 1 → P 2 → P 3 → (i : ℕ) → i < 4 → P i
at_four P a b c d zero h = a
at_four P a b c d (suc zero) h = b
at_four P a b c d (suc (suc zero)) h = c
at_four P a b c d (suc (suc (suc zero))) h = d
at_four P a b c d (suc (suc (suc (suc i)))) h = absurd (omega arith)

-- words whose bits are a path and then zeros
module _ (xs ws : List ℕ) (l : length xs ≤ 64 * length ws) (e : word_bits ws ≡ xs ++ replicate (64 * length ws - length xs) 0) where
  pub filled_packs : Packs (length xs) ws
  filled_packs = (l, ap (drop (length xs)) e ∙ drop_at xs (replicate (64 * length ws - length xs) 0) (length xs) refl)

  pub filled_path : path_in (length xs) ws ≡ xs
  filled_path = ap (take (length xs)) e ∙ take_at xs (replicate (64 * length ws - length xs) 0) (length xs) refl

-- what a copy to the front of zeros leaves
pub front_filled : (n : ℕ) (xs ys : List ℕ) → ys ≡ xs → ys ++ drop (length xs) (replicate n 0) ≡ xs ++ replicate (n - length xs) 0
front_filled n xs ys e = ap₂ (λ (x y : List ℕ). x ++ y) e (drop-replicate (length xs) n 0)

-- four words that are packed from the filled bytes ys
abbrev pub WordPacked : List ℕ → List ℕ → ℕ → Type 0
WordPacked ys ws i = are_bits (take 64 (drop (64 * i) ys)) ≡ true → bits 64 (get_or ws i 0) ≡ take 64 (drop (64 * i) ys)

module _ (xs ys ws : List ℕ) (l : length xs ≤ 256) (h : are_bits xs ≡ true) (e : ys ≡ xs ++ replicate (256 - length xs) 0)
    (four : length ws ≡ 4) (each : (i : ℕ) → i < 4 → WordPacked ys ws i) where
  all_filled : word_bits ws ≡ xs ++ replicate (64 * length ws - length xs) 0
  all_filled =
      let n : length ys ≡ 256 = let z : length (replicate {A = ℕ} (256 - length xs) 0) ≡ 256 - length xs = length-replicate (256 - length xs) 0 in
      let y = ap length e ∙ length-append xs (replicate (256 - length xs) 0) in omega arith in
      let g : are_bits ys ≡ true = ap are_bits e ∙ append_bits xs (replicate (256 - length xs) 0) h (zero_bits (256 - length xs)) in
      words_packed ws ys (omega arith) (λ i k. each i (omega arith) (take_bits 64 (drop (64 * i) ys) (drop_bits (64 * i) ys g)))
      ∙ (e ∙ ap (λ n. xs ++ replicate (64 * n - length xs) 0) (sym four))

  pub packed_packs : Packs (length xs) ws
  packed_packs = filled_packs xs ws (omega arith) all_filled

  pub packed_path : path_in (length xs) ws ≡ xs
  packed_path = filled_path xs ws (omega arith) all_filled

-- A packed path is below another exactly if it is longer and their words begin alike.
use Rattle.std.proofs.Common.{◌≡◌, ℕ, ◌-◌, ◌*◌, ◌/◌, ◌%◌, ◌^◌, ◌<◌, ◌≤◌, min, Bool, true, false, eqb, List, length, get_or, take, sym, refl, ap, ◌∙◌, arith, length-take}
use Rattle.std.proofs.lemmas.List.{take-take}
use Rattle.std.proofs.lemmas.Bool.{false≢true, eqb-true, eq-eqb}
use Rattle.model.specs.Records.{below, same_bytes}
use Rattle.path.specs.Packs.{word_bits, path_in, Fit}
use Rattle.path.proofs.Same.{below_begins, begins_below, below_short, same_refl, front_same}
use Rattle.path.proofs.Words.{length_word_bits, length_path, Alike, alike_begin, begin_alike}

module _ (n m : ℕ) (ws vs : List ℕ) (l : length ws ≡ length vs) (h : n ≤ 64 * length ws) where
  pub below_longer : n ≤ m → below (path_in n ws) (path_in m vs) ≡ false
  below_longer k =
      let a = length_path n ws h in
      let b : length (path_in m vs) ≡ min m (length (word_bits vs)) = length-take m (word_bits vs) in
      let d = length_word_bits vs in
      below_short (path_in n ws) (path_in m vs) (omega arith)

  module _ (k : m < n) where
    lengths : length (path_in m vs) ≡ m
    lengths = length_path m vs (omega arith)

    cut : take (length (path_in m vs)) (path_in n ws) ≡ path_in m ws
    cut = ap (λ (i : ℕ). take i (path_in n ws)) lengths ∙ take-take m n (word_bits ws) (omega arith)

    pub alike_below : Alike m ws vs → below (path_in n ws) (path_in m vs) ≡ true
    alike_below a =
        let x = length_path n ws h in
        let y = lengths in
        begins_below (path_in n ws) (path_in m vs) (omega arith) (cut ∙ alike_begin m ws vs l (omega arith) a)

    pub below_alike : Fit ws → Fit vs → below (path_in n ws) (path_in m vs) ≡ true → Alike m ws vs
    below_alike f g e = begin_alike m ws vs l (omega arith) f g (sym cut ∙ below_begins (path_in n ws) (path_in m vs) e)

    -- a word that differs
    pub below_not : Fit ws → Fit vs → same_bytes (take (m / 64) ws) (take (m / 64) vs) ≡ false → false ≡ below (path_in n ws) (path_in m vs)
    below_not f g d = go (below (path_in n ws) (path_in m vs)) refl
      where
        go : (b : Bool) → below (path_in n ws) (path_in m vs) ≡ b → false ≡ b
        go true e =
            let t = front_same (m / 64) ws vs l (omega arith) (below_alike f g e).0 in
            absurd (false≢true (sym d ∙ ap (λ (x : List ℕ). same_bytes x (take (m / 64) vs)) t ∙ same_refl (take (m / 64) vs)))
        go false e = refl

    -- whole words alike: the last decides
    pub below_last : Fit ws → Fit vs → ((i : ℕ) → i < m / 64 → get_or ws i 0 ≡ get_or vs i 0) →
        eqb (get_or ws (m / 64) 0 / 2 ^ (64 - m % 64)) (get_or vs (m / 64) 0 / 2 ^ (64 - m % 64)) ≡ below (path_in n ws) (path_in m vs)
    below_last f g a = go (eqb x y) (below (path_in n ws) (path_in m vs)) refl refl
      where
        x : ℕ
        x = get_or ws (m / 64) 0 / 2 ^ (64 - m % 64)

        y : ℕ
        y = get_or vs (m / 64) 0 / 2 ^ (64 - m % 64)

        go : (b c : Bool) → eqb x y ≡ b → below (path_in n ws) (path_in m vs) ≡ c → b ≡ c
        go true true i j = refl
        go false false i j = refl
        go true false i j = sym (alike_below (a, eqb-true x y i)) ∙ j
        go false true i j = absurd (false≢true (sym i ∙ eq-eqb x y (below_alike f g j).1))

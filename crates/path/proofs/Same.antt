-- Bytes that are the same, that begin with others, and that are less; in steps, as loops take them.
use Rattle.std.proofs.Common.{◌≡◌, ℕ, ◌<◌, ◌≤◌, Bool, true, false, ◌&&◌, eqb, List, [], ◌∷◌, length, get_or, take, sym, refl, ap, ◌∙◌, arith, length-take}
use lib.Pointwise.{pointwise}
use Rattle.std.proofs.lemmas.List.{ext_get_or, get_or-take}
use Rattle.std.proofs.lemmas.Bool.{false≢true, eq-eqb, eqb-true, and_parts}
use Rattle.model.specs.Records.{same_bytes, below, side}

pub same_refl : (xs : List ℕ) → same_bytes xs xs ≡ true
unfolding same_bytes
same_refl [] = refl
same_refl (x ∷ xs) = rw (eq-eqb x x refl) (same_refl xs)

pub same_true : (xs ys : List ℕ) → same_bytes xs ys ≡ true → xs ≡ ys
unfolding same_bytes
same_true [] [] h = refl
same_true [] (y ∷ ys) h = absurd (false≢true h)
same_true (x ∷ xs) [] h = absurd (false≢true h)
same_true (x ∷ xs) (y ∷ ys) h =
    let p = and_parts (eqb x y) (same_bytes xs ys) h in
    let a : x ≡ y = eqb-true x y p.0 in
    let b : xs ≡ ys = same_true xs ys p.1 in
    cc

-- a test that holds exactly if two lists are the same is the test whether they are
pub same_is : (xs ys : List ℕ) (b : Bool) → (b ≡ true → xs ≡ ys) → (xs ≡ ys → b ≡ true) → b ≡ same_bytes xs ys
same_is xs ys true f g = sym (ap (same_bytes xs) (sym (f refl)) ∙ same_refl xs)
same_is xs ys false f g = go (same_bytes xs ys) refl
  where
    go : (c : Bool) → same_bytes xs ys ≡ c → false ≡ c
    go true e = g (same_true xs ys e)
    go false e = refl

-- the library's test
pub pointwise_same : (xs ys : List ℕ) → pointwise eqb xs ys ≡ same_bytes xs ys
unfolding same_bytes
pointwise_same [] [] = refl
pointwise_same [] (y ∷ ys) = refl
pointwise_same (x ∷ xs) [] = refl
pointwise_same (x ∷ xs) (y ∷ ys) = ap (λ b. eqb x y && b) (pointwise_same xs ys)

-- fronts are the same exactly if each item is
pub front_same : (k : ℕ) (xs ys : List ℕ) → length xs ≡ length ys → k ≤ length xs → ((i : ℕ) → i < k → get_or xs i 0 ≡ get_or ys i 0) → take k xs ≡ take k ys
front_same k xs ys l h f =
    let a : length (take k xs) ≡ k = simp length-take (omega arith) in
    let b : length (take k ys) ≡ k = simp length-take (omega arith) in
    ext_get_or 0 (take k xs) (take k ys) (a ∙ sym b) (λ i j. let m : i < k = omega arith in get_or-take k xs i 0 m ∙ f i m ∙ sym (get_or-take k ys i 0 m))

pub same_front : (k : ℕ) (xs ys : List ℕ) → take k xs ≡ take k ys → (i : ℕ) → i < k → get_or xs i 0 ≡ get_or ys i 0
same_front k xs ys e i h = sym (get_or-take k xs i 0 h) ∙ ap (λ (l : List ℕ). get_or l i 0) e ∙ get_or-take k ys i 0 h

pub same_length : (xs ys : List ℕ) → (length xs ≡ length ys → ⊥) → same_bytes xs ys ≡ false
same_length xs ys h = go (same_bytes xs ys) refl
  where
    go : (c : Bool) → same_bytes xs ys ≡ c → c ≡ false
    go true e = absurd (h (ap length (same_true xs ys e)))
    go false e = refl

-- below means: longer, and beginning with it
pub below_short : (xs ys : List ℕ) → length xs ≤ length ys → below xs ys ≡ false
unfolding below
below_short [] ys h = refl
below_short (x ∷ xs) [] h = absurd (omega arith)
below_short (x ∷ xs) (y ∷ ys) h = rw (below_short xs ys (omega arith)) (elim (eqb x y) as (λ b. (b && false) ≡ false) [ true ↦ refl | false ↦ refl ])

pub below_begins : (xs ys : List ℕ) → below xs ys ≡ true → take (length ys) xs ≡ ys
unfolding below
below_begins [] ys h = absurd (false≢true h)
below_begins (x ∷ xs) [] h = refl
below_begins (x ∷ xs) (y ∷ ys) h =
    let p = and_parts (eqb x y) (below xs ys) h in
    let a : x ≡ y = eqb-true x y p.0 in
    let b : take (length ys) xs ≡ ys = below_begins xs ys p.1 in
    rw (a, b)

pub begins_below : (xs ys : List ℕ) → length ys < length xs → take (length ys) xs ≡ ys → below xs ys ≡ true
unfolding below
begins_below [] ys l h = absurd (omega arith)
begins_below (x ∷ xs) [] l h = refl
begins_below (x ∷ xs) (y ∷ ys) l h =
    let a : x ≡ y = cc h in
    let b : take (length ys) xs ≡ ys = cc h in
    rw (eq-eqb x y a) (begins_below xs ys (omega arith) b)

pub side_is : (xs ys : List ℕ) → side xs ys ≡ get_or xs (length ys) 0
unfolding side
side_is [] ys = refl
side_is (x ∷ xs) [] = refl
side_is (x ∷ xs) (y ∷ ys) = side_is xs ys

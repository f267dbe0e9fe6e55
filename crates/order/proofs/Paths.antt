-- Bytes that are the same, and which path is below which.
use Rattle.std.proofs.Common.{◌≡◌, ℕ, ◌<◌, Bool, true, false, eqb, ◌⊎◌, List, [], ◌∷◌, length, sym, refl, ◌∙◌, ap₂, inl, inr, arith}
use Rattle.std.proofs.lemmas.Bool.{false≢true, both_ways, and_parts, and_from, eqb-true, eq-eqb}
use Rattle.model.specs.Records.{same_bytes, Path, below, side}

pub same_is : (x y : List ℕ) → same_bytes x y ≡ true → x ≡ y
unfolding same_bytes
same_is [] [] e = refl
same_is [] (y ∷ ys) e = absurd (false≢true e)
same_is (x ∷ xs) [] e = absurd (false≢true e)
same_is (x ∷ xs) (y ∷ ys) e =
    let h = and_parts (eqb x y) (same_bytes xs ys) e in
    ap₂ (λ a b. a ∷ b) (eqb-true x y h.0) (same_is xs ys h.1)

pub same_refl : (x : List ℕ) → same_bytes x x ≡ true
unfolding same_bytes
same_refl [] = refl
same_refl (x ∷ xs) = and_from (eqb x x) (same_bytes xs xs) (eq-eqb x x refl) (same_refl xs)

pub is_same : (x y : List ℕ) → x ≡ y → same_bytes x y ≡ true
is_same x y e = rw (← e) (same_refl x)

pub not_same : (x y : List ℕ) → (x ≡ y → ⊥) → same_bytes x y ≡ false
not_same x y n = go (same_bytes x y) refl
  where
    go : (b : Bool) → same_bytes x y ≡ b → b ≡ false
    go true e = absurd (n (same_is x y e))
    go false e = refl

pub same_or : (x y : List ℕ) → (x ≡ y) ⊎ (x ≡ y → ⊥)
same_or x y = go (same_bytes x y) refl
  where
    go : (b : Bool) → same_bytes x y ≡ b → (x ≡ y) ⊎ (x ≡ y → ⊥)
    go true e = inl (same_is x y e)
    go false e = inr (λ f. both_ways (same_bytes x y) e (is_same x y f))

-- below
pub below_longer : (x y : Path) → below x y ≡ true → length y < length x
unfolding below
below_longer [] y e = absurd (false≢true e)
below_longer (x ∷ xs) [] e = omega arith
below_longer (x ∷ xs) (y ∷ ys) e =
    let h = below_longer xs ys (and_parts (eqb x y) (below xs ys) e).1 in
    omega arith

pub below_self : (x : Path) → below x x ≡ true → ⊥
below_self x e = let h = below_longer x x e in omega arith

pub below_circle : (x y : Path) → below x y ≡ true → below y x ≡ true → ⊥
below_circle x y e f =
    let h = below_longer x y e in
    let k = below_longer y x f in
    omega arith

pub below_trans : (x y z : Path) → below x y ≡ true → below y z ≡ true → below x z ≡ true
unfolding below
below_trans [] y z e f = absurd (false≢true e)
below_trans (x ∷ xs) [] z e f = absurd (false≢true f)
below_trans (x ∷ xs) (y ∷ ys) [] e f = refl
below_trans (x ∷ xs) (y ∷ ys) (z ∷ zs) e f =
    let h = and_parts (eqb x y) (below xs ys) e in
    let k = and_parts (eqb y z) (below ys zs) f in
    and_from (eqb x z) (below xs zs) (eq-eqb x z (eqb-true x y h.0 ∙ eqb-true y z k.0)) (below_trans xs ys zs h.1 k.1)

pub side_through : (x y z : Path) → below x y ≡ true → below y z ≡ true → side x z ≡ side y z
unfolding below side
side_through [] y z e f = absurd (false≢true e)
side_through (x ∷ xs) [] z e f = absurd (false≢true f)
side_through (x ∷ xs) (y ∷ ys) [] e f = eqb-true x y (and_parts (eqb x y) (below xs ys) e).0
side_through (x ∷ xs) (y ∷ ys) (z ∷ zs) e f =
    side_through xs ys zs (and_parts (eqb x y) (below xs ys) e).1 (and_parts (eqb y z) (below ys zs) f).1

-- two above the same are one, or one is below the other
pub data Way (y z : Path) : Type 0 where
  one : y ≡ z → Way y z
  under : below y z ≡ true → Way y z
  over : below z y ≡ true → Way y z

pub ways : (x y z : Path) → below x y ≡ true → below x z ≡ true → Way y z
unfolding below
ways [] y z e f = absurd (false≢true e)
ways (x ∷ xs) [] [] e f = one refl
ways (x ∷ xs) [] (z ∷ zs) e f = over refl
ways (x ∷ xs) (y ∷ ys) [] e f = under refl
ways (x ∷ xs) (y ∷ ys) (z ∷ zs) e f =
    let h = and_parts (eqb x y) (below xs ys) e in
    let k = and_parts (eqb x z) (below xs zs) f in
    let i : y ≡ z = sym (eqb-true x y h.0) ∙ eqb-true x z k.0 in
    more i (ways xs ys zs h.1 k.1)
  where
    more : y ≡ z → Way ys zs → Way (y ∷ ys) (z ∷ zs)
    more i (one j) = one (ap₂ (λ a b. a ∷ b) i j)
    more i (under j) = under (and_from (eqb y z) (below ys zs) (eq-eqb y z i) j)
    more i (over j) = over (and_from (eqb z y) (below zs ys) (eq-eqb z y (sym i)) j)

-- the left side, or the right
abbrev pub left_of : Path → Path → Bool
left_of x q = eqb (side x q) 0

pub left_through : (x y z : Path) → below x y ≡ true → below y z ≡ true → left_of x z ≡ left_of y z
left_through x y z e f = rw (side_through x y z e f)

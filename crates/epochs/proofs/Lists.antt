-- Sums in a list by epoch, and in the words of the epochs under way.
use Rattle.std.proofs.Common.{◌≡◌, ℕ, zero, suc, ◌+◌, ◌*◌, ◌/◌, ◌%◌, ◌<◌, ◌≤◌, List, [], ◌∷◌, refl, ap, ⊎_elim, mul-le-mul_left, mul-suc, arith}
use native.Mathlib.Nat.{mod-add-div}
use Rattle.std.proofs.lemmas.Bool.{cases_order}
use Rattle.model.specs.Monitor.{Sum, sum_at, with_sum}

pub sum_same : (ss : List Sum) (n : ℕ) (s : Sum) → sum_at (with_sum ss n s) n ≡ s
unfolding sum_at with_sum
sum_same [] zero s = refl
sum_same [] (suc n) s = sum_same [] n s
sum_same (x ∷ xs) zero s = refl
sum_same (x ∷ xs) (suc n) s = sum_same xs n s

pub sum_other : (ss : List Sum) (n f : ℕ) (s : Sum) → (f ≡ n → ⊥) → sum_at (with_sum ss n s) f ≡ sum_at ss f
unfolding sum_at with_sum
sum_other [] zero zero s h = absurd (h refl)
sum_other [] zero (suc f) s h = refl
sum_other [] (suc n) zero s h = refl
sum_other [] (suc n) (suc f) s h = sum_other [] n f s (λ e. h (ap suc e))
sum_other (x ∷ xs) zero zero s h = absurd (h refl)
sum_other (x ∷ xs) zero (suc f) s h = refl
sum_other (x ∷ xs) (suc n) zero s h = refl
sum_other (x ∷ xs) (suc n) (suc f) s h = sum_other xs n f s (λ e. h (ap suc e))

-- numbers less than n apart, the later with the greater quotient, leave different rests
quotients : (n e f : ℕ) → e / n < f / n → f % n ≡ e % n → e + n ≤ f
quotients n e f h q =
    let a = mod-add-div e n in
    let b = mod-add-div f n in
    let d : n * suc (e / n) ≤ n * (f / n) = mul-le-mul_left n h in
    let g = mul-suc n (e / n) in
    omega arith

-- of n epochs one after the other, no two have the same place
pub same_place : (n c e f : ℕ) → c ≤ e → e < c + n → c ≤ f → f < c + n → f % n ≡ e % n → f ≡ e
same_place n c e f ce ec cf fc q =
    ⊎_elim
    (λ (same : e / n ≡ f / n).
    let a = mod-add-div e n in
    let b = mod-add-div f n in
    let d = ap (λ (x : ℕ). n * x) same in
    let r : f ≡ e = omega arith in r)
    (⊎_elim
    (λ (lt : e / n < f / n). let h = quotients n e f lt q in absurd (omega arith))
    (λ (gt : f / n < e / n). let p : e % n ≡ f % n = omega arith in let h = quotients n f e gt p in absurd (omega arith)))
    (cases_order (e / n) (f / n))

-- Verifiers in a list: another in the place of one, and those at first.
use Rattle.std.proofs.Common.{◌≡◌, ℕ, zero, suc, ◌+◌, ◌<◌, Bool, false, ◌&&◌, ltb, List, [], ◌∷◌, length, sym, refl, ap, ◌∙◌, add-zero, zero-add, arith}
use Rattle.std.proofs.lemmas.Bool.{le-ltb}
use Rattle.model.specs.Verifier.{Verifier, new_verifier}
use Rattle.model.specs.Monitor.{new_verifiers, verifier_at, with_verifier, all_done}

pub length_with : (vs : List Verifier) (t : ℕ) (v : Verifier) → length (with_verifier vs t v) ≡ length vs
unfolding with_verifier
length_with [] t v = refl
length_with (x ∷ xs) zero v = refl
length_with (x ∷ xs) (suc t) v = ap suc (length_with xs t v)

pub at_same : (vs : List Verifier) (t : ℕ) (v : Verifier) → t < length vs → verifier_at (with_verifier vs t v) t ≡ v
unfolding with_verifier verifier_at
at_same [] t v h = absurd (omega arith)
at_same (x ∷ xs) zero v h = refl
at_same (x ∷ xs) (suc t) v h = at_same xs t v (omega arith)

pub at_other : (vs : List Verifier) (t u : ℕ) (v : Verifier) → (u ≡ t → ⊥) → verifier_at (with_verifier vs t v) u ≡ verifier_at vs u
unfolding with_verifier verifier_at
at_other [] t u v h = refl
at_other (x ∷ xs) zero zero v h = absurd (h refl)
at_other (x ∷ xs) zero (suc u) v h = refl
at_other (x ∷ xs) (suc t) zero v h = refl
at_other (x ∷ xs) (suc t) (suc u) v h = at_other xs t u v (λ e. h (ap suc e))

-- who is done doesn't change with a verifier that is done with as many epochs as before
pub all_done_same : (vs : List Verifier) (t e : ℕ) (v : Verifier) → v.done ≡ (verifier_at vs t).done → all_done (with_verifier vs t v) e ≡ all_done vs e
unfolding with_verifier verifier_at all_done
all_done_same [] t e v h = refl
all_done_same (x ∷ xs) zero e v h = ap (λ (k : ℕ). ltb e k && all_done xs e) h
all_done_same (x ∷ xs) (suc t) e v h = ap (λ (b : Bool). ltb e x.done && b) (all_done_same xs t e v h)

-- ---- at first

pub length_new : (n t : ℕ) → length (new_verifiers n t) ≡ n
unfolding new_verifiers
length_new zero t = refl
length_new (suc n) t = ap suc (length_new n (suc t))

new_from : (n t u : ℕ) → u < n → verifier_at (new_verifiers n t) u ≡ new_verifier (t + u)
unfolding new_verifiers verifier_at
new_from zero t u h = absurd (omega arith)
new_from (suc n) t zero h = ap new_verifier (sym (add-zero t))
new_from (suc n) t (suc u) h = let e : suc t + u ≡ t + suc u = omega arith in new_from n (suc t) u (omega arith) ∙ ap new_verifier e

pub new_at : (n t : ℕ) → t < n → verifier_at (new_verifiers n 0) t ≡ new_verifier t
new_at n t h = new_from n 0 t h ∙ ap new_verifier (zero-add t)

-- nobody is done with anything
pub new_waiting : (n t e : ℕ) → 0 < n → all_done (new_verifiers n t) e ≡ false
unfolding new_verifiers all_done
new_waiting zero t e h = absurd (omega arith)
new_waiting (suc n) t e h = ap (λ (b : Bool). b && all_done (new_verifiers n (suc t)) e) (le-ltb e 0 (omega arith))

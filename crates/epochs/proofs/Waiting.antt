-- Who is done with an epoch, and what is certified then.
use Rattle.std.proofs.Common.{◌≡◌, ℕ, zero, suc, ◌<◌, ◌≤◌, Bool, true, false, ltb, List, [], ◌∷◌, length, refl, ap, ◌∙◌, ⊎_elim, arith}
use Rattle.std.proofs.lemmas.Bool.{and_from, and_cases, and_left, and_right, lt-ltb, le-ltb, ltb-false}
use Rattle.model.specs.Records.{pick}
use Rattle.model.specs.Verifier.{Verifier}
use Rattle.model.specs.Monitor.{Sum, verifier_at, with_verifier, all_done, sums_agree, certify}

pub all_done_from : (vs : List Verifier) (e : ℕ) → ((t : ℕ) → t < length vs → e < (verifier_at vs t).done) → all_done vs e ≡ true
unfolding all_done verifier_at
all_done_from [] e h = refl
all_done_from (v ∷ vs) e h = and_from (ltb e v.done) (all_done vs e) (lt-ltb e v.done (h zero (omega arith))) (all_done_from vs e (λ t lt. h (suc t) (omega arith)))

pub not_all_done : (vs : List Verifier) (e t : ℕ) → t < length vs → (verifier_at vs t).done ≤ e → all_done vs e ≡ false
unfolding all_done verifier_at
not_all_done [] e t lt h = absurd (omega arith)
not_all_done (v ∷ vs) e zero lt h = and_left (ltb e v.done) (all_done vs e) (le-ltb e v.done h)
not_all_done (v ∷ vs) e (suc t) lt h = and_right (ltb e v.done) (all_done vs e) (not_all_done vs e t (omega arith) h)

-- who isn't done with an epoch isn't done with the next
pub waiting_later : (vs : List Verifier) (e : ℕ) → all_done vs e ≡ false → all_done vs (suc e) ≡ false
unfolding all_done
waiting_later [] e h = h
waiting_later (v ∷ vs) e h =
    ⊎_elim
    (λ (p : ltb e v.done ≡ false). let d = ltb-false e v.done p in and_left (ltb (suc e) v.done) (all_done vs (suc e)) (le-ltb (suc e) v.done (omega arith)))
    (λ (p : all_done vs e ≡ false). and_right (ltb (suc e) v.done) (all_done vs (suc e)) (waiting_later vs e p))
    (and_cases (ltb e v.done) (all_done vs e) h)

-- one verifier is done with one epoch more: if some weren't done with an epoch, some aren't done with the next
pub waiting_next : (vs : List Verifier) (t e : ℕ) (v' : Verifier) → t < length vs → all_done vs e ≡ false → v'.done ≡ suc (verifier_at vs t).done → all_done (with_verifier vs t v') (suc e) ≡ false
unfolding all_done verifier_at with_verifier
waiting_next [] t e v' lt h d = absurd (omega arith)
waiting_next (v ∷ vs) zero e v' lt h d =
    ⊎_elim
    (λ (p : ltb e v.done ≡ false). let q = ltb-false e v.done p in and_left (ltb (suc e) v'.done) (all_done vs (suc e)) (le-ltb (suc e) v'.done (omega arith)))
    (λ (p : all_done vs e ≡ false). and_right (ltb (suc e) v'.done) (all_done vs (suc e)) (waiting_later vs e p))
    (and_cases (ltb e v.done) (all_done vs e) h)
waiting_next (v ∷ vs) (suc t) e v' lt h d =
    ⊎_elim
    (λ (p : ltb e v.done ≡ false). let q = ltb-false e v.done p in and_left (ltb (suc e) v.done) (all_done (with_verifier vs t v') (suc e)) (le-ltb (suc e) v.done (omega arith)))
    (λ (p : all_done vs e ≡ false). and_right (ltb (suc e) v.done) (all_done (with_verifier vs t v') (suc e)) (waiting_next vs t e v' (omega arith) p d))
    (and_cases (ltb e v.done) (all_done vs e) h)

-- nothing is certified while some aren't done
pub certify_waits : (n : ℕ) (vs : List Verifier) (ss : List Sum) (e : ℕ) → all_done vs e ≡ false → certify n vs ss e ≡ e
unfolding certify pick
certify_waits zero vs ss e h = refl
certify_waits (suc n) vs ss e h = rw h refl

-- nor if the sums differ
pub certify_differs : (n : ℕ) (vs : List Verifier) (ss : List Sum) (e : ℕ) → sums_agree ss e ≡ false → certify n vs ss e ≡ e
unfolding certify pick
certify_differs zero vs ss e h = refl
certify_differs (suc n) vs ss e h = ap (λ (b : Bool). pick b (certify n vs ss (suc e)) e) (and_right (all_done vs e) (sums_agree ss e) h)

pub certify_one : (n : ℕ) (vs : List Verifier) (ss : List Sum) (e : ℕ) → all_done vs e ≡ true → sums_agree ss e ≡ true → all_done vs (suc e) ≡ false → certify (suc n) vs ss e ≡ suc e
unfolding certify pick
certify_one n vs ss e d a w = ap (λ (b : Bool). pick b (certify n vs ss (suc e)) e) (and_from (all_done vs e) (sums_agree ss e) d a) ∙ certify_waits n vs ss (suc e) w

-- Numbers in words: they are the same if the words are.
use Rattle.std.proofs.Common.{◌≡◌, ℕ, suc, ◌+◌, ◌*◌, ◌^◌, true, false, eqb, List, [], ◌∷◌, length, sym, refl, ap, ◌∙◌, subst, ⊎_elim, arith}
use Rattle.std.proofs.lemmas.Bool.{ne_eqb, eq-eqb, cases_Bool, both_ways}
use Rattle.model.specs.Records.{same_bytes}
use Rattle.path.specs.Packs.{Fit}
use Rattle.path.proofs.Same.{same_true, same_refl}
use Rattle.sha256.specs.Limbs.{limbs_number}
use Rattle.slot.specs.Layout.{number_in}

-- a digest's number, as the store's words have it
pub limbs_in : (ws : List ℕ) → number_in ws ≡ limbs_number ws
unfolding number_in limbs_number
limbs_in [] = refl
limbs_in (w ∷ ws) = ap (λ (n : ℕ). w + 2 ^ 64 * n) (limbs_in ws)

-- the number in words is that of no other words
pub number_same : (a b : List ℕ) → length a ≡ length b → Fit a → Fit b → number_in a ≡ number_in b → a ≡ b
unfolding number_in
number_same [] [] l f g e = refl
number_same [] (y ∷ b) l f g e = absurd (omega arith)
number_same (x ∷ a) [] l f g e = absurd (omega arith)
number_same (x ∷ a) (y ∷ b) l f g e =
    let fx = f 0 in
    let gy = g 0 in
    let h : number_in a ≡ number_in b = omega arith in
    let k : x ≡ y = omega arith in
    let r = number_same a b (omega arith) (λ i. f (suc i)) (λ i. g (suc i)) h in
    cc

-- words that are compared
pub number_test : (a b : List ℕ) → length a ≡ length b → Fit a → Fit b → same_bytes a b ≡ eqb (number_in a) (number_in b)
number_test a b l f g =
    ⊎_elim (λ (t : same_bytes a b ≡ true). t ∙ sym (eq-eqb (number_in a) (number_in b) (ap number_in (same_true a b t))))
    (λ (n : same_bytes a b ≡ false).
    n ∙ sym (ne_eqb (number_in a) (number_in b) (λ e. both_ways (same_bytes a b) n (subst (λ (z : List ℕ). same_bytes a z ≡ true) (number_same a b l f g e) (same_refl a)))))
    (cases_Bool (same_bytes a b))

-- A step that fails or goes, as code answers it.
use Rattle.std.proofs.Common.{◌≡◌, ℕ, true, false, List, is_ok, is_err, Ok, Err, Result, sym, refl, subst}
use Rattle.std.proofs.lemmas.Bool.{both_ways}
use Rattle.model.specs.Records.{Record}
use Rattle.model.specs.Verifier.{Verifier, Element, Step, fails, goes}
use Rattle.conditions.specs.declared.parts.Failure.{Failure}
use Rattle.block.specs.Blocks.{Keeps, Taken}

pub err_not_ok : {A E : Type 0} (r : Result A E) → is_err r ≡ true → is_ok r ≡ false
err_not_ok (Ok x) h = absurd (both_ways true (sym h) refl)
err_not_ok (Err e) h = refl

pub wrong : {A E : Type 0} (n : ℕ) (b : List ℕ) (r : Result A E) (s : Step) → s ≡ fails → is_err r ≡ true → Taken n b r s
wrong n b r s e h = subst (Taken n b r) (sym e) (err_not_ok r h)

pub failed : (A : Type 0) (n : ℕ) (b : List ℕ) (f : Failure) (s : Step) → s ≡ fails → Taken {A = A} {E = Failure} n b (Err f) s
failed A n b f s e = let r : Result A Failure = Err f in subst (Taken {A = A} {E = Failure} n b r) (sym e) refl

pub right : {A : Type 0} (n : ℕ) (b : List ℕ) (x : A) (s : Step) (v : Verifier) (added evicted : List Element) (hashed : List Record)
    → s ≡ goes v added evicted hashed → Keeps n b v → Taken {A = A} {E = Failure} n b (Ok x) s
right {A} n b x s v added evicted hashed e k = let r : Result A Failure = Ok x in subst (Taken {A = A} {E = Failure} n b r) (sym e) (refl, k)

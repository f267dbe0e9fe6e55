-- A slot for C: the number of places stands for none.
use Rattle.std.proofs.Common.{◌≡◌, ℕ, ◌<◌, ◌≤◌, List, Option, Some, None, IfSome, refl, sym, ◌∙◌, subst, arith}
use Rattle.std.specs.Option.{unwrap_or}
use Rattle.index.specs.Chains.{place_or}
use Rattle.model.specs.Records.{Path}
use Rattle.model.specs.Verifier.{Stored}
use Rattle.store.specs.Holding.{Found}

same_place : (n : ℕ) (o : Option ℕ) → unwrap_or o n ≡ place_or n o
same_place n (Some i) = refl
same_place n None = refl

pub found_or : (n : ℕ) (m : List ℕ) (xs : List Stored) (p : Path) (o : Option ℕ) (r : ℕ) → r ≡ unwrap_or o n → Found n m xs p (place_or n o) → Found n m xs p r
found_or n m xs p o r e f = subst (Found n m xs p) (sym e) (subst (Found n m xs p) (sym (same_place n o)) f)

-- the words that were lent are what they were, if nothing was written while they were lent
pub unchanged_or : (n : ℕ) (x m m' : List ℕ) (o : Option ℕ) (r : ℕ) → x ≡ m' → r ≡ unwrap_or o n → IfSome o (λ i. i < n) → (o ≡ None → m' ≡ m) → n ≤ r → x ≡ m
unchanged_or n x m m' (Some i) r b e w h l = absurd (omega arith)
unchanged_or n x m m' None r b e w h l = b ∙ h refl

pub stored_or : (n : ℕ) (P : ℕ → Type 0) (o : Option ℕ) (r : ℕ) → r ≡ unwrap_or o n → IfSome o P → r < n → P r
stored_or n P (Some i) r e h l = subst P (sym e) h
stored_or n P None r e h l = absurd (omega arith)

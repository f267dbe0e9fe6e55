-- Words that were lent to a store, once it is done with.
use Rattle.std.proofs.Common.{◌≡◌, ℕ, List, sym, subst}
use Rattle.model.specs.Verifier.{Stored}
use Rattle.store.specs.Holding.{Holds}

pub lent_holds : (n salt : ℕ) (x m : List ℕ) (xs : List Stored) → x ≡ m → Holds n salt m xs → Holds n salt x xs
lent_holds n salt x m xs e h = subst (λ (l : List ℕ). Holds n salt l xs) (sym e) h

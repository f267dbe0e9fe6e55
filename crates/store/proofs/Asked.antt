-- Whether a path is stored, by a test of what was found.
use Rattle.std.proofs.Common.{◌≡◌, ℕ, ◌<◌, true, false, leb, List, length, [], ◌∷◌, Option, Some, None, IfSome, sym, ◌∙◌, arith}
use Rattle.std.specs.Option.{is_some}
use Rattle.std.proofs.lemmas.Bool.{false≢true, leb-false, lt-leb}
use Rattle.model.specs.Records.{Path}
use Rattle.model.specs.Verifier.{Stored, find}
use Rattle.index.specs.Chains.{place_or}
use Rattle.store.specs.Holding.{stored_at, Added, Found, Holds}

pub was_found : (n : ℕ) (m : List ℕ) (ss : List Stored) (p : Path) (o : Option ℕ) → true ≡ is_some o → IfSome o (λ i. i < n) → Found n m ss p (place_or n o) → find p ss ≡ stored_at n m (place_or n o) ∷ []
was_found n m ss p (Some i) e w f = f.some w
was_found n m ss p None e w f = absurd (false≢true (sym e))

pub not_found : (n : ℕ) (m : List ℕ) (ss : List Stored) (p : Path) (o : Option ℕ) → false ≡ is_some o → Found n m ss p (place_or n o) → find p ss ≡ []
not_found n m ss p (Some i) e f = absurd (false≢true e)
not_found n m ss p None e f = f.none (omega arith)

-- what was added where there was room
pub added_there : (n salt : ℕ) (m : List ℕ) (ss : List Stored) (x : Stored) (o : Option ℕ) → length ss < n → leb n (place_or n o) ≡ leb n (length ss) → IfSome o (λ i. Added n salt m ss x i) → Holds n salt m (x ∷ ss)
added_there n salt m ss x (Some i) room e a = a.holds
added_there n salt m ss x None room e a = absurd (let l = leb-false n n (e ∙ lt-leb n (length ss) room) in omega arith)

-- Where something is in a list, and all that a store has at a path.
use Rattle.std.specs.Prelude.{ℕ, suc, Bool, List, [], ◌∷◌}
use Rattle.model.specs.Records.{Path, pick, same_bytes, path_of}
use Rattle.model.specs.Verifier.{Stored}

-- the place of the first that passes, or how many there are
unfoldable pub position : {X : Type 0} → (X → Bool) → List X → ℕ
position t [] = 0
position t (x ∷ xs) = pick (t x) 0 (suc (position t xs))

abbrev pub is_at : Path → Stored → Bool
is_at p x = same_bytes p (path_of x.rec)

-- all that is at a path
unfoldable pub all_at : Path → List Stored → List Stored
all_at q [] = []
all_at q (x ∷ xs) = pick (same_bytes q (path_of x.rec)) (x ∷ all_at q xs) (all_at q xs)

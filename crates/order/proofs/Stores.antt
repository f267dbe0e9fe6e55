-- What is found in a store after a change.
use Rattle.std.proofs.Common.{◌≡◌, Bool, true, false, ◌||◌, ◌⊎◌, List, [], ◌∷◌, sym, refl, ap, ◌∙◌, ap₂, inl, inr}
use Rattle.std.proofs.lemmas.Bool.{true≢false, or_parts, or_from}
use Rattle.model.specs.Records.{pick, same_bytes, Path, Record, path_of}
use Rattle.model.specs.Verifier.{Stored, find, nonempty, without, updated}
use Rattle.model.specs.Statements.{stored_twice}
use Rattle.order.proofs.Lists.{picks, picks_not}
use Rattle.order.proofs.Paths.{same_refl, is_same, not_same, same_or}

pub find_at : (p : Path) (x : Stored) (xs : List Stored) → p ≡ path_of x.rec → find p (x ∷ xs) ≡ x ∷ []
unfolding find
find_at p x xs e = picks (same_bytes p (path_of x.rec)) (x ∷ []) (find p xs) (is_same p (path_of x.rec) e)

pub find_off : (p : Path) (x : Stored) (xs : List Stored) → (p ≡ path_of x.rec → ⊥) → find p (x ∷ xs) ≡ find p xs
unfolding find
find_off p x xs e = picks_not (same_bytes p (path_of x.rec)) (x ∷ []) (find p xs) (not_same p (path_of x.rec) e)

pub find_path : (p : Path) (hs : List Stored) (x : Stored) (xs : List Stored) → find p hs ≡ x ∷ xs → path_of x.rec ≡ p
unfolding find
find_path p [] x xs e = cc
find_path p (y ∷ ys) x xs e = go (same_or p (path_of y.rec)) (find_path p ys x xs)
  where
    go : (p ≡ path_of y.rec) ⊎ (p ≡ path_of y.rec → ⊥) → (find p ys ≡ x ∷ xs → path_of x.rec ≡ p) → path_of x.rec ≡ p
    go (inl i) ih = let f : y ∷ [] ≡ x ∷ xs = sym (find_at p y ys i) ∙ e in let g : y ≡ x = cc in rw (← g) (sym i)
    go (inr n) ih = ih (sym (find_off p y ys n) ∙ e)

abbrev pub renewed : Record → List Stored → List Stored
renewed r [] = []
renewed r (x ∷ xs) = record { rec = r; by_merkle = x.by_merkle } ∷ []

pub find_updated_at : (r : Record) (hs : List Stored) → find (path_of r) (updated r hs) ≡ renewed r (find (path_of r) hs)
unfolding updated find pick
find_updated_at r [] = refl
find_updated_at r (x ∷ xs) = go (same_bytes (path_of r) (path_of x.rec)) refl (find_updated_at r xs)
  where
    go : (b : Bool) → same_bytes (path_of r) (path_of x.rec) ≡ b → find (path_of r) (updated r xs) ≡ renewed r (find (path_of r) xs) →
        find (path_of r) (pick b (record { rec = r; by_merkle = x.by_merkle } ∷ xs) (x ∷ updated r xs)) ≡ renewed r (pick b (x ∷ []) (find (path_of r) xs))
    go true e ih = rw (same_refl (path_of r))
    go false e ih = rw (picks_not (same_bytes (path_of r) (path_of x.rec)) (x ∷ []) (find (path_of r) (updated r xs)) e) ih

pub find_updated_off : (p : Path) (r : Record) (hs : List Stored) → (p ≡ path_of r → ⊥) → find p (updated r hs) ≡ find p hs
unfolding updated find
find_updated_off p r [] n = refl
find_updated_off p r (x ∷ xs) n = go (same_or (path_of r) (path_of x.rec)) (find_updated_off p r xs n)
  where
    y : Stored
    y = record { rec = r; by_merkle = x.by_merkle }

    go : (path_of r ≡ path_of x.rec) ⊎ (path_of r ≡ path_of x.rec → ⊥) → find p (updated r xs) ≡ find p xs →
        find p (updated r (x ∷ xs)) ≡ find p (x ∷ xs)
    go (inl i) ih =
        ap (find p) (picks (same_bytes (path_of r) (path_of x.rec)) (y ∷ xs) (x ∷ updated r xs) (is_same (path_of r) (path_of x.rec) i))
        ∙ (find_off p y xs n ∙ sym (find_off p x xs (λ j. n (j ∙ sym i))))
    go (inr m) ih =
        ap (find p) (picks_not (same_bytes (path_of r) (path_of x.rec)) (y ∷ xs) (x ∷ updated r xs) (not_same (path_of r) (path_of x.rec) m))
        ∙ ap (λ f. pick (same_bytes p (path_of x.rec)) (x ∷ []) f) ih

-- each path is stored once
pub stores_updated : (p : Path) (r : Record) (hs : List Stored) → nonempty (find p (updated r hs)) ≡ nonempty (find p hs)
unfolding nonempty
stores_updated p r hs = go (same_or p (path_of r))
  where
    same : (xs : List Stored) → nonempty (renewed r xs) ≡ nonempty xs
    same [] = refl
    same (x ∷ xs) = refl

    go : (p ≡ path_of r) ⊎ (p ≡ path_of r → ⊥) → nonempty (find p (updated r hs)) ≡ nonempty (find p hs)
    go (inl i) = rw (i, find_updated_at r hs) (same (find (path_of r) hs))
    go (inr n) = rw (find_updated_off p r hs n)

pub once_updated : (r : Record) (hs : List Stored) → stored_twice (updated r hs) ≡ stored_twice hs
unfolding updated stored_twice
once_updated r [] = refl
once_updated r (x ∷ xs) = go (same_or (path_of r) (path_of x.rec)) (once_updated r xs)
  where
    y : Stored
    y = record { rec = r; by_merkle = x.by_merkle }

    go : (path_of r ≡ path_of x.rec) ⊎ (path_of r ≡ path_of x.rec → ⊥) → stored_twice (updated r xs) ≡ stored_twice xs → stored_twice (updated r (x ∷ xs)) ≡ stored_twice (x ∷ xs)
    go (inl i) ih =
        ap stored_twice (picks (same_bytes (path_of r) (path_of x.rec)) (y ∷ xs) (x ∷ updated r xs) (is_same (path_of r) (path_of x.rec) i))
        ∙ ap (λ p. nonempty (find p xs) || stored_twice xs) i
    go (inr m) ih =
        ap stored_twice (picks_not (same_bytes (path_of r) (path_of x.rec)) (y ∷ xs) (x ∷ updated r xs) (not_same (path_of r) (path_of x.rec) m))
        ∙ ap₂ (λ a b. a || b) (stores_updated (path_of x.rec) r xs) ih

pub none_found : (xs : List Stored) → nonempty xs ≡ false → xs ≡ []
unfolding nonempty
none_found [] e = refl
none_found (x ∷ xs) e = absurd (true≢false e)

pub find_without_off : (p q : Path) (hs : List Stored) → (p ≡ q → ⊥) → find p (without q hs) ≡ find p hs
unfolding without find
find_without_off p q [] n = refl
find_without_off p q (x ∷ xs) n = go (same_or q (path_of x.rec)) (find_without_off p q xs n)
  where
    go : (q ≡ path_of x.rec) ⊎ (q ≡ path_of x.rec → ⊥) → find p (without q xs) ≡ find p xs → find p (without q (x ∷ xs)) ≡ find p (x ∷ xs)
    go (inl i) ih =
        ap (find p) (picks (same_bytes q (path_of x.rec)) xs (x ∷ without q xs) (is_same q (path_of x.rec) i))
        ∙ sym (find_off p x xs (λ j. n (j ∙ sym i)))
    go (inr m) ih =
        ap (find p) (picks_not (same_bytes q (path_of x.rec)) xs (x ∷ without q xs) (not_same q (path_of x.rec) m))
        ∙ ap (λ f. pick (same_bytes p (path_of x.rec)) (x ∷ []) f) ih

pub find_without_at : (q : Path) (hs : List Stored) → stored_twice hs ≡ false → find q (without q hs) ≡ []
unfolding without find stored_twice
find_without_at q [] o = refl
find_without_at q (x ∷ xs) o = go (same_or q (path_of x.rec)) (find_without_at q xs parts.1)
  where
    parts : (nonempty (find (path_of x.rec) xs) ≡ false) × (stored_twice xs ≡ false)
    parts = or_parts (nonempty (find (path_of x.rec) xs)) (stored_twice xs) o

    go : (q ≡ path_of x.rec) ⊎ (q ≡ path_of x.rec → ⊥) → find q (without q xs) ≡ [] → find q (without q (x ∷ xs)) ≡ []
    go (inl i) ih =
        ap (find q) (picks (same_bytes q (path_of x.rec)) xs (x ∷ without q xs) (is_same q (path_of x.rec) i))
        ∙ (ap (λ p. find p xs) i ∙ none_found (find (path_of x.rec) xs) parts.0)
    go (inr m) ih =
        ap (find q) (picks_not (same_bytes q (path_of x.rec)) xs (x ∷ without q xs) (not_same q (path_of x.rec) m))
        ∙ (find_off q x (without q xs) m ∙ ih)

pub once_without : (q : Path) (hs : List Stored) → stored_twice hs ≡ false → stored_twice (without q hs) ≡ false
unfolding without stored_twice nonempty find
once_without q [] o = refl
once_without q (x ∷ xs) o = go (same_or q (path_of x.rec)) (once_without q xs parts.1)
  where
    parts : (nonempty (find (path_of x.rec) xs) ≡ false) × (stored_twice xs ≡ false)
    parts = or_parts (nonempty (find (path_of x.rec) xs)) (stored_twice xs) o

    go : (q ≡ path_of x.rec) ⊎ (q ≡ path_of x.rec → ⊥) → stored_twice (without q xs) ≡ false → stored_twice (without q (x ∷ xs)) ≡ false
    go (inl i) ih =
        ap stored_twice (picks (same_bytes q (path_of x.rec)) xs (x ∷ without q xs) (is_same q (path_of x.rec) i)) ∙ parts.1
    go (inr m) ih =
        ap stored_twice (picks_not (same_bytes q (path_of x.rec)) xs (x ∷ without q xs) (not_same q (path_of x.rec) m))
        ∙ or_from (nonempty (find (path_of x.rec) (without q xs))) (stored_twice (without q xs))
        (ap nonempty (find_without_off (path_of x.rec) q xs (λ j. m (sym j))) ∙ parts.0) ih

pub once_more : (x : Stored) (hs : List Stored) → nonempty (find (path_of x.rec) hs) ≡ false → stored_twice hs ≡ false → stored_twice (x ∷ hs) ≡ false
unfolding stored_twice
once_more x hs e o = or_from (nonempty (find (path_of x.rec) hs)) (stored_twice hs) e o

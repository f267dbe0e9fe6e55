-- What is found, taken out and changed in a list of stored records, by all that is at a path.
use Rattle.std.proofs.Common.{◌≡◌, ℕ, zero, suc, ◌+◌, ◌<◌, ◌≤◌, Bool, true, false, List, [], ◌∷◌, length, get_or, take, set, sym, refl, ap, ◌∙◌, ⊎_elim, arith}
use Rattle.std.proofs.lemmas.Bool.{cases_Bool, both_ways}
use Rattle.model.specs.Records.{Path, pick, same_bytes, path_of, Record}
use Rattle.model.specs.Verifier.{Stored, find, without, updated}
use Rattle.path.proofs.Same.{same_refl, same_true}
use Rattle.slot.specs.Finds.{position, is_at, all_at}

-- a test that is known picks
pub pick_true : {X : Type 0} (b : Bool) (x y : X) → b ≡ true → pick b x y ≡ x
unfolding pick
pick_true true x y e = refl
pick_true false x y e = absurd (both_ways false refl e)

pub pick_false : {X : Type 0} (b : Bool) (x y : X) → b ≡ false → pick b x y ≡ y
unfolding pick
pick_false true x y e = absurd (both_ways true e refl)
pick_false false x y e = refl

same_not : (a b : Path) → same_bytes a b ≡ false → same_bytes b a ≡ false
same_not a b f =
    ⊎_elim
    (λ (t : same_bytes b a ≡ true). absurd (both_ways (same_bytes a b) f (ap (same_bytes a) (same_true b a t) ∙ same_refl a)))
    (λ (g : same_bytes b a ≡ false). g)
    (cases_Bool (same_bytes b a))

-- the first of all
pub find_all : (q : Path) (xs : List Stored) → find q xs ≡ take 1 (all_at q xs)
unfolding all_at find
find_all q [] = refl
find_all q (x ∷ xs) =
    ⊎_elim
    (λ (t : same_bytes q (path_of x.rec) ≡ true). pick_true _ _ _ t ∙ ap (take 1) (sym (pick_true _ (x ∷ all_at q xs) (all_at q xs) t)))
    (λ (f : same_bytes q (path_of x.rec) ≡ false). pick_false _ _ _ f ∙ find_all q xs ∙ ap (take 1) (sym (pick_false _ (x ∷ all_at q xs) (all_at q xs) f)))
    (cases_Bool (same_bytes q (path_of x.rec)))

-- what is at one path is not at another
pub updated_other : (q : Path) (r : Record) (xs : List Stored) → same_bytes (path_of r) q ≡ false → updated r (all_at q xs) ≡ all_at q xs
unfolding all_at updated
updated_other q r [] n = refl
updated_other q r (x ∷ xs) n =
    ⊎_elim
    (λ (t : same_bytes q (path_of x.rec) ≡ true).
    let e : q ≡ path_of x.rec = same_true q (path_of x.rec) t in
    ap (updated r) (pick_true _ (x ∷ all_at q xs) (all_at q xs) t)
    ∙ pick_false _ _ _ (ap (same_bytes (path_of r)) (sym e) ∙ n)
    ∙ ap (λ (l : List Stored). x ∷ l) (updated_other q r xs n)
    ∙ sym (pick_true _ (x ∷ all_at q xs) (all_at q xs) t))
    (λ (f : same_bytes q (path_of x.rec) ≡ false).
    ap (updated r) (pick_false _ (x ∷ all_at q xs) (all_at q xs) f) ∙ updated_other q r xs n ∙ sym (pick_false _ (x ∷ all_at q xs) (all_at q xs) f))
    (cases_Bool (same_bytes q (path_of x.rec)))

pub all_updated : (q : Path) (r : Record) (xs : List Stored) → all_at q (updated r xs) ≡ updated r (all_at q xs)
unfolding all_at updated
all_updated q r [] = refl
all_updated q r (x ∷ xs) =
    let y : Stored = record { rec = r; by_merkle = x.by_merkle } in
    ⊎_elim
    (λ (t : same_bytes (path_of r) (path_of x.rec) ≡ true).
    let e : path_of r ≡ path_of x.rec = same_true (path_of r) (path_of x.rec) t in
    ap (all_at q) (pick_true _ (y ∷ xs) (x ∷ updated r xs) t)
    ∙ ⊎_elim
    (λ (u : same_bytes q (path_of r) ≡ true).
    pick_true _ (y ∷ all_at q xs) (all_at q xs) u
    ∙ sym (ap (updated r) (pick_true _ (x ∷ all_at q xs) (all_at q xs) (ap (same_bytes q) (sym e) ∙ u)) ∙ pick_true _ (y ∷ all_at q xs) (x ∷ updated r (all_at q xs)) t))
    (λ (v : same_bytes q (path_of r) ≡ false).
    pick_false _ (y ∷ all_at q xs) (all_at q xs) v
    ∙ sym (ap (updated r) (pick_false _ (x ∷ all_at q xs) (all_at q xs) (ap (same_bytes q) (sym e) ∙ v))
    ∙ updated_other q r xs (same_not q (path_of r) v)))
    (cases_Bool (same_bytes q (path_of r))))
    (λ (f : same_bytes (path_of r) (path_of x.rec) ≡ false).
    ap (all_at q) (pick_false _ (y ∷ xs) (x ∷ updated r xs) f)
    ∙ ⊎_elim
    (λ (u : same_bytes q (path_of x.rec) ≡ true).
    pick_true _ (x ∷ all_at q (updated r xs)) (all_at q (updated r xs)) u
    ∙ ap (λ (l : List Stored). x ∷ l) (all_updated q r xs)
    ∙ sym (ap (updated r) (pick_true _ (x ∷ all_at q xs) (all_at q xs) u) ∙ pick_false _ (y ∷ all_at q xs) (x ∷ updated r (all_at q xs)) f))
    (λ (v : same_bytes q (path_of x.rec) ≡ false).
    pick_false _ (x ∷ all_at q (updated r xs)) (all_at q (updated r xs)) v
    ∙ all_updated q r xs
    ∙ sym (ap (updated r) (pick_false _ (x ∷ all_at q xs) (all_at q xs) v)))
    (cases_Bool (same_bytes q (path_of x.rec))))
    (cases_Bool (same_bytes (path_of r) (path_of x.rec)))

pub length_updated : (r : Record) (xs : List Stored) → length (updated r xs) ≡ length xs
unfolding updated
length_updated r [] = refl
length_updated r (x ∷ xs) =
    let y : Stored = record { rec = r; by_merkle = x.by_merkle } in
    ⊎_elim
    (λ (t : same_bytes (path_of r) (path_of x.rec) ≡ true). ap length (pick_true _ (y ∷ xs) (x ∷ updated r xs) t))
    (λ (f : same_bytes (path_of r) (path_of x.rec) ≡ false). ap length (pick_false _ (y ∷ xs) (x ∷ updated r xs) f) ∙ ap suc (length_updated r xs))
    (cases_Bool (same_bytes (path_of r) (path_of x.rec)))

-- one record is taken out
pub without_other : (q p : Path) (xs : List Stored) → same_bytes p q ≡ false → without p (all_at q xs) ≡ all_at q xs
unfolding all_at without
without_other q p [] n = refl
without_other q p (x ∷ xs) n =
    ⊎_elim
    (λ (t : same_bytes q (path_of x.rec) ≡ true).
    let e : q ≡ path_of x.rec = same_true q (path_of x.rec) t in
    ap (without p) (pick_true _ (x ∷ all_at q xs) (all_at q xs) t)
    ∙ pick_false _ _ _ (ap (same_bytes p) (sym e) ∙ n)
    ∙ ap (λ (l : List Stored). x ∷ l) (without_other q p xs n)
    ∙ sym (pick_true _ (x ∷ all_at q xs) (all_at q xs) t))
    (λ (f : same_bytes q (path_of x.rec) ≡ false).
    ap (without p) (pick_false _ (x ∷ all_at q xs) (all_at q xs) f) ∙ without_other q p xs n ∙ sym (pick_false _ (x ∷ all_at q xs) (all_at q xs) f))
    (cases_Bool (same_bytes q (path_of x.rec)))

pub all_without : (q p : Path) (xs : List Stored) → all_at q (without p xs) ≡ without p (all_at q xs)
unfolding all_at without
all_without q p [] = refl
all_without q p (x ∷ xs) =
    ⊎_elim
    (λ (t : same_bytes p (path_of x.rec) ≡ true).
    ap (all_at q) (pick_true _ xs (x ∷ without p xs) t)
    ∙ ⊎_elim
    (λ (u : same_bytes q (path_of x.rec) ≡ true).
    sym (ap (without p) (pick_true _ (x ∷ all_at q xs) (all_at q xs) u) ∙ pick_true _ (all_at q xs) (x ∷ without p (all_at q xs)) t))
    (λ (v : same_bytes q (path_of x.rec) ≡ false).
    let e : p ≡ path_of x.rec = same_true p (path_of x.rec) t in
    sym (ap (without p) (pick_false _ (x ∷ all_at q xs) (all_at q xs) v) ∙ without_other q p xs (same_not q p (ap (same_bytes q) e ∙ v))))
    (cases_Bool (same_bytes q (path_of x.rec))))
    (λ (f : same_bytes p (path_of x.rec) ≡ false).
    ap (all_at q) (pick_false _ xs (x ∷ without p xs) f)
    ∙ ⊎_elim
    (λ (u : same_bytes q (path_of x.rec) ≡ true).
    pick_true _ (x ∷ all_at q (without p xs)) (all_at q (without p xs)) u
    ∙ ap (λ (l : List Stored). x ∷ l) (all_without q p xs)
    ∙ sym (ap (without p) (pick_true _ (x ∷ all_at q xs) (all_at q xs) u) ∙ pick_false _ (all_at q xs) (x ∷ without p (all_at q xs)) f))
    (λ (v : same_bytes q (path_of x.rec) ≡ false).
    pick_false _ (x ∷ all_at q (without p xs)) (all_at q (without p xs)) v
    ∙ all_without q p xs
    ∙ sym (ap (without p) (pick_false _ (x ∷ all_at q xs) (all_at q xs) v)))
    (cases_Bool (same_bytes q (path_of x.rec))))
    (cases_Bool (same_bytes p (path_of x.rec)))

-- what is found passes
pub position_is : {X : Type 0} (t : X → Bool) (xs : List X) (i : ℕ) (d : X) → i ≡ position t xs → i < length xs → t (get_or xs i d) ≡ true
unfolding position
position_is t [] i d e h = absurd (omega arith)
position_is t (x ∷ xs) zero d e h =
    ⊎_elim (λ (y : t x ≡ true). y)
    (λ (n : t x ≡ false). let z : zero ≡ suc (position t xs) = e ∙ pick_false (t x) 0 (suc (position t xs)) n in absurd (omega arith))
    (cases_Bool (t x))
position_is t (x ∷ xs) (suc i) d e h =
    ⊎_elim (λ (y : t x ≡ true). let z : suc i ≡ 0 = e ∙ pick_true (t x) 0 (suc (position t xs)) y in absurd (omega arith))
    (λ (n : t x ≡ false). let z : suc i ≡ suc (position t xs) = e ∙ pick_false (t x) 0 (suc (position t xs)) n in position_is t xs i d (omega arith) (omega arith))
    (cases_Bool (t x))

pub length_without : (p : Path) (ss : List Stored) → length (find p ss) ≡ 1 → length (without p ss) + 1 ≡ length ss
unfolding find without
length_without p [] h = absurd (omega arith)
length_without p (x ∷ xs) h =
    ⊎_elim
    (λ (t : same_bytes p (path_of x.rec) ≡ true). let e = ap length (pick_true _ xs (x ∷ without p xs) t) in omega arith)
    (λ (f : same_bytes p (path_of x.rec) ≡ false).
    let g : length (find p xs) ≡ 1 = ap length (sym (pick_false _ (x ∷ []) (find p xs) f)) ∙ h in
    let e = ap length (pick_false _ xs (x ∷ without p xs) f) in
    let r = length_without p xs g in omega arith)
    (cases_Bool (same_bytes p (path_of x.rec)))

-- what is looked for is found at its place
pub find_position : (p : Path) (xs : List Stored) (i : ℕ) (d : Stored) → i ≡ position (is_at p) xs → i < length xs → find p xs ≡ get_or xs i d ∷ []
unfolding position find
find_position p [] i d e h = absurd (omega arith)
find_position p (x ∷ xs) zero d e h =
    ⊎_elim (λ (y : is_at p x ≡ true). pick_true _ _ _ y)
    (λ (n : is_at p x ≡ false). let z : zero ≡ suc (position (is_at p) xs) = e ∙ pick_false (is_at p x) 0 (suc (position (is_at p) xs)) n in absurd (omega arith))
    (cases_Bool (is_at p x))
find_position p (x ∷ xs) (suc i) d e h =
    ⊎_elim (λ (y : is_at p x ≡ true). let z : suc i ≡ 0 = e ∙ pick_true (is_at p x) 0 (suc (position (is_at p) xs)) y in absurd (omega arith))
    (λ (n : is_at p x ≡ false).
    let z : suc i ≡ suc (position (is_at p) xs) = e ∙ pick_false (is_at p x) 0 (suc (position (is_at p) xs)) n in
    pick_false _ _ _ n ∙ find_position p xs i d (omega arith) (omega arith))
    (cases_Bool (is_at p x))

-- and what is not found has no place
pub find_none : (p : Path) (xs : List Stored) → length xs ≤ position (is_at p) xs → find p xs ≡ []
unfolding position find
find_none p [] h = refl
find_none p (x ∷ xs) h =
    ⊎_elim (λ (y : is_at p x ≡ true). let z = pick_true (is_at p x) 0 (suc (position (is_at p) xs)) y in absurd (omega arith))
    (λ (n : is_at p x ≡ false). let z = pick_false (is_at p x) 0 (suc (position (is_at p) xs)) n in pick_false _ _ _ n ∙ find_none p xs (omega arith))
    (cases_Bool (is_at p x))

-- the updated one is in its place
pub updated_position : (r : Record) (xs : List Stored) (i : ℕ) (d : Stored) → i ≡ position (is_at (path_of r)) xs → i < length xs → updated r xs ≡ set xs i (record { rec = r; by_merkle = (get_or xs i d).by_merkle })
unfolding position updated
updated_position r [] i d e h = absurd (omega arith)
updated_position r (x ∷ xs) zero d e h =
    ⊎_elim (λ (y : is_at (path_of r) x ≡ true). pick_true _ _ _ y)
    (λ (n : is_at (path_of r) x ≡ false). let z : zero ≡ suc (position (is_at (path_of r)) xs) = e ∙ pick_false (is_at (path_of r) x) 0 (suc (position (is_at (path_of r)) xs)) n in absurd (omega arith))
    (cases_Bool (is_at (path_of r) x))
updated_position r (x ∷ xs) (suc i) d e h =
    ⊎_elim (λ (y : is_at (path_of r) x ≡ true). let z : suc i ≡ 0 = e ∙ pick_true (is_at (path_of r) x) 0 (suc (position (is_at (path_of r)) xs)) y in absurd (omega arith))
    (λ (n : is_at (path_of r) x ≡ false).
    let z : suc i ≡ suc (position (is_at (path_of r)) xs) = e ∙ pick_false (is_at (path_of r) x) 0 (suc (position (is_at (path_of r)) xs)) n in
    pick_false _ _ _ n ∙ ap (λ (l : List Stored). x ∷ l) (updated_position r xs i d (omega arith) (omega arith)))
    (cases_Bool (is_at (path_of r) x))

pub without_none : (p : Path) (ss : List Stored) → find p ss ≡ [] → without p ss ≡ ss
unfolding find without
without_none p [] e = refl
without_none p (x ∷ xs) e =
    ⊎_elim
    (λ (t : same_bytes p (path_of x.rec) ≡ true). let z : x ∷ [] ≡ [] = sym (pick_true _ (x ∷ []) (find p xs) t) ∙ e in cc)
    (λ (f : same_bytes p (path_of x.rec) ≡ false).
    pick_false _ xs (x ∷ without p xs) f ∙ ap (λ (l : List Stored). x ∷ l) (without_none p xs (sym (pick_false _ (x ∷ []) (find p xs) f) ∙ e)))
    (cases_Bool (same_bytes p (path_of x.rec)))

-- the record that is there already
pub updated_same : (r : Record) (xs : List Stored) (y : Stored) → find (path_of r) xs ≡ y ∷ [] → y.rec ≡ r → updated r xs ≡ xs
unfolding find updated
updated_same r [] y e q = refl
updated_same r (x ∷ xs) y e q =
    ⊎_elim
    (λ (t : same_bytes (path_of r) (path_of x.rec) ≡ true).
    let z : x ∷ [] ≡ y ∷ [] = sym (pick_true _ (x ∷ []) (find (path_of r) xs) t) ∙ e in
    let xy : x ≡ y = cc in
    pick_true _ (record { rec = r; by_merkle = x.by_merkle } ∷ xs) (x ∷ updated r xs) t
    ∙ ap (λ (s : Record). record { rec = s; by_merkle = x.by_merkle } ∷ xs) (sym q ∙ ap (λ (s : Stored). s.rec) (sym xy)))
    (λ (f : same_bytes (path_of r) (path_of x.rec) ≡ false).
    pick_false _ (record { rec = r; by_merkle = x.by_merkle } ∷ xs) (x ∷ updated r xs) f
    ∙ ap (λ (l : List Stored). x ∷ l) (updated_same r xs y (sym (pick_false _ (x ∷ []) (find (path_of r) xs) f) ∙ e) q))
    (cases_Bool (same_bytes (path_of r) (path_of x.rec)))

-- EvictBlumMerkle of what can't leave, or can: that the node above points at it as by Blum changes nothing of that.
use Rattle.std.proofs.Common.{◌≡◌, ℕ, Bool, true, false, not, ◌&&◌, ◌||◌, ltb, List, [], ◌∷◌, length, refl, ap, ◌∙◌, ap₂, ⊎_elim}
use Rattle.std.proofs.lemmas.Bool.{cases_Bool}
use Rattle.model.specs.Records.{Path, Record, Pointer, absent, present, same_bytes, path_of, is_data, side, pick, node, children_of, child_on, with_child}
use Rattle.model.specs.Verifier.{Stored, Timestamp, Verifier, fails, find, updated, found_by_merkle, points_at_merkle, has_merkle_child, earlier_with, same_flag, can_evict_blum, with_store, evict_blum_merkle, evict_blum_merkle_at, evict_blum_merkle_under, verifier_step}
use Rattle.path.proofs.Same.{same_true}
use Rattle.slot.proofs.Finding.{pick_true, pick_false}
use Rattle.conditions.proofs.Evicted.{pick_fails}
use Rattle.blum_conditions.specs.Evicts.{evictable}
use Rattle.blum.proofs.Stepped.{evict_fails}

-- ---- what a store has at a path is added as it was, where one record is another

first_found : (b : Bool) (y x : Stored) (zs : List Stored) → y.by_merkle ≡ x.by_merkle → found_by_merkle (pick b (y ∷ []) zs) ≡ found_by_merkle (pick b (x ∷ []) zs)
unfolding pick found_by_merkle
first_found true y x zs e = e
first_found false y x zs e = refl

rest_found : (b : Bool) (x : Stored) (ys zs : List Stored) → found_by_merkle ys ≡ found_by_merkle zs → found_by_merkle (pick b (x ∷ []) ys) ≡ found_by_merkle (pick b (x ∷ []) zs)
unfolding pick
rest_found true x ys zs e = refl
rest_found false x ys zs e = e

found_same : (p : Path) (r : Record) (xs : List Stored) → found_by_merkle (find p (updated r xs)) ≡ found_by_merkle (find p xs)
unfolding find updated
found_same p r [] = refl
found_same p r (x ∷ xs) =
    let y : Stored = record { rec = r; by_merkle = x.by_merkle } in
    ⊎_elim
    (λ (t : same_bytes (path_of r) (path_of x.rec) ≡ true).
    ap (λ (zs : List Stored). found_by_merkle (find p zs)) (pick_true _ (y ∷ xs) (x ∷ updated r xs) t)
    ∙ ap (λ (q : Path). found_by_merkle (pick (same_bytes p q) (y ∷ []) (find p xs))) (same_true (path_of r) (path_of x.rec) t)
    ∙ first_found (same_bytes p (path_of x.rec)) y x (find p xs) refl)
    (λ (f : same_bytes (path_of r) (path_of x.rec) ≡ false).
    ap (λ (zs : List Stored). found_by_merkle (find p zs)) (pick_false _ (y ∷ xs) (x ∷ updated r xs) f)
    ∙ rest_found (same_bytes p (path_of x.rec)) x (find p (updated r xs)) (find p xs) (found_same p r xs))
    (cases_Bool (same_bytes (path_of r) (path_of x.rec)))

points_same : (xs : List Stored) (r : Record) (c : Pointer) → points_at_merkle (updated r xs) c ≡ points_at_merkle xs c
unfolding points_at_merkle
points_same xs r absent = refl
points_same xs r (present p h b) = found_same p r xs

children_same : (xs : List Stored) (r x : Record) → has_merkle_child (updated r xs) x ≡ has_merkle_child xs x
children_same xs r x =
    ap₂ (λ (a b : Bool). not (is_data x) && (a || b)) (points_same xs r (children_of x).left) (points_same xs r (children_of x).right)

module _ (v : Verifier) (p : Path) (m : Timestamp) (by : Bool) (r : Record) where
  pub can_same : (x : Stored) → can_evict_blum (with_store v (updated r v.store)) p m by x ≡ can_evict_blum v p m by x
  can_same x =
      ap (λ (b : Bool). ((ltb 0 (length p) && earlier_with v.clock v.last_evicted m p) && same_flag x.by_merkle by) && not b) (children_same v.store r x.rec)

  evictable_same : (xs : List Stored) → evictable (with_store v (updated r v.store)) p m by xs ≡ evictable v p m by xs
  unfolding evictable
  evictable_same [] = refl
  evictable_same (x ∷ xs) = can_same x

-- ---- the step

module _ (t : ℕ) (v : Verifier) (p q : Path) (m : Timestamp) where
  at_fails : evictable v p m true (find p v.store) ≡ false → (y : Stored) (c : Pointer) → evict_blum_merkle_at v t p q m y c ≡ fails
  unfolding evict_blum_merkle_at
  at_fails e y absent = refl
  at_fails e y (present o h b) =
      let r : Record = node q (with_child (children_of y.rec) (side p q) (present p h true)) in
      pick_fails (same_bytes o p && not b) _ (evict_fails (with_store v (updated r v.store)) p m true t (find p v.store) (evictable_same v p m true r (find p v.store) ∙ e))

  under_fails : evictable v p m true (find p v.store) ≡ false → (ys : List Stored) → evict_blum_merkle_under v t p q m ys ≡ fails
  unfolding evict_blum_merkle_under
  under_fails e [] = refl
  under_fails e (y ∷ ys) = pick_fails _ _ (at_fails e y (child_on (children_of y.rec) (side p q)))

  -- what is at the path can't leave
  pub cannot_leave : evictable v p m true (find p v.store) ≡ false → verifier_step t v (evict_blum_merkle p q m) ≡ fails
  unfolding verifier_step
  cannot_leave e = under_fails e (find q v.store)

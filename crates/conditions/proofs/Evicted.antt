-- An EvictMerkle by its conditions, each as the code's test leaves it.
use Rattle.std.proofs.Common.{◌≡◌, ℕ, Bool, true, false, not, ◌&&◌, List, [], ◌∷◌, refl, ◌∙◌}
use Rattle.std.proofs.lemmas.Bool.{both_ways}
use Rattle.model.specs.Records.{Path, Pointer, absent, present, merkle_hash, pick, below, side, is_data, children_of, child_on, node, with_child}
use Rattle.model.specs.Verifier.{Stored, Verifier, Step, fails, goes, find, verifier_step, evict_merkle, evict_merkle_under, evict_merkle_at, has_merkle_child, with_store, without, updated}
use Rattle.reads.specs.Points.{points}
use Rattle.conditions.proofs.Tests.{and_false}

pub pick_fails : (b : Bool) (s : Step) → s ≡ fails → pick b s fails ≡ fails
unfolding pick
pick_fails true s e = e
pick_fails false s e = refl

module _ (t : ℕ) (v : Verifier) (p q : Path) where
  pub no_record : find p v.store ≡ [] → verifier_step t v (evict_merkle p q) ≡ fails
  unfolding verifier_step evict_merkle_under
  no_record e = rw e

  under_none : (xs : List Stored) → evict_merkle_under v p q xs [] ≡ fails
  unfolding evict_merkle_under
  under_none [] = refl
  under_none (x ∷ xs) = refl

  pub no_above : find q v.store ≡ [] → verifier_step t v (evict_merkle p q) ≡ fails
  unfolding verifier_step
  no_above e = rw e (under_none (find p v.store))

  module _ (x y : Stored) (ex : find p v.store ≡ x ∷ []) (ey : find q v.store ≡ y ∷ []) where
    under : verifier_step t v (evict_merkle p q)
        ≡ pick ((below p q && not (is_data y.rec)) && not (has_merkle_child v.store x.rec)) (evict_merkle_at v p q x y (child_on (children_of y.rec) (side p q))) fails
    unfolding verifier_step evict_merkle_under
    under = rw (ex, ey) refl

    pub not_below : false ≡ below p q → verifier_step t v (evict_merkle p q) ≡ fails
    unfolding pick
    not_below b = under ∙ rw (← b) refl

    pub not_node : false ≡ not (is_data y.rec) → verifier_step t v (evict_merkle p q) ≡ fails
    unfolding pick
    not_node k = under ∙ rw (← k, and_false) refl

    pub child_stored : true ≡ has_merkle_child v.store x.rec → verifier_step t v (evict_merkle p q) ≡ fails
    unfolding pick
    child_stored h = under ∙ rw (← h, and_false) refl

    not_it : (c : Pointer) → false ≡ points p c → evict_merkle_at v p q x y c ≡ fails
    unfolding evict_merkle_at points pick
    not_it absent e = refl
    not_it (present o h b) e = rw (← e) refl

    pub pointer_differs : (d : ℕ) → d ≡ side p q → false ≡ points p (child_on (children_of y.rec) d) → verifier_step t v (evict_merkle p q) ≡ fails
    pointer_differs d ed e = under ∙ pick_fails _ _ (rw (← ed) (not_it (child_on (children_of y.rec) d) e))

    it : (c : Pointer) → true ≡ points p c
        → evict_merkle_at v p q x y c ≡ goes (with_store v (without p (updated (node q (with_child (children_of y.rec) (side p q) (present p (merkle_hash x.rec) false))) v.store))) [] [] (x.rec ∷ [])
    unfolding evict_merkle_at points pick
    it absent e = absurd (both_ways true e refl)
    it (present o h b) e = rw (← e) refl

    pub evicts : true ≡ below p q → true ≡ not (is_data y.rec) → false ≡ has_merkle_child v.store x.rec → (d : ℕ) → d ≡ side p q → true ≡ points p (child_on (children_of y.rec) d)
        → verifier_step t v (evict_merkle p q) ≡ goes (with_store v (without p (updated (node q (with_child (children_of y.rec) d (present p (merkle_hash x.rec) false))) v.store))) [] [] (x.rec ∷ [])
    unfolding pick
    evicts b k h d ed e = under ∙ rw (← b, ← k, ← h, ← ed) (rw ed (it (child_on (children_of y.rec) (side p q)) (rw ed at e)))

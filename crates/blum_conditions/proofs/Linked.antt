-- EvictBlumMerkle by what the node above knows, each condition as the code's test leaves it.
use Rattle.std.proofs.Common.{◌≡◌, ℕ, Bool, true, false, not, ◌&&◌, [], ◌∷◌, sym, ap, ◌∙◌}
use Rattle.std.proofs.lemmas.Bool.{and_left, and_right, and_from, not_from_true, not_from_false}
use Rattle.model.specs.Records.{Path, Pointer, absent, present, same_bytes, is_data, below, side, pick, node, children_of, child_on, with_child}
use Rattle.model.specs.Verifier.{Stored, Timestamp, Verifier, fails, find, updated, with_store, evict_blum_step, evict_blum_merkle, evict_blum_merkle_at, evict_blum_merkle_under, verifier_step}
use Rattle.slot.proofs.Finding.{pick_true, pick_false}
use Rattle.conditions.proofs.Evicted.{pick_fails}

module _ (t : ℕ) (v : Verifier) (p q : Path) (m : Timestamp) where
  pub no_above : find q v.store ≡ [] → verifier_step t v (evict_blum_merkle p q m) ≡ fails
  unfolding verifier_step evict_blum_merkle_under
  no_above e = ap (evict_blum_merkle_under v t p q m) e

  module _ (y : Stored) (ey : find q v.store ≡ y ∷ []) where
    under : verifier_step t v (evict_blum_merkle p q m) ≡ pick (below p q && not (is_data y.rec)) (evict_blum_merkle_at v t p q m y (child_on (children_of y.rec) (side p q))) fails
    unfolding verifier_step evict_blum_merkle_under
    under = ap (evict_blum_merkle_under v t p q m) ey

    pub above_is_data : false ≡ not (is_data y.rec) → verifier_step t v (evict_blum_merkle p q m) ≡ fails
    above_is_data e = under ∙ pick_false _ _ _ (and_right (below p q) _ (sym e))

    pub not_below : false ≡ below p q → verifier_step t v (evict_blum_merkle p q m) ≡ fails
    not_below e = under ∙ pick_false _ _ _ (and_left _ _ (sym e))

    module _ (d : ℕ) (ed : d ≡ side p q) (c : Pointer) (ec : c ≡ child_on (children_of y.rec) d) where
      pointed : child_on (children_of y.rec) (side p q) ≡ c
      pointed = ap (child_on (children_of y.rec)) (sym ed) ∙ sym ec

      pointer_fails : evict_blum_merkle_at v t p q m y c ≡ fails → verifier_step t v (evict_blum_merkle p q m) ≡ fails
      pointer_fails e = under ∙ pick_fails _ _ (ap (evict_blum_merkle_at v t p q m y) pointed ∙ e)

      pub points_nowhere : c ≡ absent → verifier_step t v (evict_blum_merkle p q m) ≡ fails
      unfolding evict_blum_merkle_at
      points_nowhere e = pointer_fails (ap (evict_blum_merkle_at v t p q m y) e)

      module _ (o : Path) (h : ℕ) (b : Bool) (e : c ≡ present o h b) where
        pub points_elsewhere : false ≡ same_bytes o p → verifier_step t v (evict_blum_merkle p q m) ≡ fails
        unfolding evict_blum_merkle_at
        points_elsewhere f = pointer_fails (ap (evict_blum_merkle_at v t p q m y) e ∙ pick_false _ _ _ (and_left _ _ (sym f)))

        pub by_blum : b ≡ true → verifier_step t v (evict_blum_merkle p q m) ≡ fails
        unfolding evict_blum_merkle_at
        by_blum f = pointer_fails (ap (evict_blum_merkle_at v t p q m y) e ∙ pick_false _ _ _ (and_right (same_bytes o p) _ (not_from_true b f)))

        pub links : true ≡ below p q → true ≡ not (is_data y.rec) → true ≡ same_bytes o p → b ≡ false
            → verifier_step t v (evict_blum_merkle p q m)
            ≡ evict_blum_step (with_store v (updated (node q (with_child (children_of y.rec) d (present p h true))) v.store)) t p m true (find p v.store)
        unfolding evict_blum_merkle_at
        links l k f g =
            under ∙ pick_true _ _ _ (and_from _ _ (sym l) (sym k))
            ∙ ap (evict_blum_merkle_at v t p q m y) (pointed ∙ e)
            ∙ pick_true _ _ _ (and_from _ _ (sym f) (not_from_false b g))
            ∙ ap (λ (i : ℕ). evict_blum_step (with_store v (updated (node q (with_child (children_of y.rec) i (present p h true))) v.store)) t p m true (find p v.store)) (sym ed)

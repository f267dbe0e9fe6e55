-- AddMerkle by what the node above knows, each condition as the code's test leaves it.
use Rattle.std.proofs.Common.{◌≡◌, ℕ, Bool, true, false, not, ◌&&◌, eqb, [], ◌∷◌, refl, ◌∙◌}
use Rattle.model.specs.Records.{Path, Record, Pointer, absent, present, is_data, is_initial, path_of, children_of, node, with_child, side, merkle_hash, same_bytes, below, child_on, pick}
use Rattle.model.specs.Verifier.{Stored, Verifier, fails, goes, goes_to, with_record, with_store, updated, find, nonempty, stores, add_merkle, add_merkle_at, add_merkle_under, verifier_step}
use Rattle.conditions.specs.Ways.{pointing}
use Rattle.conditions.proofs.Tests.{and_false}

module _ (v : Verifier) (x : Record) (q : Path) (above : Record) where
  pub first_not : (c : Pointer) → c ≡ absent → false ≡ is_initial x → add_merkle_at v x q above c ≡ fails
  unfolding add_merkle_at pick
  first_not c ec f = rw (ec, ← f) refl

  pub first : (c : Pointer) → c ≡ absent → true ≡ is_initial x → add_merkle_at v x q above c ≡ goes_to (with_record (with_store v (updated (pointing q above (side (path_of x) q) (path_of x)) v.store)) x true)
  unfolding add_merkle_at pick
  first c ec f = rw (ec, ← f) refl

  module _ (c : Pointer) (p : Path) (h : ℕ) (b : Bool) (ec : c ≡ present p h b) where
    module _ (it : same_bytes p (path_of x) ≡ true) where
      pub other_hash : eqb h (merkle_hash x) ≡ false → add_merkle_at v x q above c ≡ fails
      unfolding add_merkle_at pick
      other_hash e = rw (ec, it, e) refl

      pub by_blum : b ≡ true → add_merkle_at v x q above c ≡ fails
      unfolding add_merkle_at pick
      by_blum e = rw (ec, it, e, and_false) refl

      pub again : eqb h (merkle_hash x) ≡ true → b ≡ false → add_merkle_at v x q above c ≡ goes (with_record v x true) [] [] (x ∷ [])
      unfolding add_merkle_at pick
      again e f = rw (ec, it, e, f) refl

    module _ (it : same_bytes p (path_of x) ≡ false) where
      pub not_initial : false ≡ is_initial x → add_merkle_at v x q above c ≡ fails
      unfolding add_merkle_at pick
      not_initial e = rw (ec, it, ← e) refl

      pub not_node : false ≡ not (is_data x) → add_merkle_at v x q above c ≡ fails
      unfolding add_merkle_at pick
      not_node e = rw (ec, it, ← e, and_false) refl

      pub not_below : false ≡ below p (path_of x) → add_merkle_at v x q above c ≡ fails
      unfolding add_merkle_at pick
      not_below e = rw (ec, it, ← e, and_false) refl

      pub between : true ≡ is_initial x → true ≡ not (is_data x) → true ≡ below p (path_of x)
          → add_merkle_at v x q above c ≡ goes_to (with_record (with_store v (updated (pointing q above (side (path_of x) q) (path_of x)) v.store)) (node (path_of x) (with_child (children_of x) (side p (path_of x)) (present p h b))) true)
      unfolding add_merkle_at pick
      between e f g = rw (ec, it, ← e, ← f, ← g) refl

-- AddMerkle by what is in the store
module _ (t : ℕ) (v : Verifier) (x : Record) (q : Path) where
  pub no_above : find q v.store ≡ [] → verifier_step t v (add_merkle x q) ≡ fails
  unfolding verifier_step add_merkle_under
  no_above e = rw e refl

  module _ (y : Stored) (ey : find q v.store ≡ y ∷ []) where
    under : verifier_step t v (add_merkle x q)
        ≡ pick ((below (path_of x) q && not (is_data y.rec)) && not (stores (path_of x) v.store)) (add_merkle_at v x q y.rec (child_on (children_of y.rec) (side (path_of x) q))) fails
    unfolding verifier_step add_merkle_under
    under = rw ey refl

    pub above_is_data : false ≡ not (is_data y.rec) → verifier_step t v (add_merkle x q) ≡ fails
    unfolding pick
    above_is_data k = under ∙ rw (← k, and_false) refl

    pub not_under : false ≡ below (path_of x) q → verifier_step t v (add_merkle x q) ≡ fails
    unfolding pick
    not_under b = under ∙ rw (← b) refl

    pub stored_already : (z : Stored) → find (path_of x) v.store ≡ z ∷ [] → verifier_step t v (add_merkle x q) ≡ fails
    unfolding pick nonempty
    stored_already z e = under ∙ rw (e, and_false) refl

    pub by_pointer : true ≡ below (path_of x) q → true ≡ not (is_data y.rec) → find (path_of x) v.store ≡ [] → (d : ℕ) → d ≡ side (path_of x) q
        → verifier_step t v (add_merkle x q) ≡ add_merkle_at v x q y.rec (child_on (children_of y.rec) d)
    unfolding pick nonempty
    by_pointer b k e d ed = under ∙ rw (← b, ← k, e, ← ed) refl

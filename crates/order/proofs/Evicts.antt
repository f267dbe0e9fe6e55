-- The evicts keep the invariant: by Merkle, by Blum, and by Blum what was added by Merkle.
use Rattle.std.proofs.Common.{◌≡◌, ℕ, ◌<◌, Bool, true, false, eqb, ◌⊎◌, List, [], ◌∷◌, sym, refl, ap, ◌∙◌, subst, ap₂, inl, inr, arith}
use Rattle.std.proofs.lemmas.Bool.{ne_eqb, or_parts}
use Rattle.model.specs.Records.{pick, Path, side, Pointer, present, Children, with_child, Record, data_record, node, path_of, is_data, children_of, merkle_bytes, merkle_hash}
use Rattle.model.specs.Verifier.{Timestamp, evict_merkle, evict_blum, evict_blum_merkle, Stored, Verifier, find, without, updated, found_by_merkle, points_at_merkle, has_merkle_child, Element, goes}
use Rattle.model.specs.Monitor.{Call, modulus, entry_code}
use Rattle.model.specs.Order.{get_right}
use Rattle.order.proofs.Paths.{same_or, left_of}
use Rattle.order.proofs.Lists.{picks_not}
use Rattle.order.proofs.Stores.{renewed, find_updated_at, find_updated_off}
use Rattle.order.proofs.Bytes.{hash_small, FitPointer, FitRecord}
use Rattle.order.proofs.Shape.{upd, upd_off}
use Rattle.order.proofs.World.{Where, at, away_merkle, away_blum, Spot, spot, World, Kind, kind_at, kind, loc_at, Ptr, Tree, half, with_half, side_of, not_self, child_on_half, with_child_half, ptr_more}
use Rattle.order.proofs.Placed.{seen_by, Placed, placed_updated, placed_evicted}
use Rattle.order.proofs.Moves.{move, move_under, no_child}
use Rattle.order.proofs.Ways.{Found, Above, pointer_to, Evictable, evicted_by_merkle, marked_blum, evicted_at, element}
use Rattle.order.proofs.Invariant.{Inv, Then, Keeps, no_elements, never, fit_half, fit_halves, setn, setn_at, found_here, found_above}

found_updated : (p : Path) (r : Record) (hs : List Stored) → found_by_merkle (find p (updated r hs)) ≡ found_by_merkle (find p hs)
unfolding found_by_merkle
found_updated p r hs = go (same_or p (path_of r))
  where
    same : (xs : List Stored) → found_by_merkle (renewed r xs) ≡ found_by_merkle xs
    same [] = refl
    same (x ∷ xs) = refl

    go : (p ≡ path_of r) ⊎ (p ≡ path_of r → ⊥) → found_by_merkle (find p (updated r hs)) ≡ found_by_merkle (find p hs)
    go (inl i) = rw (i, find_updated_at r hs) (same (find (path_of r) hs))
    go (inr n) = rw (find_updated_off p r hs n)

-- nothing that a record points at is in the store by Merkle
abbrev Childless : List Stored → Record → Type 0
Childless hs r = (w : Where) (d : Bool) (p : Path) (h : ℕ) (b : Bool) → side_of (spot r w) d ≡ present p h b → found_by_merkle (find p hs) ≡ false

childless : (hs : List Stored) (r : Record) → has_merkle_child hs r ≡ false → Childless hs r
unfolding is_data children_of points_at_merkle
childless hs (data_record k v) e w d p h b f = absurd (never p h b f)
childless hs (node q u) e w d p h b f = go d f (or_parts (points_at_merkle hs u.left) (points_at_merkle hs u.right) e)
  where
    go : (d : Bool) → half u d ≡ present p h b → (points_at_merkle hs u.left ≡ false) × (points_at_merkle hs u.right ≡ false) → found_by_merkle (find p hs) ≡ false
    go true i o = sym (ap (points_at_merkle hs) i) ∙ o.0
    go false i o = sym (ap (points_at_merkle hs) i) ∙ o.1

module _ (hs : ℕ → List Stored) (H : List Record) (bs : List Call) (P : Element → Type 0) (t : ℕ) (c : Verifier) (I : Inv hs H bs P) (isc : c.store ≡ hs t) where
  abbrev W : World
  W = I.world

  -- its children aren't in the store by Merkle, so it can go
  leaves : (p : Path) (r : Record) (b : Bool) → W p ≡ spot r (at t b) → Childless (hs t) r →
      (d : Bool) (y : Path) (h : ℕ) (a : Bool) → side_of (W p) d ≡ present y h a → Ptr H (t ∷ []) h a (kind (W y)) → Ptr H [] h a (kind (W y))
  leaves p r b isp nb d y h a e k =
      no_child H t h a (W y) k (ap found_by_merkle (sym (I.rest.link t y)) ∙ nb (at t b) d y h a (ap (λ s. side_of s d) (sym isp) ∙ e))

  still : (p : Path) (r : Record) (b : Bool) → W p ≡ spot r (at t b) → (e : Element) → P e → path_of e.rec ≡ p → ⊥
  still p r b isp e f i =
      let k : spot r (at t b) ≡ spot e.rec (away_blum e.timestamp e.verifier) = sym isp ∙ (ap W (sym i) ∙ I.rest.pend e f) in
      let z : ◌≡◌ {A = ℕ} 0 1 = cc k in omega arith

  -- what was added by Blum leaves by Blum
  evict_plain : (Q : Element → Type 0) (p : Path) (r : Record) (m : Timestamp) → W p ≡ spot r (at t false) → Childless (hs t) r →
      ((e : Element) → Q e → (P e × (path_of e.rec ≡ p → ⊥)) ⊎ ((path_of e.rec ≡ p) × (spot r (away_blum m t) ≡ spot e.rec (away_blum e.timestamp e.verifier)))) →
      (gs : ℕ → List Stored) → gs t ≡ without p c.store → ((u : ℕ) → (u ≡ t → ⊥) → gs u ≡ hs u) → Inv gs H bs Q
  evict_plain Q p r m isp nb pends gs g others =
      record {
        world = upd W p (spot r (away_blum m t));
        tree = move H H W p r (at t false) (away_blum m t) I.tree isp (λ l h b k x. x) (λ d y h b n e k. leaves p r false isp nb d y h b e k) (λ z d h b e k. k);
        rest = placed_evicted hs gs bs P W t I.rest others Q p r false (away_blum m t) isp (λ u. refl) (g ∙ ap (without p) isc) pends;
      }

  -- what leaves, with the node above it that points at it
  module _ (G : List Record) (Q : Element → Type 0) (p q : Path) (r : Record) (b bt : Bool) (u : Children) (g h : ℕ) (a i : Bool) (v : Where)
      (isp : W p ≡ spot r (at t b)) (isq : W q ≡ spot (node q u) (at t bt)) (points : half u (left_of p q) ≡ present p g a) (small : h < modulus)
      (nb : Childless (hs t) r) (more : (l : List ℕ) (x : ℕ) (y : Bool) (k : Kind) → Ptr H l x y k → Ptr G l x y k)
      (new : Ptr G (t ∷ []) h i (kind_at r v)) (nowhere : (x : ℕ) → seen_by x (spot r v) ≡ []) (nothing : loc_at v ≡ [])
      (pends : (e : Element) → Q e → (P e × (path_of e.rec ≡ p → ⊥)) ⊎ ((path_of e.rec ≡ p) × (spot r v ≡ spot e.rec (away_blum e.timestamp e.verifier))))
      (gs : ℕ → List Stored) (isg : gs t ≡ without p (updated (node q (with_child u (side p q) (present p h i))) c.store)) (others : (x : ℕ) → (x ≡ t → ⊥) → gs x ≡ hs x) where
    abbrev u' : Children
    u' = with_half u (left_of p q) (present p h i)

    evict_under : Inv gs G bs Q
    unfolding path_of
    evict_under = record { world = upd (upd W q s) p (spot r v); tree = trees; rest = rests }
      where
        s : Spot
        s = spot (node q u') (at t bt)

        l : List Stored
        l = updated (node q u') (hs t)

        ms : ℕ → List Stored
        ms = setn hs t l

        off_list : (x : ℕ) → (x ≡ t → ⊥) → ms x ≡ hs x
        off_list x n = picks_not (eqb x t) l (hs x) (ne_eqb x t n)

        side_q : side_of (W q) (left_of p q) ≡ present p g a
        side_q = ap (λ x. side_of x (left_of p q)) isq ∙ points

        p≢q : p ≡ q → ⊥
        p≢q = not_self H W I.tree q (left_of p q) p g a side_q

        fit_q : FitRecord (node q u)
        fit_q = (rw isq at (I.rest.fit q)).1

        fit_u : (e : Bool) → FitPointer (half u e)
        fit_u = fit_halves q u fit_q

        fit_old : FitPointer (present p g a)
        fit_old = rw points at (fit_u (left_of p q))

        trees : Tree G (upd (upd W q s) p (spot r v))
        trees =
            move_under H G W p r (at t b) v I.tree isp more
            (λ d y x z n e k. rw nothing (more [] x z (kind (W y)) (leaves p r b isp nb d y x z e k)))
            q t u (left_of p q) bt g h a i isq points new

        middle : Placed ms bs P (upd W q s)
        middle =
            placed_updated hs ms bs P W t I.rest off_list bs q (node q u) (node q u') bt isq refl (setn_at hs t l)
            (fit_half q u (left_of p q) (present p h i) fit_q.0 fit_u (fit_old.0, small)) (λ k j. tt) (λ k j. refl)

        rests : Placed gs bs Q (upd (upd W q s) p (spot r v))
        rests =
            placed_evicted ms gs bs P (upd W q s) t middle (λ x n. others x n ∙ sym (off_list x n)) Q p r b v (upd_off W q s p p≢q ∙ isp) nowhere
            (isg ∙ ap (without p) (ap₂ (λ x y. updated (node q x) y) (with_child_half u (side p q) (present p h i)) isc ∙ sym (setn_at hs t l))) pends

  -- an element that is evicted now, or was and still is away
  evicted_now : (p : Path) (r : Record) (b : Bool) (m : Timestamp) → W p ≡ spot r (at t b) → (e : Element) → Then P [] (record { rec = r; timestamp = m; verifier = t } ∷ []) e →
      (P e × (path_of e.rec ≡ p → ⊥)) ⊎ ((path_of e.rec ≡ p) × (spot r (away_blum m t) ≡ spot e.rec (away_blum e.timestamp e.verifier)))
  evicted_now p r b m isp e (inl (inl i)) = inr (ap (λ x. path_of x.rec) i ∙ (rw isp at (I.rest.fit p)).0, ap (λ x. spot x.rec (away_blum x.timestamp x.verifier)) (sym i))
  evicted_now p r b m isp e (inl (inr n)) = absurd n
  evicted_now p r b m isp e (inr k) = inl (k.0, still p r b isp e k.0)

  half_is : (p q : Path) (y : Stored) (s : Pointer) → pointer_to p q y ≡ s → half (children_of y.rec) (left_of p q) ≡ s
  half_is p q y s e = sym (child_on_half (children_of y.rec) (side p q)) ∙ e

  childless_t : (r : Record) → has_merkle_child c.store r ≡ false → Childless (hs t) r
  childless_t r e = subst (λ z. Childless z r) isc (childless c.store r e)

  -- ---- the three ways

  pub keeps_evicts_merkle : (p q : Path) (x y : Stored) (h : ℕ) (b : Bool) → Found c p x → Above c p q y → has_merkle_child c.store x.rec ≡ false →
      pointer_to p q y ≡ present p h b → Keeps hs H bs P t (evict_merkle p q) (goes (evicted_by_merkle c p q x y) [] [] (x.rec ∷ []))
  unfolding pick entry_code get_right
  keeps_evicts_merkle p q x y h b f a k e _ gs g others m =
      inr (
        evict_under (x.rec ∷ H) (Then P [] []) p q x.rec x.by_merkle y.by_merkle (children_of y.rec) h (merkle_hash x.rec) b false away_merkle
            isp (found_above hs H bs P t c I isc p q y a) (half_is p q y (present p h b) e) (hash_small (merkle_bytes x.rec)) (childless_t x.rec k)
            (ptr_more H x.rec) (refl, refl, inl refl) (λ z. refl) refl
            (λ z w. let w' = no_elements P z w in inl (w', still p x.rec x.by_merkle isp z w'))
            gs g others,
        refl,
      )
    where
      isp : W p ≡ spot x.rec (at t x.by_merkle)
      isp = found_here hs H bs P t c I isc p x f

  pub keeps_evicts_blum : (p : Path) (m : Timestamp) (x : Stored) → Found c p x → Evictable c p m false x →
      Keeps hs H bs P t (evict_blum p m) (goes (evicted_at c p m) [] (element x m t ∷ []) [])
  unfolding pick entry_code get_right
  keeps_evicts_blum p m x f k _ gs g others n =
      inr (evict_plain (Then P [] (element x m t ∷ [])) p x.rec m isp (childless_t x.rec k.childless) (evicted_now p x.rec false m isp) gs g others, refl)
    where
      isp : W p ≡ spot x.rec (at t false)
      isp = found_here hs H bs P t c I isc p x f ∙ ap (λ z. spot x.rec (at t z)) k.added

  pub keeps_evicts_blum_merkle : (p q : Path) (m : Timestamp) (x y : Stored) (h : ℕ) → Found c p x → Above c p q y → pointer_to p q y ≡ present p h false →
      Evictable (marked_blum c p q y h) p m true x →
      Keeps hs H bs P t (evict_blum_merkle p q m) (goes (evicted_at (marked_blum c p q y h) p m) [] (element x m t ∷ []) [])
  unfolding pick entry_code get_right
  keeps_evicts_blum_merkle p q m x y h f a e k _ gs g others n =
      inr (
        evict_under H (Then P [] (element x m t ∷ [])) p q x.rec true y.by_merkle (children_of y.rec) h h false true (away_blum m t)
            isp isq points fits.1 none (λ l z w k₂ u. u) refl (λ z. refl) refl (evicted_now p x.rec true m isp) gs g others,
        refl,
      )
    where
      isp : W p ≡ spot x.rec (at t true)
      isp = found_here hs H bs P t c I isc p x f ∙ ap (λ z. spot x.rec (at t z)) k.added

      isq : W q ≡ spot (node q (children_of y.rec)) (at t y.by_merkle)
      isq = found_above hs H bs P t c I isc p q y a

      points : half (children_of y.rec) (left_of p q) ≡ present p h false
      points = half_is p q y (present p h false) e

      fits : FitPointer (present p h false)
      fits = rw points at (fit_halves q (children_of y.rec) (rw isq at (I.rest.fit q)).1 (left_of p q))

      marked : Record
      marked = node q (with_child (children_of y.rec) (side p q) (present p h true))

      none : Childless (hs t) x.rec
      none w z o g₂ b₂ f₂ =
          ap (λ l. found_by_merkle (find o l)) (sym isc) ∙ (sym (found_updated o marked c.store) ∙ childless (updated marked c.store) x.rec k.childless w z o g₂ b₂ f₂)

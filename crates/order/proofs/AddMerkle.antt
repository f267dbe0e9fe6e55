-- AddMerkle keeps the invariant, in each of its three ways; or what is added and what was evicted by Merkle collide.
use Rattle.std.proofs.Common.{◌≡◌, ℕ, Bool, true, false, ◌&&◌, eqb, ◌⊎◌, List, [], ◌∷◌, ◌++◌, Some, None, sym, refl, ap, ◌∙◌, subst, ap₂, inl, inr, arith}
use Rattle.std.proofs.lemmas.Bool.{false≢true, and_parts, ne_eqb}
use Rattle.model.specs.Records.{pick, same_bytes, Path, Bytes, Value, key_path, below, side, Pointer, absent, present, Children, with_child, Record, data_record, node, path_of, is_data, is_absent, is_initial, same_value, children_of, merkle_bytes, merkle_hash}
use Rattle.model.specs.Verifier.{add_merkle, Stored, Verifier, find, updated, Element, goes, goes_to, with_record}
use Rattle.model.specs.Monitor.{Call, entry_code}
use Rattle.model.specs.Order.{value_after, get_right, Member}
use Rattle.order.proofs.Paths.{same_is, below_self, below_trans, left_of, left_through}
use Rattle.order.proofs.Lists.{picks_not}
use Rattle.order.proofs.Bytes.{FitPointer, FitRecord, path_fits, KeysDiffer, merkle_tells}
use Rattle.order.proofs.Shape.{in_use, forks, arm, Cover, upd, upd_at, upd_off, same_side}
use Rattle.order.proofs.World.{Where, at, away_merkle, away_blum, Spot, unused, spot, World, merkle_at, merkle_away, kind, loc, Ptr, Tree, targets, form, half, with_half, side_of, arm_form, known, unknown, lone, child_on_half, with_child_half, half_same, half_other, insert_tree, ptr_more}
use Rattle.order.proofs.Placed.{seen_by, seen_here, ValueOf, Placed, placed_updated, placed_added}
use Rattle.order.proofs.Moves.{ptr_loc, move}
use Rattle.order.proofs.Ways.{Above, pointer_to, with_new_child, node_over}
use Rattle.order.proofs.Invariant.{Inv, Collide, Keeps, Then, keep, never, fit_half, fit_halves, setn, setn_at, found_above}

-- ---- initial records

initial_node : (u : Children) → (is_absent u.left && is_absent u.right) ≡ true → (u.left ≡ absent) × (u.right ≡ absent)
unfolding is_absent
initial_node u e = let h = and_parts (is_absent u.left) (is_absent u.right) e in (go u.left h.0, go u.right h.1)
  where
    go : (a : Pointer) → is_absent a ≡ true → a ≡ absent
    go absent f = refl
    go (present p h c) f = absurd (false≢true f)

initial_value : (r : Record) (has : Value) (k : Bytes) → is_initial r ≡ true → has ≡ None → ValueOf has k r
unfolding is_initial same_value
initial_value (data_record j None) has k e h = λ i. h
initial_value (data_record j (Some x)) has k e h = absurd (false≢true e)
initial_value (node p u) has k e h = tt

initial_side : (r : Record) (w : Where) (d : Bool) → is_initial r ≡ true → side_of (spot r w) d ≡ absent
unfolding is_initial
initial_side (data_record k v) w d e = refl
initial_side (node p u) w true e = (initial_node u e).0
initial_side (node p u) w false e = (initial_node u e).1

initial_half : (r : Record) (d : Bool) → is_initial r ≡ true → half (children_of r) d ≡ absent
unfolding is_initial children_of
initial_half (data_record k v) true e = refl
initial_half (data_record k v) false e = refl
initial_half (node p u) true e = (initial_node u e).0
initial_half (node p u) false e = (initial_node u e).1

module _ (hs : ℕ → List Stored) (H : List Record) (bs : List Call) (P : Element → Type 0) (t : ℕ) (c : Verifier) (I : Inv hs H bs P) (isc : c.store ≡ hs t) where
  abbrev W : World
  W = I.world

  -- a record below a node in the store, at a path that the store has not
  module _ (r : Record) (q : Path) (v : Children) (bt : Bool) (fr : FitRecord r) (isq : W q ≡ spot (node q v) (at t bt)) (bx : below (path_of r) q ≡ true)
      (gone : find (path_of r) (hs t) ≡ []) where
    abbrev x : Path
    x = path_of r

    abbrev v' : Children
    v' = with_half v (left_of (path_of r) q) (present (path_of r) 0 false)

    x≢q : x ≡ q → ⊥
    x≢q i = below_self q (rw i at bx)

    fit_old : FitRecord (node q v)
    fit_old = (rw isq at (I.rest.fit q)).1

    fit_v : (e : Bool) → FitPointer (half v e)
    fit_v = fit_halves q v fit_old

    fit_new : FitPointer (present x 0 false)
    fit_new = (path_fits r fr, omega arith)

    -- the node above, pointing at it
    fit_q : FitRecord (node q v')
    fit_q = fit_half q v (left_of (path_of r) q) (present (path_of r) 0 false) fit_old.0 fit_v fit_new

    inserted : (n : Record) → path_of n ≡ x → FitRecord n →
        ((k : List ℕ) → key_path k ≡ x → ValueOf (value_after bs k) k n) →
        ((y : Path) → in_use (form (W y)) ≡ true → below y q ≡ true → left_of y q ≡ left_of x q → below y x ≡ true) →
        ((e : Bool) → forks (form (spot n (at t true))) ≡ true → Cover (λ z. form (W z)) x e (arm (form (spot n (at t true))) e)) →
        ((d : Bool) (p : Path) (h : ℕ) (b : Bool) → side_of (spot n (at t true)) d ≡ present p h b → Ptr H (t ∷ []) h b (kind (W p))) →
        W x ≡ unused →
        (gs : ℕ → List Stored) → gs t ≡ record { rec = n; by_merkle = true } ∷ updated (node q (with_child v (side x q) (present x 0 false))) c.store →
        ((u : ℕ) → (u ≡ t → ⊥) → gs u ≡ hs u) → Inv gs H bs P
    unfolding path_of
    inserted n pn fn val between new news nil gs g others = record { world = V; tree = trees; rest = rests }
      where
        s : Spot
        s = spot (node q v') (at t bt)

        V : World
        V = upd (upd W q s) x (spot n (at t true))

        l : List Stored
        l = updated (node q v') (hs t)

        ms : ℕ → List Stored
        ms = setn hs t l

        same_list : updated (node q (with_child v (side x q) (present x 0 false))) c.store ≡ l
        same_list = ap₂ (λ a b. updated (node q a) b) (with_child_half v (side x q) (present x 0 false)) isc

        off_list : (u : ℕ) → (u ≡ t → ⊥) → ms u ≡ hs u
        off_list u m = picks_not (eqb u t) l (hs u) (ne_eqb u t m)

        trees : Tree H V
        trees =
            insert_tree H W V t q x v bt n I.tree bx isq between new news
            (upd_at (upd W q s) x (spot n (at t true)) x refl)
            (upd_off (upd W q s) x (spot n (at t true)) q (λ i. x≢q (sym i)) ∙ upd_at W q s q refl)
            (λ z m k. upd_off (upd W q s) x (spot n (at t true)) z m ∙ upd_off W q s z k)

        middle : Placed ms bs P (upd W q s)
        middle =
            placed_updated hs ms bs P W t I.rest off_list bs q (node q v) (node q v') bt isq refl (setn_at hs t l) fit_q (λ k i. tt) (λ k m. refl)

        rests : Placed gs bs P V
        rests =
            placed_added ms gs bs P (upd W q s) t middle (λ u m. others u m ∙ sym (off_list u m)) P x n true
            (λ u. ap (seen_by u) (upd_off W q s x x≢q ∙ nil)) pn
            (g ∙ ap (λ a. record { rec = n; by_merkle = true } ∷ a) (same_list ∙ sym (setn_at hs t l))) fn val
            away
          where
            away : (e : Element) → P e → P e × (path_of e.rec ≡ x → ⊥)
            away e p = (p, λ i. no i (I.rest.pend e p))
              where
                no : path_of e.rec ≡ x → W (path_of e.rec) ≡ spot e.rec (away_blum e.timestamp e.verifier) → ⊥
                no i f =
                    let k : unused ≡ spot e.rec (away_blum e.timestamp e.verifier) = sym nil ∙ (ap W (sym i) ∙ f) in
                    let z : ◌≡◌ {A = ℕ} 0 1 = cc k in omega arith

    unfree : (y : Path) → (in_use (form (W y)) ≡ true → ⊥) → W y ≡ unused
    unfree y n = go (W y) n
      where
        go : (s : Spot) → (in_use (form s) ≡ true → ⊥) → s ≡ unused
        go unused m = refl
        go (spot (data_record j u) w) m = absurd (m refl)
        go (spot (node p u) w) m = absurd (m refl)

    forks_q : forks (form (W q)) ≡ true
    forks_q = rw isq refl

    side_q : (d : Bool) → side_of (W q) d ≡ half v d
    side_q d = ap (λ s. side_of s d) isq

    value_free : W x ≡ unused → (k : List ℕ) → key_path k ≡ x → value_after bs k ≡ None
    value_free n k i = rw (i, n) at (I.rest.value k)

    -- nothing was below: a new child
    case_a : half v (left_of x q) ≡ absent → is_initial r ≡ true → (gs : ℕ → List Stored) →
        gs t ≡ record { rec = r; by_merkle = true } ∷ updated (node q (with_child v (side x q) (present x 0 false))) c.store →
        ((u : ℕ) → (u ≡ t → ⊥) → gs u ≡ hs u) → Inv gs H bs P
    case_a e f =
        inserted r refl (fr) (λ k i. initial_value r (value_after bs k) k f (value_free nil k i)) (λ y u b s. absurd (none y u b s)) new
        (λ d p h b g. let z : absent ≡ present p h b = sym (initial_side r (at t true) d f) ∙ g in let y : ◌≡◌ {A = ℕ} 0 1 = cc z in absurd (omega arith)) nil
      where
        none : (y : Path) → in_use (form (W y)) ≡ true → below y q ≡ true → left_of y q ≡ left_of x q → ⊥
        none = (unknown H W I.tree q (left_of x q) forks_q (side_q (left_of x q) ∙ e)).all

        nil : W x ≡ unused
        nil = unfree x (λ u. none x u bx refl)

        new : (d : Bool) → forks (form (spot r (at t true))) ≡ true → Cover (λ z. form (W z)) x d (arm (form (spot r (at t true))) d)
        new d u =
            rw (arm_form (spot r (at t true)) d ∙ ap targets (initial_side r (at t true) d f))
            (record { head = tt; all = λ y i b s. none y i (below_trans y x q b bx) (left_through y x q b bx) })

    -- something was below: a new node over it
    case_c : (p : Path) (h : ℕ) (b : Bool) → half v (left_of x q) ≡ present p h b → is_initial r ≡ true → is_data r ≡ false → below p x ≡ true → (gs : ℕ → List Stored) →
        gs t ≡ record { rec = node x (with_child (children_of r) (side p x) (present p h b)); by_merkle = true } ∷ updated (node q (with_child v (side x q) (present x 0 false))) c.store →
        ((u : ℕ) → (u ≡ t → ⊥) → gs u ≡ hs u) → Inv gs H bs P
    unfolding path_of children_of
    case_c p h b e f k bp gs g others =
        inserted n refl fits (λ j i. tt) between new news nil gs
        (g ∙ ap (λ a. record { rec = node x a; by_merkle = true } ∷ updated (node q (with_child v (side x q) (present x 0 false))) c.store) (with_child_half (children_of r) (side p x) (present p h b)))
        others
      where
        n : Record
        n = node x (with_half (children_of r) (left_of p x) (present p h b))

        cov : Cover (λ z. form (W z)) q (left_of x q) (p ∷ [])
        cov = known H W I.tree q (left_of x q) p h b (side_q (left_of x q) ∙ e)

        under_p : (y : Path) → (y ≡ p) ⊎ (below y p ≡ true) → below y x ≡ true
        under_p y (inl i) = rw i bp
        under_p y (inr j) = below_trans y p x j bp

        between : (y : Path) → in_use (form (W y)) ≡ true → below y q ≡ true → left_of y q ≡ left_of x q → below y x ≡ true
        between y u i s = under_p y (cov.all y u i s)

        nil : W x ≡ unused
        nil = unfree x (λ u. below_self x (between x u bx refl))

        sides : (d : Bool) → half (children_of r) d ≡ absent
        sides d = initial_half r d f

        fits : FitRecord n
        fits = fit_half x (children_of r) (left_of p x) (present p h b) (path_fits r fr) (λ d. rw (sides d) tt) (rw e at (fit_v (left_of x q)))

        new : (d : Bool) → forks (form (spot n (at t true))) ≡ true → Cover (λ z. form (W z)) x d (arm (form (spot n (at t true))) d)
        new d u = go (same_side d (left_of p x))
          where
            all_here : (y : Path) → in_use (form (W y)) ≡ true → below y x ≡ true → (y ≡ p) ⊎ (below y p ≡ true)
            all_here y i j = cov.all y i (below_trans y x q j bx) (left_through y x q j bx)

            go : (d ≡ left_of p x) ⊎ (d ≡ left_of p x → ⊥) → Cover (λ z. form (W z)) x d (arm (form (spot n (at t true))) d)
            go (inl i) =
                rw (arm_form (spot n (at t true)) d ∙ ap targets (ap (half (with_half (children_of r) (left_of p x) (present p h b))) i ∙ half_same (children_of r) (left_of p x) (present p h b)))
                (record { head = (cov.head.0, bp, sym i); all = λ y j l s. all_here y j l })
            go (inr m) =
                rw (arm_form (spot n (at t true)) d ∙ ap targets (half_other (children_of r) (left_of p x) d (present p h b) m ∙ sides d))
                (record { head = tt; all = λ y j l s. absurd (off y (all_here y j l) s) })
              where
                off : (y : Path) → (y ≡ p) ⊎ (below y p ≡ true) → left_of y x ≡ d → ⊥
                off y (inl j) s = m (sym s ∙ ap (λ a. left_of a x) j)
                off y (inr j) s = m (sym s ∙ left_through y p x j bp)

        news : (d : Bool) (o : Path) (g' : ℕ) (a : Bool) → side_of (spot n (at t true)) d ≡ present o g' a → Ptr H (t ∷ []) g' a (kind (W o))
        news d o g' a j = go (same_side d (left_of p x))
          where
            go : (d ≡ left_of p x) ⊎ (d ≡ left_of p x → ⊥) → Ptr H (t ∷ []) g' a (kind (W o))
            go (inl i) = rw (told_o, told_g, told_a) (rw isq at (I.tree.ptr q (left_of x q) p h b (side_q (left_of x q) ∙ e)))
              where
                same : present p h b ≡ present o g' a
                same = sym (half_same (children_of r) (left_of p x) (present p h b)) ∙ (ap (half (with_half (children_of r) (left_of p x) (present p h b))) (sym i) ∙ j)

                told_o : o ≡ p
                told_o = cc same

                told_g : g' ≡ h
                told_g = cc same

                told_a : a ≡ b
                told_a = cc same
            go (inr m) = absurd (never o g' a (sym (half_other (children_of r) (left_of p x) d (present p h b) m ∙ sides d) ∙ j))

    -- the same child: what was evicted by Merkle comes back
    case_b : half v (left_of x q) ≡ present x (merkle_hash r) false → (gs : ℕ → List Stored) → gs t ≡ record { rec = r; by_merkle = true } ∷ c.store →
        ((u : ℕ) → (u ≡ t → ⊥) → gs u ≡ hs u) → Collide (r ∷ H) ⊎ Inv gs (r ∷ H) bs P
    case_b e gs g others = by_kind (W x) refl
      where
        known_x : side_of (W q) (left_of x q) ≡ present x (merkle_hash r) false
        known_x = side_q (left_of x q) ∙ e

        pointer : Ptr H (t ∷ []) (merkle_hash r) false (kind (W x))
        pointer = rw isq at (I.tree.ptr q (left_of x q) x (merkle_hash r) false known_x)

        nowhere : seen_by t (W x) ≡ []
        nowhere = sym (I.rest.link t x) ∙ gone

        -- it has what it had when it was evicted
        same_rec : (a : Record) → W x ≡ spot a away_merkle → r ≡ a → Inv gs (r ∷ H) bs P
        same_rec a w s = record { world = upd W x (spot r (at t true)); tree = trees; rest = rests }
          where
            isx : W x ≡ spot r away_merkle
            isx = w ∙ ap (λ y. spot y away_merkle) (sym s)

            trees : Tree (r ∷ H) (upd W x (spot r (at t true)))
            trees =
                move H (r ∷ H) W x r away_merkle (at t true) I.tree isx (ptr_more H r)
                (λ d y f a' n l m. ptr_more H r (t ∷ []) f a' (kind (W y)) (ptr_loc H (t ∷ []) f a' (kind (W y)) m))
                into
              where
                into : (z : Path) (d : Bool) (f : ℕ) (a' : Bool) → side_of (W z) d ≡ present x f a' → Ptr H (loc (W z)) f a' (merkle_away r) → Ptr (r ∷ H) (loc (W z)) f a' (merkle_at t)
                into z d f a' l m = (m.0, ap (λ y. loc (W y)) (lone H W I.tree q z x (left_of x q) d (merkle_hash r) f false a' known_x l).0 ∙ ap loc isq)

            rests : Placed gs bs P (upd W x (spot r (at t true)))
            rests =
                placed_added hs gs bs P W t I.rest others P x r true (λ u. ap (seen_by u) isx) refl (g ∙ ap (λ y. record { rec = r; by_merkle = true } ∷ y) isc) fr
                (λ l m. rw (m, isx) at (I.rest.value l)) away
              where
                away : (y : Element) → P y → P y × (path_of y.rec ≡ x → ⊥)
                away y f = (f, λ l. no l (I.rest.pend y f))
                  where
                    no : path_of y.rec ≡ x → W (path_of y.rec) ≡ spot y.rec (away_blum y.timestamp y.verifier) → ⊥
                    no l m =
                        let o : spot r away_merkle ≡ spot y.rec (away_blum y.timestamp y.verifier) = sym isx ∙ (ap W (sym l) ∙ m) in
                        let z : ◌≡◌ {A = ℕ} 0 1 = cc o in omega arith

        by_kind : (s : Spot) → W x ≡ s → Collide (r ∷ H) ⊎ Inv gs (r ∷ H) bs P
        by_kind unused w = absurd (rw w at pointer)
        by_kind (spot a (at u true)) w = let same-u : u ≡ t = cc here_too.1 in absurd (never_here same-u)
          where
            here_too : (false ≡ false) × (t ∷ [] ≡ u ∷ [])
            here_too = rw w at pointer

            never_here : u ≡ t → ⊥
            never_here l =
                let m : ◌≡◌ {A = List Stored} (record { rec = a; by_merkle = true } ∷ []) [] = sym (seen_here t a true) ∙ (ap (λ y. seen_by t (spot a (at y true))) (sym l) ∙ (ap (seen_by t) (sym w) ∙ nowhere)) in
                let z : ◌≡◌ {A = ℕ} 0 1 = cc m in omega arith
        by_kind (spot a (at u false)) w = absurd (false≢true (rw w at pointer))
        by_kind (spot a (away_blum m l)) w = absurd (false≢true (rw w at pointer))
        by_kind (spot a away_merkle) w = by_bytes (same_bytes (merkle_bytes r) (merkle_bytes a)) refl
          where
            was : (false ≡ false) × (merkle_hash r ≡ merkle_hash a) × Member a H
            was = rw w at pointer

            fits : (path_of a ≡ x) × FitRecord a
            fits = rw w at (I.rest.fit x)

            by_told : (r ≡ a) ⊎ KeysDiffer r a → Collide (r ∷ H) ⊎ Inv gs (r ∷ H) bs P
            by_told (inl l) = inr (same_rec a w l)
            by_told (inr d) =
                let k = d.2 in
                let e = k.2 in
                inl (inr (d.0, d.1, (k.0, k.1, (inl (sym e.0), inr (subst (λ z. Member z H) e.1 was.2), e.2, e.3))))

            by_bytes : (z : Bool) → same_bytes (merkle_bytes r) (merkle_bytes a) ≡ z → Collide (r ∷ H) ⊎ Inv gs (r ∷ H) bs P
            by_bytes true l = by_told (merkle_tells r a [] [] fr fits.1 (sym fits.0) (ap (λ b. b ++ []) (same_is (merkle_bytes r) (merkle_bytes a) l))).0
            by_bytes false l = inl (inl (r, a, (inl refl, inr was.2, l, was.1)))

  -- the three ways
  module _ (r : Record) (q : Path) (y : Stored) (a : Above c (path_of r) q y) (gone : find (path_of r) c.store ≡ []) where
    abbrev isq : W q ≡ spot (node q (children_of y.rec)) (at t y.by_merkle)
    isq = found_above hs H bs P t c I isc (path_of r) q y a

    gone_t : find (path_of r) (hs t) ≡ []
    gone_t = ap (find (path_of r)) (sym isc) ∙ gone

    half_is : (s : Pointer) → pointer_to (path_of r) q y ≡ s → half (children_of y.rec) (left_of (path_of r) q) ≡ s
    half_is s e = sym (child_on_half (children_of y.rec) (side (path_of r) q)) ∙ e

    pub keeps_new_child : pointer_to (path_of r) q y ≡ absent → is_initial r ≡ true → Keeps hs H bs P t (add_merkle r q) (goes_to (with_new_child c r q y r))
    unfolding pick entry_code get_right
    keeps_new_child e f fr gs g others m = inr (keep gs H bs P (case_a r q (children_of y.rec) y.by_merkle fr isq a.under gone_t (half_is absent e) f gs g others), refl)

    pub keeps_same_child : pointer_to (path_of r) q y ≡ present (path_of r) (merkle_hash r) false → Keeps hs H bs P t (add_merkle r q) (goes (with_record c r true) [] [] (r ∷ []))
    unfolding pick entry_code get_right
    keeps_same_child e fr gs g others m = go (case_b r q (children_of y.rec) y.by_merkle fr isq a.under gone_t (half_is _ e) gs g others)
      where
        go : Collide (r ∷ H) ⊎ Inv gs (r ∷ H) bs P → Collide (r ∷ H) ⊎ (Inv gs (r ∷ H) bs (Then P [] []) × (get_right (add_merkle r q) bs ≡ true))
        go (inl x) = inl x
        go (inr J) = inr (keep gs (r ∷ H) bs P J, refl)

    pub keeps_new_node : (p : Path) (h : ℕ) (b : Bool) → pointer_to (path_of r) q y ≡ present p h b → is_initial r ≡ true → is_data r ≡ false → below p (path_of r) ≡ true →
        Keeps hs H bs P t (add_merkle r q) (goes_to (with_new_child c r q y (node_over r p h b)))
    unfolding pick entry_code get_right
    keeps_new_node p h b e f k l fr gs g others m =
        inr (keep gs H bs P (case_c r q (children_of y.rec) y.by_merkle fr isq a.under gone_t p h b (half_is (present p h b) e) f k l gs g others), refl)

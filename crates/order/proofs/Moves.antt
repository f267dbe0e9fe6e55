-- A record moves, from a store or away to another place, and the tree stays as it should be.
use Rattle.std.proofs.Common.{◌≡◌, ℕ, Bool, true, false, ◌⊎◌, List, [], ◌∷◌, sym, refl, ap, ◌∙◌, ap₂, inl, inr, arith}
use Rattle.std.proofs.lemmas.Bool.{true≢false}
use Rattle.model.specs.Records.{Path, node, present, Children, Record, data_record}
use Rattle.model.specs.Verifier.{found_by_merkle}
use Rattle.order.proofs.Paths.{same_or}
use Rattle.order.proofs.Shape.{forks, arm, upd, upd_at, upd_off, one_points, same_side}
use Rattle.order.proofs.World.{Where, at, away_merkle, away_blum, Spot, unused, spot, World, Kind, no_kind, by_blum, merkle_at, merkle_away, kind_at, kind, loc_at, loc, Ptr, Tree, targets, form, half, with_half, side_of, arm_form, points_forks, not_self, repoint, half_same, half_other, form_with, form_where}
use Rattle.order.proofs.Placed.{seen_by, seen_here}

-- facts of a pointer that don't need its owner
pub ptr_loc : (H : List Record) (l : List ℕ) (h : ℕ) (b : Bool) (k : Kind) → Ptr H [] h b k → Ptr H l h b k
ptr_loc H l h b no_kind p = p
ptr_loc H l h b by_blum p = p
ptr_loc H l h b (merkle_at t) p = let e : [] ≡ t ∷ [] = p.1 in let z : ◌≡◌ {A = ℕ} 0 1 = cc in absurd (omega arith)
ptr_loc H l h b (merkle_away r) p = p

pub side_where : (r : Record) (w v : Where) (d : Bool) → side_of (spot r w) d ≡ side_of (spot r v) d
side_where (data_record k u) w v d = refl
side_where (node p u) w v d = refl

module _ (H G : List Record) (W : World) (p : Path) (r : Record) (w v : Where) (T : Tree H W) (isp : W p ≡ spot r w)
    (more : (l : List ℕ) (h : ℕ) (b : Bool) (k : Kind) → Ptr H l h b k → Ptr G l h b k)
    (out : (d : Bool) (c : Path) (h : ℕ) (b : Bool) → (c ≡ p → ⊥) → side_of (W p) d ≡ present c h b → Ptr H (loc_at w) h b (kind (W c)) → Ptr G (loc_at v) h b (kind (W c))) where
  -- no pointer at it changes
  pub move : ((z : Path) (d : Bool) (h : ℕ) (b : Bool) → side_of (W z) d ≡ present p h b → Ptr H (loc (W z)) h b (kind_at r w) → Ptr G (loc (W z)) h b (kind_at r v)) →
      Tree G (upd W p (spot r v))
  move into = repoint H G W V p T more same off come leave (λ z d c h b m n e. sym (sides z d) ∙ e)
    where
      V : World
      V = upd W p (spot r v)

      sides : (z : Path) (d : Bool) → side_of (V z) d ≡ side_of (W z) d
      sides z d = go (same_or z p)
        where
          go : (z ≡ p) ⊎ (z ≡ p → ⊥) → side_of (V z) d ≡ side_of (W z) d
          go (inl i) = ap (λ s. side_of s d) (upd_at W p (spot r v) z i) ∙ (side_where r v w d ∙ ap (λ s. side_of s d) (sym isp ∙ ap W (sym i)))
          go (inr n) = ap (λ s. side_of s d) (upd_off W p (spot r v) z n)

      same : (z : Path) → form (V z) ≡ form (W z)
      same z = go (same_or z p)
        where
          go : (z ≡ p) ⊎ (z ≡ p → ⊥) → form (V z) ≡ form (W z)
          go (inl i) = ap form (upd_at W p (spot r v) z i) ∙ (form_where r v w ∙ ap form (sym isp ∙ ap W (sym i)))
          go (inr n) = ap form (upd_off W p (spot r v) z n)

      off : (z : Path) → (z ≡ p → ⊥) → (kind (V z) ≡ kind (W z)) × (loc (V z) ≡ loc (W z))
      off z n = (ap kind (upd_off W p (spot r v) z n), ap loc (upd_off W p (spot r v) z n))

      come : (z : Path) (d : Bool) (h : ℕ) (b : Bool) → side_of (V z) d ≡ present p h b → Ptr G (loc (V z)) h b (kind (V p))
      come z d h b e =
          rw ((off z apart).1, upd_at W p (spot r v) p refl) (into z d h b f (rw isp at (T.ptr z d p h b f)))
        where
          f : side_of (W z) d ≡ present p h b
          f = sym (sides z d) ∙ e

          apart : z ≡ p → ⊥
          apart i = not_self H W T z d p h b f (sym i)

      leave : (d : Bool) (c : Path) (h : ℕ) (b : Bool) → (c ≡ p → ⊥) → side_of (V p) d ≡ present c h b → Ptr G (loc (V p)) h b (kind (V c))
      leave d c h b n e =
          rw ((off c n).0, upd_at W p (spot r v) p refl) (out d c h b n f (rw isp at (T.ptr p d c h b f)))
        where
          f : side_of (W p) d ≡ present c h b
          f = sym (sides p d) ∙ e

  -- the pointer at it is written anew
  pub move_under : (q : Path) (t : ℕ) (u : Children) (d : Bool) (bt : Bool) (g h : ℕ) (a b : Bool) → W q ≡ spot (node q u) (at t bt) → half u d ≡ present p g a →
      Ptr G (t ∷ []) h b (kind_at r v) →
      Tree G (upd (upd W q (spot (node q (with_half u d (present p h b))) (at t bt))) p (spot r v))
  move_under q t u d bt g h a b isq points new = repoint H G W V p T more same off come leave rest
    where
      s : Spot
      s = spot (node q (with_half u d (present p h b))) (at t bt)

      V : World
      V = upd (upd W q s) p (spot r v)

      earlier : side_of (W q) d ≡ present p g a
      earlier = ap (λ x. side_of x d) isq ∙ points

      p≢q : p ≡ q → ⊥
      p≢q = not_self H W T q d p g a earlier

      at_p : V p ≡ spot r v
      at_p = upd_at (upd W q s) p (spot r v) p refl

      at_q : V q ≡ s
      at_q = upd_off (upd W q s) p (spot r v) q (λ i. p≢q (sym i)) ∙ upd_at W q s q refl

      at_z : (z : Path) → (z ≡ p → ⊥) → (z ≡ q → ⊥) → V z ≡ W z
      at_z z n m = upd_off (upd W q s) p (spot r v) z n ∙ upd_off W q s z m

      same : (z : Path) → form (V z) ≡ form (W z)
      same z = go (same_or z p) (same_or z q)
        where
          go : (z ≡ p) ⊎ (z ≡ p → ⊥) → (z ≡ q) ⊎ (z ≡ q → ⊥) → form (V z) ≡ form (W z)
          go (inl i) k = ap (λ x. form (V x)) i ∙ (ap form at_p ∙ (form_where r v w ∙ ap form (sym isp ∙ ap W (sym i))))
          go (inr n) (inl i) = ap (λ x. form (V x)) i ∙ (ap form at_q ∙ (form_with q u d (present p h b) (at t bt) (ap targets points) ∙ ap form (sym isq ∙ ap W (sym i))))
          go (inr n) (inr m) = ap form (at_z z n m)

      off : (z : Path) → (z ≡ p → ⊥) → (kind (V z) ≡ kind (W z)) × (loc (V z) ≡ loc (W z))
      off z n = go (same_or z q)
        where
          alike : (c : Bool) (x y : Record) → kind_at x (at t c) ≡ kind_at y (at t c)
          alike true x y = refl
          alike false x y = refl

          go : (z ≡ q) ⊎ (z ≡ q → ⊥) → (kind (V z) ≡ kind (W z)) × (loc (V z) ≡ loc (W z))
          go (inl i) = (rw (i, at_q, isq) (alike bt (node q (with_half u d (present p h b))) (node q u)), rw (i, at_q, isq) refl)
          go (inr m) = (ap kind (at_z z n m), ap loc (at_z z n m))

      come : (z : Path) (e : Bool) (i : ℕ) (c : Bool) → side_of (V z) e ≡ present p i c → Ptr G (loc (V z)) i c (kind (V p))
      come z e i c f = rw (which.0, at_q, at_p, now.0, now.1) new
        where
          which : (z ≡ q) × (e ≡ d)
          which =
              one_points (λ x. form (W x)) T.shape q z p d e [] [] (points_forks (W q) d p g a earlier) (sym (ap forks (same z)) ∙ points_forks (V z) e p i c f)
              (arm_form (W q) d ∙ ap targets earlier) (sym (ap (λ x. arm x e) (same z)) ∙ (arm_form (V z) e ∙ ap targets f))

          records_agree : present p h b ≡ present p i c
          records_agree =
              sym (half_same u d (present p h b)) ∙ (ap (λ x. side_of x d) (sym at_q) ∙ (ap₂ (λ x y. side_of (V x) y) (sym which.0) (sym which.1) ∙ f))

          now : (i ≡ h) × (c ≡ b)
          now = let j : i ≡ h = cc records_agree in let k : c ≡ b = cc records_agree in (j, k)

      leave : (e : Bool) (c : Path) (i : ℕ) (x : Bool) → (c ≡ p → ⊥) → side_of (V p) e ≡ present c i x → Ptr G (loc (V p)) i x (kind (V c))
      leave e c i x n f = rw ((off c n).0, at_p) (out e c i x n k (rw isp at (T.ptr p e c i x k)))
        where
          k : side_of (W p) e ≡ present c i x
          k = ap (λ y. side_of y e) isp ∙ (side_where r w v e ∙ (ap (λ y. side_of y e) (sym at_p) ∙ f))

      rest : (z : Path) (e : Bool) (c : Path) (i : ℕ) (x : Bool) → (z ≡ p → ⊥) → (c ≡ p → ⊥) → side_of (V z) e ≡ present c i x → side_of (W z) e ≡ present c i x
      rest z e c i x n m f = go (same_or z q) (same_side e d)
        where
          go : (z ≡ q) ⊎ (z ≡ q → ⊥) → (e ≡ d) ⊎ (e ≡ d → ⊥) → side_of (W z) e ≡ present c i x
          go (inl j) (inl k) = absurd (m o)
            where
              records_agree : present p h b ≡ present c i x
              records_agree = sym (half_same u d (present p h b)) ∙ (ap (λ y. side_of y d) (sym at_q) ∙ (ap₂ (λ y l. side_of (V y) l) (sym j) (sym k) ∙ f))

              o : c ≡ p
              o = cc records_agree
          go (inl j) (inr k) =
              ap (λ y. side_of (W y) e) j ∙ (ap (λ y. side_of y e) isq ∙ (sym (half_other u d e (present p h b) k) ∙ (ap (λ y. side_of y e) (sym at_q) ∙ (ap (λ y. side_of (V y) e) (sym j) ∙ f))))
          go (inr k) l = ap (λ y. side_of y e) (sym (at_z z n k)) ∙ f

-- what a node points at is not in the store by Merkle: the pointer's facts don't need its owner
pub no_child : (H : List Record) (t : ℕ) (h : ℕ) (b : Bool) (s : Spot) → Ptr H (t ∷ []) h b (kind s) → found_by_merkle (seen_by t s) ≡ false → Ptr H [] h b (kind s)
unfolding found_by_merkle
no_child H t h b unused p e = p
no_child H t h b (spot r (at u true)) p e =
    let i : t ∷ [] ≡ u ∷ [] = p.1 in
    let j : t ≡ u = cc in
    let k : found_by_merkle (seen_by t (spot r (at t true))) ≡ false = rw (← j) at e in
    absurd (true≢false (sym (ap found_by_merkle (seen_here t r true)) ∙ k))
no_child H t h b (spot r (at u false)) p e = p
no_child H t h b (spot r away_merkle) p e = p
no_child H t h b (spot r (away_blum m j)) p e = p

-- The world: the record at each path that is in use, where it is, and what the node above points at it with.
use Rattle.std.proofs.Common.{◌≡◌, ℕ, Bool, true, false, eqb, ◌⊎◌, List, [], ◌∷◌, sym, refl, ap, ◌∙◌, subst, inl, inr}
use Rattle.std.proofs.lemmas.Bool.{false≢true}
use Rattle.model.specs.Records.{pick, Path, below, node, Pointer, absent, present, Children, child_on, with_child, Record, data_record, merkle_bytes, hash_of}
use Rattle.model.specs.Verifier.{Timestamp}
use Rattle.model.specs.Order.{Member}
use Rattle.order.proofs.Paths.{same_or, below_self, left_of}
use Rattle.order.proofs.Shape.{Form, free, leaf, fork, in_use, forks, arm, with_arm, Cover, Shape, shape_same, same_side, insert, one_points}

pub data Where : Type 0 where
  at : ℕ → Bool → Where  -- in a verifier's store, added by Merkle or by Blum
  away_merkle : Where
  away_blum : Timestamp → ℕ → Where

pub data Spot : Type 0 where
  unused : Spot
  spot : Record → Where → Spot

abbrev pub World : Type 0
World = Path → Spot

abbrev pub targets : Pointer → List Path
targets absent = []
targets (present p h b) = p ∷ []

abbrev pub form : Spot → Form
form unused = free
form (spot (data_record k v) w) = leaf
form (spot (node p t) w) = fork (targets t.left) (targets t.right)

abbrev pub half : Children → Bool → Pointer
half t true = t.left
half t false = t.right

abbrev pub with_half : Children → Bool → Pointer → Children
with_half t true s = record { left = s; right = t.right }
with_half t false s = record { left = t.left; right = s }

abbrev pub side_of : Spot → Bool → Pointer
side_of unused d = absent
side_of (spot (data_record k v) w) d = absent
side_of (spot (node p t) w) d = half t d

-- how a path in use is pointed at
pub data Kind : Type 0 where
  no_kind : Kind
  by_blum : Kind
  merkle_at : ℕ → Kind
  merkle_away : Record → Kind

abbrev pub kind_at : Record → Where → Kind
kind_at r (at t true) = merkle_at t
kind_at r (at t false) = by_blum
kind_at r away_merkle = merkle_away r
kind_at r (away_blum m j) = by_blum

abbrev pub kind : Spot → Kind
kind unused = no_kind
kind (spot r w) = kind_at r w

abbrev pub loc_at : Where → List ℕ
loc_at (at t b) = t ∷ []
loc_at away_merkle = []
loc_at (away_blum m j) = []

abbrev pub loc : Spot → List ℕ
loc unused = []
loc (spot r w) = loc_at w

abbrev pub Ptr : List Record → List ℕ → ℕ → Bool → Kind → Type 0
Ptr H l h b no_kind = ⊥
Ptr H l h b by_blum = b ≡ true
Ptr H l h b (merkle_at t) = (b ≡ false) × (l ≡ t ∷ [])
Ptr H l h b (merkle_away r) = (b ≡ false) × (h ≡ hash_of (merkle_bytes r)) × Member r H

pub record Tree (H : List Record) (W : World) : Type 0 where
  pub shape : Shape (λ z. form (W z))
  pub ptr : (q : Path) (d : Bool) (p : Path) (h : ℕ) (b : Bool) → side_of (W q) d ≡ present p h b → Ptr H (loc (W q)) h b (kind (W p))

pub arm_form : (s : Spot) (d : Bool) → arm (form s) d ≡ targets (side_of s d)
arm_form unused d = refl
arm_form (spot (data_record k v) w) d = refl
arm_form (spot (node p t) w) true = refl
arm_form (spot (node p t) w) false = refl

pub points_forks : (s : Spot) (d : Bool) (p : Path) (h : ℕ) (b : Bool) → side_of s d ≡ present p h b → forks (form s) ≡ true
points_forks unused d p h b e = cc
points_forks (spot (data_record k v) w) d p h b e = cc
points_forks (spot (node q t) w) d p h b e = refl

pub kind_use : (s : Spot) → (kind s ≡ no_kind → ⊥) → in_use (form s) ≡ true
kind_use unused n = absurd (n refl)
kind_use (spot (data_record k v) w) n = refl
kind_use (spot (node p t) w) n = refl

pub use_kind : (s : Spot) → in_use (form s) ≡ true → s ≡ unused → ⊥
use_kind s u e = false≢true (rw e at u)

-- a new pointer's facts outlive what is hashed later
pub ptr_more : (H : List Record) (r : Record) (l : List ℕ) (h : ℕ) (b : Bool) (k : Kind) → Ptr H l h b k → Ptr (r ∷ H) l h b k
ptr_more H r l h b no_kind p = p
ptr_more H r l h b by_blum p = p
ptr_more H r l h b (merkle_at t) p = p
ptr_more H r l h b (merkle_away s) p = (p.0, p.1, inr p.2)

pub tree_more : (H : List Record) (r : Record) (W : World) → Tree H W → Tree (r ∷ H) W
tree_more H r W T = record { shape = T.shape; ptr = λ q d p h b e. ptr_more H r (loc (W q)) h b (kind (W p)) (T.ptr q d p h b e) }

module _ (H : List Record) (W : World) (T : Tree H W) where
  -- of what a node points at
  pub known : (q : Path) (d : Bool) (p : Path) (h : ℕ) (b : Bool) → side_of (W q) d ≡ present p h b → Cover (λ z. form (W z)) q d (p ∷ [])
  known q d p h b e = rw (arm_form (W q) d ∙ ap targets e) at (T.shape q d (points_forks (W q) d p h b e))

  pub unknown : (q : Path) (d : Bool) → forks (form (W q)) ≡ true → side_of (W q) d ≡ absent → Cover (λ z. form (W z)) q d []
  unknown q d u e = rw (arm_form (W q) d ∙ ap targets e) at (T.shape q d u)

  pub lone : (q z p : Path) (d e : Bool) (h i : ℕ) (b c : Bool) → side_of (W q) d ≡ present p h b → side_of (W z) e ≡ present p i c → (z ≡ q) × (e ≡ d)
  lone q z p d e h i b c x y =
      one_points (λ v. form (W v)) T.shape q z p d e [] [] (points_forks (W q) d p h b x) (points_forks (W z) e p i c y)
      (arm_form (W q) d ∙ ap targets x) (arm_form (W z) e ∙ ap targets y)

  -- what is pointed at is elsewhere
  pub not_self : (q : Path) (d : Bool) (p : Path) (h : ℕ) (b : Bool) → side_of (W q) d ≡ present p h b → p ≡ q → ⊥
  not_self q d p h b e i = below_self p (rw (← i) at (known q d p h b e).head.1)

-- a record moves, and the pointer at it may be written anew; nothing else changes
pub repoint : (H G : List Record) (W V : World) (p : Path) → Tree H W →
    ((l : List ℕ) (h : ℕ) (b : Bool) (k : Kind) → Ptr H l h b k → Ptr G l h b k) →
    ((z : Path) → form (V z) ≡ form (W z)) →
    ((z : Path) → (z ≡ p → ⊥) → (kind (V z) ≡ kind (W z)) × (loc (V z) ≡ loc (W z))) →
    ((z : Path) (d : Bool) (h : ℕ) (b : Bool) → side_of (V z) d ≡ present p h b → Ptr G (loc (V z)) h b (kind (V p))) →
    ((d : Bool) (c : Path) (h : ℕ) (b : Bool) → (c ≡ p → ⊥) → side_of (V p) d ≡ present c h b → Ptr G (loc (V p)) h b (kind (V c))) →
    ((z : Path) (d : Bool) (c : Path) (h : ℕ) (b : Bool) → (z ≡ p → ⊥) → (c ≡ p → ⊥) → side_of (V z) d ≡ present c h b → side_of (W z) d ≡ present c h b) →
    Tree G V
repoint H G W V p T more same off into out rest =
    record { shape = shape_same (λ z. form (W z)) (λ z. form (V z)) same T.shape; ptr = points }
  where
    points : (q : Path) (d : Bool) (c : Path) (h : ℕ) (b : Bool) → side_of (V q) d ≡ present c h b → Ptr G (loc (V q)) h b (kind (V c))
    points q d c h b e = go (same_or c p) (same_or q p)
      where
        go : (c ≡ p) ⊎ (c ≡ p → ⊥) → (q ≡ p) ⊎ (q ≡ p → ⊥) → Ptr G (loc (V q)) h b (kind (V c))
        go (inl i) k = rw i (into q d h b (rw i at e))
        go (inr n) (inl j) = rw j (out d c h b n (rw j at e))
        go (inr n) (inr m) = rw ((off q m).1, (off c n).0) (more (loc (W q)) h b (kind (W c)) (T.ptr q d c h b (rest q d c h b m n e)))

-- child-on and with-child, by which side it is
pub child_on_half : (t : Children) (d : ℕ) → child_on t d ≡ half t (eqb d 0)
unfolding pick
child_on_half t d = go (eqb d 0)
  where
    go : (b : Bool) → pick b t.left t.right ≡ half t b
    go true = refl
    go false = refl

pub with_child_half : (t : Children) (d : ℕ) (s : Pointer) → with_child t d s ≡ with_half t (eqb d 0) s
unfolding pick
with_child_half t d s = go (eqb d 0)
  where
    go : (b : Bool) → pick b (record { left = s; right = t.right }) (record { left = t.left; right = s }) ≡ with_half t b s
    go true = refl
    go false = refl

pub half_same : (t : Children) (d : Bool) (s : Pointer) → half (with_half t d s) d ≡ s
half_same t true s = refl
half_same t false s = refl

pub half_other : (t : Children) (d e : Bool) (s : Pointer) → (e ≡ d → ⊥) → half (with_half t d s) e ≡ half t e
half_other t true true s n = absurd (n refl)
half_other t true false s n = refl
half_other t false true s n = refl
half_other t false false s n = absurd (n refl)

-- the same target
pub form_with : (q : Path) (t : Children) (d : Bool) (s : Pointer) (w : Where) → targets (half t d) ≡ targets s → form (spot (node q (with_half t d s)) w) ≡ form (spot (node q t) w)
form_with q t true s w e = rw (← e)
form_with q t false s w e = rw (← e)

pub form_where : (r : Record) (w v : Where) → form (spot r w) ≡ form (spot r v)
form_where (data_record k v) w u = refl
form_where (node p t) w u = refl

-- a path comes into use below q, in the store where q is
module _ (H : List Record) (W V : World) (t : ℕ) (q x : Path) (v : Children) (bt : Bool) (r : Record) (T : Tree H W) (bx : below x q ≡ true)
    (isq : W q ≡ spot (node q v) (at t bt))
    (between : (y : Path) → in_use (form (W y)) ≡ true → below y q ≡ true → left_of y q ≡ left_of x q → below y x ≡ true)
    (new : (e : Bool) → forks (form (spot r (at t true))) ≡ true → Cover (λ z. form (W z)) x e (arm (form (spot r (at t true))) e))
    (news : (d : Bool) (p : Path) (h : ℕ) (b : Bool) → side_of (spot r (at t true)) d ≡ present p h b → Ptr H (t ∷ []) h b (kind (W p)))
    (at_x : V x ≡ spot r (at t true)) (at_q : V q ≡ spot (node q (with_half v (left_of x q) (present x 0 false))) (at t bt))
    (at_z : (z : Path) → (z ≡ x → ⊥) → (z ≡ q → ⊥) → V z ≡ W z) where
  use_r : (s : Record) (w : Where) → in_use (form (spot s w)) ≡ true
  use_r (data_record k u) w = refl
  use_r (node p u) w = refl

  arms : (d : Bool) (w : Where) → form (spot (node q (with_half v d (present x 0 false))) w) ≡ with_arm (form (spot (node q v) w)) d (x ∷ [])
  arms true w = refl
  arms false w = refl

  shape_inserted : Shape (λ z. form (V z))
  shape_inserted =
      insert (λ z. form (W z)) (λ z. form (V z)) q x (form (spot r (at t true))) T.shape (rw isq refl) bx between new (use_r r (at t true))
      (ap form at_x) (ap form at_q ∙ (arms (left_of x q) (at t bt) ∙ ap (λ s. with_arm (form s) (left_of x q) (x ∷ [])) (sym isq)))
      (λ z n k. ap form (at_z z n k))

  x_unused : kind (W x) ≡ no_kind
  x_unused = go (W x) refl
    where
      go : (s : Spot) → W x ≡ s → kind s ≡ no_kind
      go unused e = refl
      go (spot a w) e = absurd (below_self x (between x (rw e (use_r a w)) bx refl))

  -- what was pointed at is pointed at alike
  kind_off : (z : Path) → (z ≡ x → ⊥) → (kind (V z) ≡ kind (W z)) × (loc (V z) ≡ loc (W z))
  kind_off z n = go (same_or z q)
    where
      same : (b : Bool) (a s : Record) → kind_at a (at t b) ≡ kind_at s (at t b)
      same true a s = refl
      same false a s = refl

      go : (z ≡ q) ⊎ (z ≡ q → ⊥) → (kind (V z) ≡ kind (W z)) × (loc (V z) ≡ loc (W z))
      go (inl i) = (rw (i, at_q, isq) (same bt (node q (with_half v (left_of x q) (present x 0 false))) (node q v)), rw (i, at_q, isq) refl)
      go (inr k) = (ap kind (at_z z n k), ap loc (at_z z n k))

  old : (z : Path) (d : Bool) (p : Path) (h : ℕ) (b : Bool) → (z ≡ x → ⊥) → side_of (W z) d ≡ present p h b → Ptr H (loc (V z)) h b (kind (V p))
  old z d p h b n e = go (same_or p x) (T.ptr z d p h b e)
    where
      go : (p ≡ x) ⊎ (p ≡ x → ⊥) → Ptr H (loc (W z)) h b (kind (W p)) → Ptr H (loc (V z)) h b (kind (V p))
      go (inl i) k = absurd (subst (λ a. Ptr H (loc (W z)) h b a) (ap (λ a. kind (W a)) i ∙ x_unused) k)
      go (inr m) k = rw ((kind_off z n).1, (kind_off p m).0) k

  points : (z : Path) (d : Bool) (p : Path) (h : ℕ) (b : Bool) → side_of (V z) d ≡ present p h b → Ptr H (loc (V z)) h b (kind (V p))
  points z d p h b e = go (same_or z x) (same_or z q)
    where
      from_x : side_of (spot r (at t true)) d ≡ present p h b → Ptr H (t ∷ []) h b (kind (V p))
      from_x f = moved (same_or p x) (news d p h b f)
        where
          moved : (p ≡ x) ⊎ (p ≡ x → ⊥) → Ptr H (t ∷ []) h b (kind (W p)) → Ptr H (t ∷ []) h b (kind (V p))
          moved (inl i) k = absurd (subst (λ a. Ptr H (t ∷ []) h b a) (ap (λ a. kind (W a)) i ∙ x_unused) k)
          moved (inr m) k = rw (kind_off p m).0 k

      from_q : half (with_half v (left_of x q) (present x 0 false)) d ≡ present p h b → Ptr H (loc (V q)) h b (kind (V p))
      from_q f = by (same_side d (left_of x q))
        where
          to_x : present x 0 false ≡ present p h b → Ptr H (loc (V q)) h b (kind (V p))
          to_x g =
              let i : p ≡ x = cc in
              let j : b ≡ false = cc in
              rw (i, at_x, at_q) (j, refl)

          by : (d ≡ left_of x q) ⊎ (d ≡ left_of x q → ⊥) → Ptr H (loc (V q)) h b (kind (V p))
          by (inl i) = to_x (sym (half_same v (left_of x q) (present x 0 false)) ∙ (ap (λ a. half (with_half v (left_of x q) (present x 0 false)) a) (sym i) ∙ f))
          by (inr m) = old q d p h b (λ i. below_self q (rw (← i) at bx)) (ap (λ s. side_of s d) isq ∙ (sym (half_other v (left_of x q) d (present x 0 false) m) ∙ f))

      go : (z ≡ x) ⊎ (z ≡ x → ⊥) → (z ≡ q) ⊎ (z ≡ q → ⊥) → Ptr H (loc (V z)) h b (kind (V p))
      go (inl i) k = rw (i, at_x) (from_x (rw (i, at_x) at e))
      go (inr n) (inl i) = rw i (from_q (rw (i, at_q) at e))
      go (inr n) (inr k) = old z d p h b n (rw (at_z z n k) at e)

  pub insert_tree : Tree H V
  insert_tree = record { shape = shape_inserted; ptr = points }

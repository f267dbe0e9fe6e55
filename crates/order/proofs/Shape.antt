-- The tree's shape: which paths are in use, and which node points at which, without the records.
use Rattle.std.proofs.Common.{◌≡◌, Bool, true, false, ◌⊎◌, List, [], ◌∷◌, sym, refl, ap, ◌∙◌, subst, inl, inr}
use mathlib.Core.Path.{fun_ext}
use Rattle.std.proofs.lemmas.Bool.{false≢true, true≢false}
use Rattle.model.specs.Records.{pick, same_bytes, Path, below}
use Rattle.order.proofs.Paths.{is_same, not_same, same_or, below_self, below_circle, below_trans, Way, one, under, over, ways, left_of, left_through}

-- a function changed at one path
abbrev pub upd : {A : Type 0} → (Path → A) → Path → A → Path → A
upd f p a x = pick (same_bytes x p) a (f x)

pub upd_at : {A : Type 0} (f : Path → A) (p : Path) (a : A) (x : Path) → x ≡ p → upd f p a x ≡ a
unfolding pick
upd_at f p a x e = rw (is_same x p e)

pub upd_off : {A : Type 0} (f : Path → A) (p : Path) (a : A) (x : Path) → (x ≡ p → ⊥) → upd f p a x ≡ f x
unfolding pick
upd_off f p a x e = rw (not_same x p e)

-- a path: not in use; a key's; a node's, with the next path in use on either side, none or one
pub data Form : Type 0 where
  free : Form
  leaf : Form
  fork : List Path → List Path → Form

abbrev pub in_use : Form → Bool
in_use free = false
in_use leaf = true
in_use (fork l r) = true

abbrev pub forks : Form → Bool
forks free = false
forks leaf = false
forks (fork l r) = true

-- true for the left side
abbrev pub arm : Form → Bool → List Path
arm free d = []
arm leaf d = []
arm (fork l r) true = l
arm (fork l r) false = r

abbrev pub with_arm : Form → Bool → List Path → Form
with_arm free d ps = free
with_arm leaf d ps = leaf
with_arm (fork l r) true ps = fork ps r
with_arm (fork l r) false ps = fork l ps

abbrev pub Reaches : List Path → Path → Type 0
Reaches [] y = ⊥
Reaches (p ∷ ps) y = (y ≡ p) ⊎ (below y p ≡ true)

abbrev pub Head : (Path → Form) → Path → Bool → List Path → Type 0
Head f z e [] = Unit
Head f z e (p ∷ ps) = (in_use (f p) ≡ true) × (below p z ≡ true) × (left_of p z ≡ e)

pub record Cover (f : Path → Form) (z : Path) (e : Bool) (ps : List Path) : Type 0 where
  pub head : Head f z e ps
  pub all : (y : Path) → in_use (f y) ≡ true → below y z ≡ true → left_of y z ≡ e → Reaches ps y

abbrev pub Shape : (Path → Form) → Type 0
Shape f = (z : Path) (e : Bool) → forks (f z) ≡ true → Cover f z e (arm (f z) e)

-- a path that comes into use between q and what q points at
pub forks_use : (m : Form) → forks m ≡ true → in_use m ≡ true
forks_use free e = e
forks_use leaf e = refl
forks_use (fork l r) e = refl

pub arm_same : (m : Form) (d : Bool) (ps : List Path) → forks m ≡ true → arm (with_arm m d ps) d ≡ ps
arm_same free d ps e = absurd (false≢true e)
arm_same leaf d ps e = absurd (false≢true e)
arm_same (fork l r) true ps e = refl
arm_same (fork l r) false ps e = refl

pub arm_other : (m : Form) (d e : Bool) (ps : List Path) → (e ≡ d → ⊥) → arm (with_arm m d ps) e ≡ arm m e
arm_other free d e ps n = refl
arm_other leaf d e ps n = refl
arm_other (fork l r) true true ps n = absurd (n refl)
arm_other (fork l r) true false ps n = refl
arm_other (fork l r) false true ps n = refl
arm_other (fork l r) false false ps n = absurd (n refl)

pub with_forks : (m : Form) (d : Bool) (ps : List Path) → forks (with_arm m d ps) ≡ forks m
with_forks free d ps = refl
with_forks leaf d ps = refl
with_forks (fork l r) true ps = refl
with_forks (fork l r) false ps = refl

pub with_use : (m : Form) (d : Bool) (ps : List Path) → in_use (with_arm m d ps) ≡ in_use m
with_use free d ps = refl
with_use leaf d ps = refl
with_use (fork l r) true ps = refl
with_use (fork l r) false ps = refl

pub same_side : (a b : Bool) → (a ≡ b) ⊎ (a ≡ b → ⊥)
same_side true true = inl refl
same_side true false = inr true≢false
same_side false true = inr false≢true
same_side false false = inl refl

-- what is covered stays so if only x comes into use, and x is reached
module _ (f g : Path → Form) (x : Path)
    (cut : (y : Path) → in_use (f y) ≡ true → in_use (g y) ≡ true)
    (only_x : (y : Path) → in_use (g y) ≡ true → (y ≡ x) ⊎ (in_use (f y) ≡ true)) where
  cover_more : (z : Path) (e : Bool) (ps : List Path) → Cover f z e ps → (below x z ≡ true → left_of x z ≡ e → Reaches ps x) → Cover g z e ps
  cover_more z e ps c r = record { head = heads ps c.head; all = reach }
    where
      heads : (qs : List Path) → Head f z e qs → Head g z e qs
      heads [] h = tt
      heads (p ∷ qs) h = (cut p h.0, h.1, h.2)

      reach : (y : Path) → in_use (g y) ≡ true → below y z ≡ true → left_of y z ≡ e → Reaches ps y
      reach y u b s = by (only_x y u)
        where
          by : (y ≡ x) ⊎ (in_use (f y) ≡ true) → Reaches ps y
          by (inl i) = rw i (r (rw i at b) (rw i at s))
          by (inr v) = c.all y v b s

pub shape_same : (f g : Path → Form) → ((z : Path) → g z ≡ f z) → Shape f → Shape g
shape_same f g e s = subst Shape (fun_ext (λ z. sym (e z))) s

module _ (f g : Path → Form) (q x : Path) (m : Form) (shape : Shape f) (isq : forks (f q) ≡ true) (bx : below x q ≡ true)
    (between : (y : Path) → in_use (f y) ≡ true → below y q ≡ true → left_of y q ≡ left_of x q → below y x ≡ true)
    (new : (e : Bool) → forks m ≡ true → Cover f x e (arm m e)) (used : in_use m ≡ true)
    (at_x : g x ≡ m) (at_q : g q ≡ with_arm (f q) (left_of x q) (x ∷ []))
    (at_z : (z : Path) → (z ≡ x → ⊥) → (z ≡ q → ⊥) → g z ≡ f z) where
  pub x≢q : x ≡ q → ⊥
  x≢q i = below_self q (rw i at bx)

  pub x_free : in_use (f x) ≡ true → ⊥
  x_free u = below_self x (between x u bx refl)

  cut : (y : Path) → in_use (f y) ≡ true → in_use (g y) ≡ true
  cut y u = go (same_or y x) (same_or y q)
    where
      go : (y ≡ x) ⊎ (y ≡ x → ⊥) → (y ≡ q) ⊎ (y ≡ q → ⊥) → in_use (g y) ≡ true
      go (inl i) k = rw (i, at_x) used
      go (inr n) (inl i) = rw (i, at_q, with_use) (rw i at u)
      go (inr n) (inr k) = rw (at_z y n k) u

  only_x : (y : Path) → in_use (g y) ≡ true → (y ≡ x) ⊎ (in_use (f y) ≡ true)
  only_x y u = go (same_or y x) (same_or y q)
    where
      go : (y ≡ x) ⊎ (y ≡ x → ⊥) → (y ≡ q) ⊎ (y ≡ q → ⊥) → (y ≡ x) ⊎ (in_use (f y) ≡ true)
      go (inl i) k = inl i
      go (inr n) (inl i) = inr (rw i (forks_use (f q) isq))
      go (inr n) (inr k) = inr (rw (at_z y n k) at u)

  more : (z : Path) (e : Bool) (ps : List Path) → Cover f z e ps → (below x z ≡ true → left_of x z ≡ e → Reaches ps x) → Cover g z e ps
  more = cover_more f g x cut only_x

  -- what q covers now
  at_arm : (e : Bool) → Cover g q e (arm (with_arm (f q) (left_of x q) (x ∷ [])) e)
  at_arm e = go (same_side e (left_of x q))
    where
      here : Cover g q (left_of x q) (x ∷ [])
      here = record { head = (rw at_x used, bx, refl); all = reach }
        where
          reach : (y : Path) → in_use (g y) ≡ true → below y q ≡ true → left_of y q ≡ left_of x q → Reaches (x ∷ []) y
          reach y u b s = by (only_x y u)
            where
              by : (y ≡ x) ⊎ (in_use (f y) ≡ true) → (y ≡ x) ⊎ (below y x ≡ true)
              by (inl i) = inl i
              by (inr v) = inr (between y v b s)

      go : (e ≡ left_of x q) ⊎ (e ≡ left_of x q → ⊥) → Cover g q e (arm (with_arm (f q) (left_of x q) (x ∷ [])) e)
      go (inl i) = rw (i, arm_same (f q) (left_of x q) (x ∷ []) isq) here
      go (inr n) = rw (arm_other (f q) (left_of x q) e (x ∷ []) n) (more q e (arm (f q) e) (shape q e isq) (λ b s. absurd (n (sym s))))

  -- and what any other covers
  through : (z : Path) (e : Bool) → (z ≡ q → ⊥) → forks (f z) ≡ true → below x z ≡ true → left_of x z ≡ e → Reaches (arm (f z) e) x
  through z e k u b s = go (ways x z q b bx)
    where
      deeper : (ps : List Path) → below q z ≡ true → Reaches ps q → Reaches ps x
      deeper [] c r = r
      deeper (p ∷ ps) c (inl i) = inr (rw i at bx)
      deeper (p ∷ ps) c (inr d) = inr (below_trans x q p bx d)

      go : Way z q → Reaches (arm (f z) e) x
      go (one i) = absurd (k i)
      go (under c) = absurd (below_circle x z b (between z (forks_use (f z) u) c (sym (left_through x z q b c))))
      go (over c) = deeper (arm (f z) e) c ((shape z e u).all q (forks_use (f q) isq) c (sym (left_through x q z bx c) ∙ s))

  pub insert : Shape g
  insert z e u = go (same_or z x) (same_or z q)
    where
      go : (z ≡ x) ⊎ (z ≡ x → ⊥) → (z ≡ q) ⊎ (z ≡ q → ⊥) → Cover g z e (arm (g z) e)
      go (inl i) k = rw (i, at_x) (more x e (arm m e) (new e (rw (i, at_x) at u)) (λ b s. absurd (below_self x b)))
      go (inr n) (inl i) = rw (i, at_q) (at_arm e)
      go (inr n) (inr k) = rw (at_z z n k) (more z e (arm (f z) e) (shape z e (rw (at_z z n k) at u)) (through z e k (rw (at_z z n k) at u)))

-- at most one node points at a path
pub one_points : (f : Path → Form) → Shape f → (q z p : Path) (d e : Bool) (ps qs : List Path) → forks (f q) ≡ true → forks (f z) ≡ true →
    arm (f q) d ≡ p ∷ ps → arm (f z) e ≡ p ∷ qs → (z ≡ q) × (e ≡ d)
one_points f s q z p d e ps qs uq uz aq az = go (ways p z q cz.head.1 cq.head.1)
  where
    cq : Cover f q d (p ∷ ps)
    cq = rw aq at (s q d uq)

    cz : Cover f z e (p ∷ qs)
    cz = rw az at (s z e uz)

    no : (a b : Path) (c : Bool) (rs : List Path) → Cover f a c (p ∷ rs) → in_use (f b) ≡ true → below b a ≡ true → below p b ≡ true → ⊥
    no a b c rs v u ba pb = by (v.all b u ba (sym (left_through p b a pb ba) ∙ v.head.2))
      where
        by : (b ≡ p) ⊎ (below b p ≡ true) → ⊥
        by (inl i) = below_self p (rw i at pb)
        by (inr k) = below_circle b p k pb

    go : Way z q → (z ≡ q) × (e ≡ d)
    go (one i) = (i, sym cz.head.2 ∙ (ap (λ w. left_of p w) i ∙ cq.head.2))
    go (under c) = absurd (no q z d ps cq (forks_use (f z) uz) c cz.head.1)
    go (over c) = absurd (no z q e qs cz (forks_use (f q) uq) c cq.head.1)

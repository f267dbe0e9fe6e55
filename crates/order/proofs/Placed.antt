-- Where each record is and what the keys have: all of the invariant but the tree.
use Rattle.std.proofs.Common.{◌≡◌, ℕ, Bool, false, eqb, ◌⊎◌, List, [], ◌∷◌, None, sym, refl, ap, ◌∙◌, ap₂, inl, inr, arith}
use Rattle.std.proofs.lemmas.Bool.{eq-eqb, ne_eqb, cases_eq}
use Rattle.model.specs.Records.{pick, Bytes, Path, key_path, node, Value, Record, data_record, path_of}
use Rattle.model.specs.Verifier.{Stored, find, nonempty, without, updated, Element}
use Rattle.model.specs.Monitor.{Call}
use Rattle.model.specs.Order.{value_after}
use Rattle.model.specs.Statements.{stored_twice}
use Rattle.order.proofs.Paths.{same_or}
use Rattle.order.proofs.Lists.{picks, picks_not}
use Rattle.order.proofs.Stores.{find_at, find_off, renewed, find_updated_at, find_updated_off, once_updated, find_without_off, find_without_at, once_without, once_more}
use Rattle.order.proofs.Shape.{upd, upd_at, upd_off}
use Rattle.order.proofs.Bytes.{FitRecord}
use Rattle.order.proofs.World.{Where, at, away_merkle, away_blum, Spot, unused, spot, World}

abbrev pub seen_at : ℕ → Record → Where → List Stored
seen_at t r (at u b) = pick (eqb t u) (record { rec = r; by_merkle = b } ∷ []) []
seen_at t r away_merkle = []
seen_at t r (away_blum m j) = []

abbrev pub seen_by : ℕ → Spot → List Stored
seen_by t unused = []
seen_by t (spot r w) = seen_at t r w

abbrev pub Fit : Path → Spot → Type 0
Fit p unused = Unit
Fit p (spot r w) = (path_of r ≡ p) × FitRecord r

abbrev pub ValueOf : Value → Bytes → Record → Type 0
ValueOf has k (data_record j v) = j ≡ k → has ≡ v
ValueOf has k (node p t) = Unit

abbrev pub HasValue : Value → Bytes → Spot → Type 0
HasValue has k unused = has ≡ None
HasValue has k (spot r w) = ValueOf has k r

pub record Placed (hs : ℕ → List Stored) (bs : List Call) (P : Element → Type 0) (W : World) : Type 0 where
  pub link : (t : ℕ) (p : Path) → find p (hs t) ≡ seen_by t (W p)
  pub once : (t : ℕ) → stored_twice (hs t) ≡ false
  pub fit : (p : Path) → Fit p (W p)
  pub value : (k : List ℕ) → HasValue (value_after bs k) k (W (key_path k))
  pub pend : (e : Element) → P e → W (path_of e.rec) ≡ spot e.rec (away_blum e.timestamp e.verifier)

-- what is at one path changes, and with it one verifier's store
pub placed_at : (hs gs : ℕ → List Stored) (bs cs : List Call) (P Q : Element → Type 0) (W : World) (t : ℕ) (p : Path) (s : Spot) → Placed hs bs P W →
    ((u : ℕ) → (u ≡ t → ⊥) → gs u ≡ hs u) →
    ((u : ℕ) → (u ≡ t → ⊥) → seen_by u s ≡ seen_by u (W p)) →
    ((x : Path) → (x ≡ p → ⊥) → find x (gs t) ≡ find x (hs t)) →
    find p (gs t) ≡ seen_by t s →
    stored_twice (gs t) ≡ false →
    Fit p s →
    ((k : List ℕ) → key_path k ≡ p → HasValue (value_after cs k) k s) →
    ((k : List ℕ) → (key_path k ≡ p → ⊥) → value_after cs k ≡ value_after bs k) →
    ((e : Element) → Q e → (P e × (path_of e.rec ≡ p → ⊥)) ⊎ ((path_of e.rec ≡ p) × (s ≡ spot e.rec (away_blum e.timestamp e.verifier)))) →
    Placed gs cs Q (upd W p s)
placed_at hs gs bs cs P Q W t p s R others elsewhere off here single fits val vals pends =
    record { link = links; once = onces; fit = fitting; value = values; pend = pending }
  where
    links : (u : ℕ) (x : Path) → find x (gs u) ≡ seen_by u (upd W p s x)
    links u x = go (cases_eq u t) (same_or x p)
      where
        go : (u ≡ t) ⊎ (u ≡ t → ⊥) → (x ≡ p) ⊎ (x ≡ p → ⊥) → find x (gs u) ≡ seen_by u (upd W p s x)
        go (inl i) (inl j) = rw (upd_at W p s x j, i, j) here
        go (inl i) (inr n) = rw (upd_off W p s x n, i, off x n) (R.link t x)
        go (inr m) (inl j) = rw (upd_at W p s x j, others u m, elsewhere u m, j) (R.link u p)
        go (inr m) (inr n) = rw (upd_off W p s x n, others u m) (R.link u x)

    onces : (u : ℕ) → stored_twice (gs u) ≡ false
    onces u = go (cases_eq u t)
      where
        go : (u ≡ t) ⊎ (u ≡ t → ⊥) → stored_twice (gs u) ≡ false
        go (inl i) = rw i single
        go (inr n) = rw (others u n) (R.once u)

    fitting : (x : Path) → Fit x (upd W p s x)
    fitting x = go (same_or x p)
      where
        go : (x ≡ p) ⊎ (x ≡ p → ⊥) → Fit x (upd W p s x)
        go (inl j) = rw (upd_at W p s x j, j) fits
        go (inr n) = rw (upd_off W p s x n) (R.fit x)

    values : (k : List ℕ) → HasValue (value_after cs k) k (upd W p s (key_path k))
    values k = go (same_or (key_path k) p)
      where
        go : (key_path k ≡ p) ⊎ (key_path k ≡ p → ⊥) → HasValue (value_after cs k) k (upd W p s (key_path k))
        go (inl j) = rw (upd_at W p s (key_path k) j) (val k j)
        go (inr n) = rw (upd_off W p s (key_path k) n, vals k n) (R.value k)

    pending : (e : Element) → Q e → upd W p s (path_of e.rec) ≡ spot e.rec (away_blum e.timestamp e.verifier)
    pending e q = go (pends e q)
      where
        go : (P e × (path_of e.rec ≡ p → ⊥)) ⊎ ((path_of e.rec ≡ p) × (s ≡ spot e.rec (away_blum e.timestamp e.verifier))) →
            upd W p s (path_of e.rec) ≡ spot e.rec (away_blum e.timestamp e.verifier)
        go (inl a) = upd_off W p s (path_of e.rec) a.1 ∙ R.pend e a.0
        go (inr b) = upd_at W p s (path_of e.rec) b.0 ∙ b.1

pub seen_other : (u t : ℕ) (r : Record) (b : Bool) → (u ≡ t → ⊥) → seen_by u (spot r (at t b)) ≡ []
seen_other u t r b n = picks_not (eqb u t) (record { rec = r; by_merkle = b } ∷ []) [] (ne_eqb u t n)

pub seen_here : (t : ℕ) (r : Record) (b : Bool) → seen_by t (spot r (at t b)) ≡ record { rec = r; by_merkle = b } ∷ []
seen_here t r b = picks (eqb t t) (record { rec = r; by_merkle = b } ∷ []) [] (eq-eqb t t refl)

module _ (hs gs : ℕ → List Stored) (bs : List Call) (P : Element → Type 0) (W : World) (t : ℕ) (R : Placed hs bs P W) (others : (u : ℕ) → (u ≡ t → ⊥) → gs u ≡ hs u) where
  -- a record in a store changes
  pub placed_updated : (cs : List Call) (q : Path) (o r : Record) (b : Bool) → W q ≡ spot o (at t b) → path_of r ≡ q → gs t ≡ updated r (hs t) → FitRecord r →
      ((k : List ℕ) → key_path k ≡ q → ValueOf (value_after cs k) k r) →
      ((k : List ℕ) → (key_path k ≡ q → ⊥) → value_after cs k ≡ value_after bs k) →
      Placed gs cs P (upd W q (spot r (at t b)))
  placed_updated cs q o r b w i g f val vals =
      placed_at hs gs bs cs P P W t q (spot r (at t b)) R others
      (λ u n. seen_other u t r b n ∙ sym (ap (seen_by u) w ∙ seen_other u t o b n))
      (λ x n. ap (find x) g ∙ find_updated_off x r (hs t) (λ j. n (j ∙ i)))
      at_it
      (ap stored_twice g ∙ (once_updated r (hs t) ∙ R.once t))
      (i, f) val vals pends
    where
      found : find (path_of r) (hs t) ≡ record { rec = o; by_merkle = b } ∷ []
      found = R.link t (path_of r) ∙ (ap (λ a. seen_by t (W a)) i ∙ (ap (seen_by t) w ∙ seen_here t o b))

      at_it : find q (gs t) ≡ seen_by t (spot r (at t b))
      at_it = ap₂ find (sym i) g ∙ (find_updated_at r (hs t) ∙ (ap (renewed r) found ∙ sym (seen_here t r b)))

      pends : (e : Element) → P e → (P e × (path_of e.rec ≡ q → ⊥)) ⊎ ((path_of e.rec ≡ q) × (spot r (at t b) ≡ spot e.rec (away_blum e.timestamp e.verifier)))
      pends e p = inl (p, λ j. no j (R.pend e p))
        where
          no : path_of e.rec ≡ q → W (path_of e.rec) ≡ spot e.rec (away_blum e.timestamp e.verifier) → ⊥
          no j h =
              let k : spot o (at t b) ≡ spot e.rec (away_blum e.timestamp e.verifier) = sym w ∙ (ap W (sym j) ∙ h) in
              let z : ◌≡◌ {A = ℕ} 0 1 = cc in omega arith

  -- a record comes into a store
  pub placed_added : (Q : Element → Type 0) (x : Path) (r : Record) (b : Bool) → ((u : ℕ) → seen_by u (W x) ≡ []) → path_of r ≡ x → gs t ≡ record { rec = r; by_merkle = b } ∷ hs t → FitRecord r →
      ((k : List ℕ) → key_path k ≡ x → ValueOf (value_after bs k) k r) →
      ((e : Element) → Q e → P e × (path_of e.rec ≡ x → ⊥)) →
      Placed gs bs Q (upd W x (spot r (at t b)))
  unfolding nonempty
  placed_added Q x r b w i g f val pends =
      placed_at hs gs bs bs P Q W t x (spot r (at t b)) R others
      (λ u n. seen_other u t r b n ∙ sym (w u))
      (λ y n. ap (find y) g ∙ find_off y (record { rec = r; by_merkle = b }) (hs t) (λ j. n (j ∙ i)))
      (ap (find x) g ∙ (find_at x (record { rec = r; by_merkle = b }) (hs t) (sym i) ∙ sym (seen_here t r b)))
      (ap stored_twice g ∙ once_more (record { rec = r; by_merkle = b }) (hs t) none (R.once t))
      (i, f) val (λ k n. refl) (λ e q. inl (pends e q))
    where
      none : nonempty (find (path_of r) (hs t)) ≡ false
      none = ap nonempty (R.link t (path_of r) ∙ (ap (λ a. seen_by t (W a)) i ∙ w t))

  -- a record leaves a store
  pub placed_evicted : (Q : Element → Type 0) (p : Path) (r : Record) (b : Bool) (v : Where) → W p ≡ spot r (at t b) → ((u : ℕ) → seen_by u (spot r v) ≡ []) → gs t ≡ without p (hs t) →
      ((e : Element) → Q e → (P e × (path_of e.rec ≡ p → ⊥)) ⊎ ((path_of e.rec ≡ p) × (spot r v ≡ spot e.rec (away_blum e.timestamp e.verifier)))) →
      Placed gs bs Q (upd W p (spot r v))
  placed_evicted Q p r b v w away g pends =
      placed_at hs gs bs bs P Q W t p (spot r v) R others
      (λ u n. away u ∙ sym (ap (seen_by u) w ∙ seen_other u t r b n))
      (λ y n. ap (find y) g ∙ find_without_off y p (hs t) n)
      (ap (find p) g ∙ (find_without_at p (hs t) (R.once t) ∙ sym (away t)))
      (ap stored_twice g ∙ once_without p (hs t) (R.once t))
      fits vals (λ k n. refl) pends
    where
      fits : Fit p (spot r v)
      fits = rw w at (R.fit p)

      vals : (k : List ℕ) → key_path k ≡ p → HasValue (value_after bs k) k (spot r v)
      vals k i = rw (i, w) at (R.value k)

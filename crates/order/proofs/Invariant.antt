-- The world's invariant, and what it is for a step to keep it: or two records or keys that were hashed collide.
use Rattle.std.proofs.Common.{◌≡◌, ℕ, ◌≤◌, Bool, true, false, eqb, ◌⊎◌, List, [], ◌∷◌, ◌++◌, length, sym, refl, ap, ◌∙◌, inl, inr, arith}
use Rattle.std.proofs.lemmas.Bool.{true≢false, eqb-true, eq-eqb}
use Rattle.model.specs.Records.{pick, Path, node, Pointer, absent, present, Children, Record, data_record, path_of, is_data, children_of}
use Rattle.model.specs.Verifier.{Entry, add_merkle, add_blum, evict_merkle, evict_blum, evict_blum_merkle, next_epoch, verify_epoch, get, set, Stored, Verifier, find, goes, Element, Step, fails}
use Rattle.model.specs.Monitor.{Call, called}
use Rattle.model.specs.Order.{get_right, Member, ValuesCollide, KeysCollide}
use Rattle.order.proofs.Lists.{picks}
use Rattle.order.proofs.Stores.{find_path}
use Rattle.order.proofs.Bytes.{FitPointer, FitRecord}
use Rattle.order.proofs.World.{at, away_merkle, away_blum, Spot, unused, spot, World, Tree, half, with_half}
use Rattle.order.proofs.Placed.{seen_by, Placed}
use Rattle.order.proofs.Ways.{Found, Above}

-- stores by verifier, records hashed, calls, and which elements are away by Blum: there is a world that fits them
pub record Inv (hs : ℕ → List Stored) (H : List Record) (cs : List Call) (P : Element → Type 0) : Type 0 where
  pub world : World
  pub tree : Tree H world
  pub rest : Placed hs cs P world

abbrev pub Collide : List Record → Type 0
Collide H = ValuesCollide H ⊎ KeysCollide H

pub collide_map : (H G : List Record) → ((r : Record) → Member r H → Member r G) → Collide H → Collide G
collide_map H G f (inl m) = inl (m.0, m.1, (f m.0 m.2.0, f m.1 m.2.1, m.2.2, m.2.3))
collide_map H G f (inr m) =
    let k = m.2 in
    let e = k.2 in
    inr (m.0, m.1, (k.0, k.1, (f (data_record m.0 k.0) e.0, f (data_record m.1 k.1) e.1, e.2, e.3)))

-- which elements are away after some were added and some evicted
abbrev pub Then : (Element → Type 0) → List Element → List Element → Element → Type 0
Then P adds evicts e = Member e evicts ⊎ (P e × (Member e adds → ⊥))

-- each element that is added is away
abbrev pub Matched : (Element → Type 0) → List Element → Type 0
Matched P [] = Unit
Matched P (x ∷ xs) = P x × Matched P xs

-- what an entry brings in can be told by its bytes
abbrev pub FitEntry : Entry → Type 0
FitEntry (add_merkle r q) = FitRecord r
FitEntry (add_blum r m j) = Unit
FitEntry (evict_merkle p q) = Unit
FitEntry (evict_blum p m) = Unit
FitEntry (evict_blum_merkle p q m) = Unit
FitEntry next_epoch = Unit
FitEntry verify_epoch = Unit
FitEntry (get k v) = Unit
FitEntry (set k v) = (length k ≤ 65535) × (length v ≤ 65535)

-- a right entry of verifier t whose adds are matched keeps the invariant, and is right for one store; or something collides
abbrev pub Keeps : (ℕ → List Stored) → List Record → List Call → (Element → Type 0) → ℕ → Entry → Step → Type 0
Keeps hs H cs P t e fails = Unit
Keeps hs H cs P t e (goes v adds evicts hashes) =
    FitEntry e → (gs : ℕ → List Stored) → gs t ≡ v.store → ((u : ℕ) → (u ≡ t → ⊥) → gs u ≡ hs u) → Matched P adds →
    Collide (hashes ++ H) ⊎ (Inv gs (hashes ++ H) (called t v e cs) (Then P adds evicts) × (get_right e cs ≡ true))

pub placed_less : (hs : ℕ → List Stored) (cs : List Call) (P Q : Element → Type 0) (W : World) → ((e : Element) → Q e → P e) → Placed hs cs P W → Placed hs cs Q W
placed_less hs cs P Q W l R = record { link = R.link; once = R.once; fit = R.fit; value = R.value; pend = λ e q. R.pend e (l e q) }

pub no_elements : (P : Element → Type 0) (e : Element) → Then P [] [] e → P e
no_elements P e (inl b) = absurd b
no_elements P e (inr p) = p.0

pub keep : (hs : ℕ → List Stored) (H : List Record) (cs : List Call) (P : Element → Type 0) → Inv hs H cs P → Inv hs H cs (Then P [] [])
keep hs H cs P J = record { world = J.world; tree = J.tree; rest = placed_less hs cs P (Then P [] []) J.world (no_elements P) J.rest }

-- ---- small facts

pub never : (p : Path) (h : ℕ) (b : Bool) → absent ≡ present p h b → ⊥
never p h b e = let z : ◌≡◌ {A = ℕ} 0 1 = cc in omega arith

pub fit_half : (q : Path) (u : Children) (d : Bool) (s : Pointer) → length q ≤ 65535 → ((e : Bool) → FitPointer (half u e)) → FitPointer s → FitRecord (node q (with_half u d s))
fit_half q u true s l f g = (l, g, f false)
fit_half q u false s l f g = (l, f true, g)

pub fit_halves : (q : Path) (u : Children) → FitRecord (node q u) → (e : Bool) → FitPointer (half u e)
fit_halves q u f true = f.1
fit_halves q u f false = f.2

-- a function changed at one number
abbrev pub setn : (ℕ → List Stored) → ℕ → List Stored → ℕ → List Stored
setn hs t l u = pick (eqb u t) l (hs u)

pub setn_at : (hs : ℕ → List Stored) (t : ℕ) (l : List Stored) → setn hs t l t ≡ l
setn_at hs t l = picks (eqb t t) l (hs t) (eq-eqb t t refl)

-- where something that is found is
located : (t : ℕ) (s : Spot) (x : Stored) (xs : List Stored) → seen_by t s ≡ x ∷ xs → s ≡ spot x.rec (at t x.by_merkle)
unfolding pick
located t unused x xs e = let z : ◌≡◌ {A = ℕ} 0 1 = cc in absurd (omega arith)
located t (spot r away_merkle) x xs e = let z : ◌≡◌ {A = ℕ} 0 1 = cc in absurd (omega arith)
located t (spot r (away_blum m j)) x xs e = let z : ◌≡◌ {A = ℕ} 0 1 = cc in absurd (omega arith)
located t (spot r (at u b)) x xs e = go (eqb t u) refl e
  where
    go : (c : Bool) → eqb t u ≡ c → pick c (record { rec = r; by_merkle = b } ∷ []) [] ≡ x ∷ xs → spot r (at u b) ≡ spot x.rec (at t x.by_merkle)
    go true i f = let j : t ≡ u = eqb-true t u i in let k : record { rec = r; by_merkle = b } ≡ x = cc f in rw (j, ← k)
    go false i f = let z : ◌≡◌ {A = ℕ} 0 1 = cc in absurd (omega arith)

as_node : (a : Record) (q : Path) → is_data a ≡ false → path_of a ≡ q → a ≡ node q (children_of a)
unfolding is_data path_of children_of
as_node (data_record k v) q e i = absurd (true≢false e)
as_node (node p u) q e i = rw i

module _ (hs : ℕ → List Stored) (H : List Record) (cs : List Call) (P : Element → Type 0) (t : ℕ) (v : Verifier) (I : Inv hs H cs P) (isv : v.store ≡ hs t) where
  -- what the store has at a path, by the world
  pub found_here : (p : Path) (x : Stored) → Found v p x → I.world p ≡ spot x.rec (at t x.by_merkle)
  found_here p x f = located t (I.world p) x f.others (sym (I.rest.link t p) ∙ (ap (find p) (sym isv) ∙ f.is))

  pub found_above : (p q : Path) (y : Stored) → Above v p q y → I.world q ≡ spot (node q (children_of y.rec)) (at t y.by_merkle)
  found_above p q y a =
      found_here q y a.found ∙ ap (λ r. spot r (at t y.by_merkle)) (as_node y.rec q a.is_node (find_path q v.store y a.found.others a.found.is))

-- The core theorem: in any replay of right entries in which each AddBlum is matched, every get has what was set last, or two records or keys that were hashed collide.
use Rattle.std.proofs.Common.{◌≡◌, ℕ, Bool, true, false, eqb, ◌⊎◌, List, [], ◌∷◌, ◌++◌, sym, refl, ap, ◌∙◌, subst, inl, inr, arith}
use Rattle.std.proofs.lemmas.Bool.{false≢true, and_from, eq-eqb, ne_eqb, cases_eq}
use Rattle.model.specs.Records.{pick, Bytes, Path, key_path, node, present, no_children, Record, path_of}
use Rattle.model.specs.Verifier.{Entry, Stored, Verifier, find, nonempty, goes, Element, verifier_step, new_verifier}
use Rattle.model.specs.Monitor.{Call, is_call, called}
use Rattle.model.specs.Order.{value_after, get_right, gets_right, Member}
use Rattle.model.specs.Statements.{stored_twice}
use Rattle.order.proofs.Paths.{same_or, below_self}
use Rattle.order.proofs.Shape.{in_use, forks, arm, Cover, Shape, upd, upd_at, upd_off}
use Rattle.order.proofs.Lists.{picks, picks_not, in_split, in_left, in_right}
use Rattle.order.proofs.Stores.{find_at, find_off}
use Rattle.order.proofs.World.{at, unused, spot, World, kind, loc, Ptr, Tree, form, side_of}
use Rattle.order.proofs.Ways.{Ways, by_ways}
use Rattle.order.proofs.Invariant.{Inv, Collide, Then, Matched, FitEntry, Keeps, collide_map, placed_less, never}
use Rattle.order.proofs.AddMerkle.{keeps_new_child, keeps_same_child, keeps_new_node}
use Rattle.order.proofs.Evicts.{keeps_evicts_merkle, keeps_evicts_blum, keeps_evicts_blum_merkle}
use Rattle.order.proofs.Calls.{keeps_adds_blum, keeps_next_epoch, keeps_verify_epoch, keeps_gets, keeps_sets}
use Rattle.order.proofs.Placed.{seen_by, seen_other, Fit, HasValue, Placed}

-- a right entry: by whom, what it left, and what it added, evicted and hashed
pub record Replayed : Type 0 where
  pub who : ℕ
  pub entry : Entry
  pub now : Verifier
  pub adds : List Element
  pub evicts : List Element
  pub hashes : List Record

abbrev pub verifier_after : ℕ → List Replayed → Verifier
verifier_after t [] = new_verifier t
verifier_after t (d ∷ ds) = pick (eqb t d.who) d.now (verifier_after t ds)

-- what each entry has, one after the other
abbrev pub gathered : {A : Type 0} → (Replayed → List A) → List Replayed → List A
gathered f [] = []
gathered f (d ∷ ds) = f d ++ gathered f ds

abbrev pub adds_of : List Replayed → List Element
adds_of ds = gathered (λ d. d.adds) ds

abbrev pub evicts_of : List Replayed → List Element
evicts_of ds = gathered (λ d. d.evicts) ds

abbrev pub hashes_of : List Replayed → List Record
hashes_of ds = gathered (λ d. d.hashes) ds

-- from what an entry has to the entry, and back
pub record From {A : Type 0} (f : Replayed → List A) (x : A) (ds : List Replayed) : Type 0 where
  pub entry : Replayed
  pub among : Member entry ds
  pub has : Member x (f entry)

module _ {A : Type 0} (f : Replayed → List A) (x : A) where
  pub from_gathered : (ds : List Replayed) → Member x (gathered f ds) → From f x ds
  from_gathered [] h = absurd h
  from_gathered (d ∷ ds) h = go (in_split x (f d) (gathered f ds) h) (from_gathered ds)
    where
      go : Member x (f d) ⊎ Member x (gathered f ds) → (Member x (gathered f ds) → From f x ds) → From f x (d ∷ ds)
      go (inl a) ih = record { entry = d; among = inl refl; has = a }
      go (inr b) ih = let r = ih b in record { entry = r.entry; among = inr r.among; has = r.has }

  pub to_gathered : (d : Replayed) (ds : List Replayed) → Member d ds → Member x (f d) → Member x (gathered f ds)
  to_gathered d [] h k = absurd h
  to_gathered d (y ∷ ds) (inl i) k = in_left x (f y) (gathered f ds) (subst (λ z. Member x (f z)) i k)
  to_gathered d (y ∷ ds) (inr h) k = in_right x (f y) (gathered f ds) (to_gathered d ds h k)

abbrev pub calls_of : List Replayed → List Call
calls_of [] = []
calls_of (d ∷ ds) = called d.who d.now d.entry (calls_of ds)

-- each entry is right for what its own verifier had
abbrev pub StepOf : Replayed → List Replayed → Type 0
StepOf d ds = verifier_step d.who (verifier_after d.who ds) d.entry ≡ goes d.now d.adds d.evicts d.hashes

-- every right entry keeps the invariant
pub keeps : (hs : ℕ → List Stored) (H : List Record) (bs : List Call) (P : Element → Type 0) (t : ℕ) (v : Verifier) → Inv hs H bs P → v.store ≡ hs t → Ways t v (Keeps hs H bs P t)
keeps hs H bs P t v I i =
    record {
      wrong = λ e. tt;
      new_child = λ r q y a g. keeps_new_child hs H bs P t v I i r q y a g;
      same_child = λ r q y a g. keeps_same_child hs H bs P t v I i r q y a g;
      new_node = λ r q y p h b a g. keeps_new_node hs H bs P t v I i r q y a g p h b;
      adds_blum = λ r m j z g d. keeps_adds_blum hs H bs P t v I i r m j;
      evicts_merkle = keeps_evicts_merkle hs H bs P t v I i;
      evicts_blum = keeps_evicts_blum hs H bs P t v I i;
      evicts_blum_merkle = keeps_evicts_blum_merkle hs H bs P t v I i;
      begins_epoch = keeps_next_epoch hs H bs P t v I i;
      ends_epoch = λ d. keeps_verify_epoch hs H bs P t v I i;
      gets = keeps_gets hs H bs P t v I i;
      sets = keeps_sets hs H bs P t v I i;
    }

-- evicted by Blum, and not added since
abbrev pub Pending : List Element → List Element → Element → Type 0
Pending ad ws e = Member e ws × (Member e ad → ⊥)

abbrev pub Replay : List Replayed → Type 0
Replay [] = Unit
Replay (d ∷ ds) = StepOf d ds × FitEntry d.entry × Replay ds

-- what is added by Blum was evicted before, and not added before
abbrev pub AllMatched : List Replayed → Type 0
AllMatched [] = Unit
AllMatched (d ∷ ds) = Matched (Pending (adds_of ds) (evicts_of ds)) d.adds × AllMatched ds

abbrev pub stores_after : List Replayed → ℕ → List Stored
stores_after ds t = (verifier_after t ds).store

-- at first there is the root
abbrev pub root_world : World
root_world = upd (λ p. unused) [] (spot (node [] no_children) (at 0 true))

root_at : (z : Path) → z ≡ [] → root_world z ≡ spot (node [] no_children) (at 0 true)
root_at z i = upd_at (λ p. unused) [] (spot (node [] no_children) (at 0 true)) z i

root_off : (z : Path) → (z ≡ [] → ⊥) → root_world z ≡ unused
root_off z n = upd_off (λ p. unused) [] (spot (node [] no_children) (at 0 true)) z n

root_tree : Tree [] root_world
root_tree = record { shape = shape; ptr = ptr }
  where
    only_root : (y : Path) → in_use (form (root_world y)) ≡ true → y ≡ []
    only_root y u = go (same_or y [])
      where
        go : (y ≡ []) ⊎ (y ≡ [] → ⊥) → y ≡ []
        go (inl i) = i
        go (inr n) = absurd (false≢true (sym (ap (λ s. in_use (form s)) (root_off y n)) ∙ u))

    shape : Shape (λ z. form (root_world z))
    shape z e u = go (same_or z []) e
      where
        none : (d : Bool) → Cover (λ y. form (root_world y)) [] d []
        none d = record { head = tt; all = λ y i b s. below_self [] (rw (only_root y i) at b) }

        go : (z ≡ []) ⊎ (z ≡ [] → ⊥) → (d : Bool) → Cover (λ y. form (root_world y)) z d (arm (form (root_world z)) d)
        go (inl i) true = rw (root_at z i, i) (none true)
        go (inl i) false = rw (root_at z i, i) (none false)
        go (inr n) d = absurd (false≢true (sym (ap (λ s. forks (form s)) (root_off z n)) ∙ u))

    ptr : (q : Path) (d : Bool) (p : Path) (h : ℕ) (b : Bool) → side_of (root_world q) d ≡ present p h b → Ptr [] (loc (root_world q)) h b (kind (root_world p))
    ptr q d p h b e = go (same_or q []) d e
      where
        go : (q ≡ []) ⊎ (q ≡ [] → ⊥) → (a : Bool) → side_of (root_world q) a ≡ present p h b → Ptr [] (loc (root_world q)) h b (kind (root_world p))
        go (inl i) true f = absurd (never p h b (sym (ap (λ s. side_of s true) (root_at q i)) ∙ f))
        go (inl i) false f = absurd (never p h b (sym (ap (λ s. side_of s false) (root_at q i)) ∙ f))
        go (inr n) a f = absurd (never p h b (sym (ap (λ s. side_of s a) (root_off q n)) ∙ f))

root_rest : Placed (stores_after []) [] (Pending [] []) root_world
unfolding pick stored_twice nonempty find value_after path_of
root_rest = record { link = link; once = once; fit = fit; value = value; pend = λ e p. absurd p.0 }
  where
    root : Stored
    root = record { rec = node [] no_children; by_merkle = true }

    nobody : (t : ℕ) → (t ≡ 0 → ⊥) → (new_verifier t).store ≡ []
    nobody t n = picks_not (eqb t 0) (root ∷ []) [] (ne_eqb t 0 n)

    somebody : (t : ℕ) → t ≡ 0 → (new_verifier t).store ≡ root ∷ []
    somebody t i = picks (eqb t 0) (root ∷ []) [] (eq-eqb t 0 i)

    link : (t : ℕ) (p : Path) → find p (new_verifier t).store ≡ seen_by t (root_world p)
    link t p = go (cases_eq t 0) (same_or p [])
      where
        go : (t ≡ 0) ⊎ (t ≡ 0 → ⊥) → (p ≡ []) ⊎ (p ≡ [] → ⊥) → find p (new_verifier t).store ≡ seen_by t (root_world p)
        go (inl j) (inl i) = ap (find p) (somebody t j) ∙ (find_at p root [] i ∙ sym (ap (seen_by t) (root_at p i) ∙ (ap (λ u. seen_by u (spot (node [] no_children) (at 0 true))) j)))
        go (inl j) (inr m) = ap (find p) (somebody t j) ∙ (find_off p root [] m ∙ sym (ap (seen_by t) (root_off p m)))
        go (inr n) (inl i) = ap (find p) (nobody t n) ∙ sym (ap (seen_by t) (root_at p i) ∙ seen_other t 0 (node [] no_children) true n)
        go (inr n) (inr m) = ap (find p) (nobody t n) ∙ sym (ap (seen_by t) (root_off p m))

    once : (t : ℕ) → stored_twice (new_verifier t).store ≡ false
    once t = go (cases_eq t 0)
      where
        go : (t ≡ 0) ⊎ (t ≡ 0 → ⊥) → stored_twice (new_verifier t).store ≡ false
        go (inl j) = ap stored_twice (somebody t j)
        go (inr n) = ap stored_twice (nobody t n)

    fit : (p : Path) → Fit p (root_world p)
    fit p = go (same_or p [])
      where
        go : (p ≡ []) ⊎ (p ≡ [] → ⊥) → Fit p (root_world p)
        go (inl i) = rw (root_at p i) (sym i, (omega arith, tt, tt))
        go (inr m) = rw (root_off p m) tt

    value : (k : Bytes) → HasValue (value_after [] k) k (root_world (key_path k))
    value k = go (same_or (key_path k) [])
      where
        go : (key_path k ≡ []) ⊎ (key_path k ≡ [] → ⊥) → HasValue (value_after [] k) k (root_world (key_path k))
        go (inl i) = rw (root_at (key_path k) i) tt
        go (inr m) = rw (root_off (key_path k) m) refl

pub inv_start : Inv (stores_after []) [] [] (Pending [] [])
inv_start = record { world = root_world; tree = root_tree; rest = root_rest }

pending_then : (ad ws adds aw : List Element) (e : Element) → Pending (adds ++ ad) (aw ++ ws) e → Then (Pending ad ws) adds aw e
pending_then ad ws adds aw e p = go (in_split e aw ws p.0)
  where
    go : Member e aw ⊎ Member e ws → Then (Pending ad ws) adds aw e
    go (inl a) = inl a
    go (inr b) = inr ((b, λ x. p.1 (in_right e adds ad x)), λ x. p.1 (in_left e adds ad x))

right_more : (t : ℕ) (c : Verifier) (e : Entry) (bs : List Call) → get_right e bs ≡ true → gets_right bs ≡ true → gets_right (called t c e bs) ≡ true
unfolding pick gets_right
right_more t c e bs r a = go (is_call e)
  where
    go : (b : Bool) → gets_right (pick b (record { verifier = t; epoch = c.clock.epoch; entry = e } ∷ []) [] ++ bs) ≡ true
    go true = and_from (get_right e bs) (gets_right bs) r a
    go false = a

pub replay_right : (ds : List Replayed) → Replay ds → AllMatched ds → Collide (hashes_of ds) ⊎ (Inv (stores_after ds) (hashes_of ds) (calls_of ds) (Pending (adds_of ds) (evicts_of ds)) × (gets_right (calls_of ds) ≡ true))
unfolding gets_right
replay_right [] v m = inr (inv_start, refl)
replay_right (d ∷ ds) v m = go (replay_right ds v.2 m.1)
  where
    ad : List Element
    ad = adds_of ds

    ws : List Element
    ws = evicts_of ds

    H : List Record
    H = hashes_of ds

    bs : List Call
    bs = calls_of ds

    at_t : stores_after (d ∷ ds) d.who ≡ d.now.store
    at_t = ap (λ c. c.store) (picks (eqb d.who d.who) d.now (verifier_after d.who ds) (eq-eqb d.who d.who refl))

    off_t : (u : ℕ) → (u ≡ d.who → ⊥) → stores_after (d ∷ ds) u ≡ stores_after ds u
    off_t u n = ap (λ c. c.store) (picks_not (eqb u d.who) d.now (verifier_after u ds) (ne_eqb u d.who n))

    go : Collide H ⊎ (Inv (stores_after ds) H bs (Pending ad ws) × (gets_right bs ≡ true)) →
        Collide (d.hashes ++ H) ⊎ (Inv (stores_after (d ∷ ds)) (d.hashes ++ H) (called d.who d.now d.entry bs) (Pending (d.adds ++ ad) (d.evicts ++ ws)) × (gets_right (called d.who d.now d.entry bs) ≡ true))
    go (inl x) = inl (collide_map H (d.hashes ++ H) (λ r. in_right r d.hashes H) x)
    go (inr J) = after (good v.1 (stores_after (d ∷ ds)) at_t off_t m.0)
      where
        good : Keeps (stores_after ds) H bs (Pending ad ws) d.who d.entry (goes d.now d.adds d.evicts d.hashes)
        good =
            subst (Keeps (stores_after ds) H bs (Pending ad ws) d.who d.entry) v.0
            (by_ways d.who (verifier_after d.who ds) (Keeps (stores_after ds) H bs (Pending ad ws) d.who) (keeps (stores_after ds) H bs (Pending ad ws) d.who (verifier_after d.who ds) J.0 refl) d.entry)

        after : Collide (d.hashes ++ H) ⊎ (Inv (stores_after (d ∷ ds)) (d.hashes ++ H) (called d.who d.now d.entry bs) (Then (Pending ad ws) d.adds d.evicts) × (get_right d.entry bs ≡ true)) →
            Collide (d.hashes ++ H) ⊎ (Inv (stores_after (d ∷ ds)) (d.hashes ++ H) (called d.who d.now d.entry bs) (Pending (d.adds ++ ad) (d.evicts ++ ws)) × (gets_right (called d.who d.now d.entry bs) ≡ true))
        after (inl x) = inl x
        after (inr K) =
            inr (
              record {
                world = K.0.world;
                tree = K.0.tree;
                rest = placed_less (stores_after (d ∷ ds)) (called d.who d.now d.entry bs) (Then (Pending ad ws) d.adds d.evicts) (Pending (d.adds ++ ad) (d.evicts ++ ws)) K.0.world (pending_then ad ws d.adds d.evicts) K.0.rest;
              },
              right_more d.who d.now d.entry bs K.1 J.1,
            )

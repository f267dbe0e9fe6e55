-- Along a replay, all that is in a store, added or evicted can be told by its bytes.
use Rattle.std.proofs.Common.{◌≡◌, ℕ, suc, ◌≤◌, Bool, true, false, ◌&&◌, eqb, ltb, leb, List, [], ◌∷◌, length, Some, sym, refl, ◌∙◌, subst, arith}
use Rattle.std.proofs.lemmas.Bool.{and_parts, ltb-true, leb-true}
use Rattle.model.specs.Records.{pick, same_bytes, Path, side, Pointer, present, child_on, with_child, no_children, Record, data_record, node, path_of, children_of, merkle_bytes}
use Rattle.model.specs.Verifier.{Timestamp, Entry, set, Stored, Verifier, find, without, updated, with_pointer, Step, fails, goes, verifier_step}
use Rattle.model.specs.Monitor.{Limits, are_bits, good_path, good_node_path, good_record, good_timestamp, good_entry, fits_32}
use Rattle.order.proofs.Lists.{picks, picks_not, All, all_append}
use Rattle.order.proofs.Bytes.{hash_small, FitPointer, FitRecord, path_fits, FitElement}
use Rattle.order.proofs.World.{half, with_half, with_child_half}
use Rattle.order.proofs.Ways.{Found, Above, by_ways}
use Rattle.order.proofs.Replay.{Replayed, verifier_after, adds_of, evicts_of, Replay}
use Rattle.order.proofs.Log.{fit_record, fit_entry, AllLookedAt}

abbrev pub FitStore : List Stored → Type 0
FitStore hs = All (λ x. FitRecord x.rec) hs

found_fits : (p : Path) (hs : List Stored) (x : Stored) (xs : List Stored) → find p hs ≡ x ∷ xs → FitStore hs → FitRecord x.rec
unfolding find
found_fits p [] x xs e f = let z : ◌≡◌ {A = ℕ} 0 1 = cc in absurd (omega arith)
found_fits p (y ∷ ys) x xs e f = go (same_bytes p (path_of y.rec)) e (found_fits p ys x xs)
  where
    go : (b : Bool) → pick b (y ∷ []) (find p ys) ≡ x ∷ xs → (find p ys ≡ x ∷ xs → FitStore ys → FitRecord x.rec) → FitRecord x.rec
    go true i ih = let j : y ∷ [] ≡ x ∷ xs = sym (picks true (y ∷ []) (find p ys) refl) ∙ i in let k : y ≡ x = cc j in subst (λ z. FitRecord z.rec) k f.0
    go false i ih = ih (sym (picks_not false (y ∷ []) (find p ys) refl) ∙ i) f.1

updated_fits : (r : Record) (hs : List Stored) → FitRecord r → FitStore hs → FitStore (updated r hs)
unfolding updated pick
updated_fits r [] g f = tt
updated_fits r (y ∷ ys) g f = go (same_bytes (path_of r) (path_of y.rec)) (updated_fits r ys g f.1)
  where
    go : (b : Bool) → FitStore (updated r ys) → FitStore (pick b (record { rec = r; by_merkle = y.by_merkle } ∷ ys) (y ∷ updated r ys))
    go true ih = (g, f.1)
    go false ih = (f.0, ih)

without_fits : (p : Path) (hs : List Stored) → FitStore hs → FitStore (without p hs)
unfolding without pick
without_fits p [] f = tt
without_fits p (y ∷ ys) f = go (same_bytes p (path_of y.rec)) (without_fits p ys f.1)
  where
    go : (b : Bool) → FitStore (without p ys) → FitStore (pick b ys (y ∷ without p ys))
    go true ih = f.1
    go false ih = (f.0, ih)

halves_fit : (a : Record) → FitRecord a → (d : Bool) → FitPointer (half (children_of a) d)
unfolding children_of
halves_fit (data_record k v) f true = tt
halves_fit (data_record k v) f false = tt
halves_fit (node p u) f true = f.1
halves_fit (node p u) f false = f.2

-- a node with a child pointer written
with_fits : (q : Path) (a : Record) (d : ℕ) (s : Pointer) → length q ≤ 65535 → FitRecord a → FitPointer s → FitRecord (node q (with_child (children_of a) d s))
with_fits q a d s l f g = rw (with_child_half (children_of a) d s) (go (eqb d 0))
  where
    go : (b : Bool) → FitRecord (node q (with_half (children_of a) b s))
    go true = (l, g, halves_fit a f false)
    go false = (l, halves_fit a f true, g)

-- what a node points with
child_fits : (a : Record) (d : ℕ) → FitRecord a → FitPointer (child_on (children_of a) d)
unfolding pick
child_fits a d f = go (eqb d 0)
  where
    go : (b : Bool) → FitPointer (pick b (children_of a).left (children_of a).right)
    go true = halves_fit a f true
    go false = halves_fit a f false

short_node_path : (q : Path) → good_node_path q ≡ true → length q ≤ 65535
short_node_path q e = let h = ltb-true (length q) 256 (and_parts (are_bits q) (ltb (length q) 256) e).1 in omega arith

short_path : (q : Path) → good_path q ≡ true → length q ≤ 65535
short_path q e = let h = leb-true (length q) 256 (and_parts (are_bits q) (leb (length q) 256) e).1 in omega arith

element_fits : (r : Record) (m : Timestamp) (j : ℕ) → FitRecord r → good_timestamp m ≡ true → FitElement (record { rec = r; timestamp = m; verifier = j })
element_fits r m j f g =
    let h = and_parts (fits_32 m.epoch) (fits_32 (suc m.counter)) g in
    let a = ltb-true m.epoch 4294967296 h.0 in
    let b = ltb-true (suc m.counter) 4294967296 h.1 in
    record { fit_rec = f; fit_epoch = omega arith; fit_counter = omega arith }

abbrev FitStep : Step → Type 0
FitStep fails = Unit
FitStep (goes d adds evicts hashes) = FitStore d.store × All FitElement adds × All FitElement evicts

module _ (l : Limits) (t : ℕ) (v : Verifier) (f : FitStore v.store) where
  fit_above : (p q : Path) (y : Stored) → Above v p q y → FitRecord y.rec
  fit_above p q y a = found_fits q v.store y a.found.others a.found.is f

  fit_found : (p : Path) (x : Stored) → Found v p x → FitRecord x.rec
  fit_found p x k = found_fits p v.store x k.others k.is f

  -- a node in the store with a child pointer written
  fit_written : (p q : Path) (y : Stored) (c : Pointer) → Above v p q y → length q ≤ 65535 → FitPointer c → FitStore (with_pointer q y.rec p c v.store)
  fit_written p q y c a lq g = updated_fits _ v.store (with_fits q y.rec (side p q) c lq (fit_above p q y a) g) f

  pub step_fits : (e : Entry) → good_entry l e ≡ true → FitStep (verifier_step t v e)
  unfolding good_entry
  step_fits =
      by_ways t v (λ e s. good_entry l e ≡ true → FitStep s)
      (record {
        wrong = λ e g. tt;
        new_child = λ r q y a n e i g. let h = and_parts (good_record r) (good_node_path q) g in
            ((fit_record r h.0, fit_written (path_of r) q y _ a (short_node_path q h.1) (path_fits r (fit_record r h.0), omega arith)), tt, tt);
        same_child = λ r q y a n e g. ((fit_record r (and_parts (good_record r) (good_node_path q) g).0, f), tt, tt);
        new_node = λ r q y p h b a n e i d u g. let k = and_parts (good_record r) (good_node_path q) g in
            let fr = fit_record r k.0 in
            let old : FitPointer (present p h b) = subst FitPointer e (child_fits y.rec (side (path_of r) q) (fit_above (path_of r) q y a)) in (
              (
                with_fits (path_of r) r (side p (path_of r)) (present p h b) (path_fits r fr) fr old,
                fit_written (path_of r) q y _ a (short_node_path q k.1) (path_fits r fr, omega arith),
              ),
              tt,
              tt,
            );
        adds_blum = λ r m j z n d g. let h = and_parts (good_record r && good_timestamp m) (ltb j l.verifiers) g in
            let i = and_parts (good_record r) (good_timestamp m) h.0 in
            ((fit_record r i.0, f), (element_fits r m j (fit_record r i.0) i.1, tt), tt);
        evicts_merkle = λ p q x y h b k a n e g. let i = and_parts (good_path p) (good_node_path q) g in
            (without_fits p _ (fit_written p q y _ a (short_node_path q i.1) (short_path p i.0, hash_small (merkle_bytes x.rec))), tt, tt);
        evicts_blum = λ p m x k n g. (without_fits p v.store f, tt, (element_fits x.rec m t (fit_found p x k) (and_parts (good_path p) (good_timestamp m) g).1, tt));
        evicts_blum_merkle = λ p q m x y h k a e n g. let i = and_parts (good_path p && good_node_path q) (good_timestamp m) g in
            let j = and_parts (good_path p) (good_node_path q) i.0 in
            let old : FitPointer (present p h false) = subst FitPointer e (child_fits y.rec (side p q) (fit_above p q y a)) in (
              without_fits p _ (fit_written p q y _ a (short_node_path q j.1) (short_path p j.0, old.1)),
              tt,
              (element_fits x.rec m t (fit_found p x k) i.1, tt),
            );
        begins_epoch = λ g. (f, tt, tt);
        ends_epoch = λ d g. (f, tt, tt);
        gets = λ k w x n e g. (f, tt, tt);
        sets = λ k w x u n e g. (updated_fits (data_record k (Some w)) v.store (fit_entry l (set k w) g) f, tt, tt);
      })

-- all of a replay
pub record FitReplay (ds : List Replayed) : Type 0 where
  pub stores : (t : ℕ) → FitStore (verifier_after t ds).store
  pub adds : All FitElement (adds_of ds)
  pub evicts : All FitElement (evicts_of ds)

pub replay_fits : (l : Limits) (ds : List Replayed) → Replay ds → AllLookedAt l ds → FitReplay ds
unfolding pick
replay_fits l [] v g = record { stores = λ t. start (eqb t 0); adds = tt; evicts = tt }
  where
    start : (b : Bool) → FitStore (pick b (record { rec = node [] no_children; by_merkle = true } ∷ []) [])
    start true = ((omega arith, tt, tt), tt)
    start false = tt
replay_fits l (d ∷ ds) v g = go (replay_fits l ds v.2 g.1)
  where
    go : FitReplay ds → FitReplay (d ∷ ds)
    go F = record { stores = stores; adds = all_append FitElement d.adds (adds_of ds) step.1 F.adds; evicts = all_append FitElement d.evicts (evicts_of ds) step.2 F.evicts }
      where
        step : FitStore d.now.store × All FitElement d.adds × All FitElement d.evicts
        step = subst FitStep v.0 (step_fits l d.who (verifier_after d.who ds) (F.stores d.who) d.entry g.0.good)

        stores : (t : ℕ) → FitStore (verifier_after t (d ∷ ds)).store
        stores t = by (eqb t d.who)
          where
            by : (b : Bool) → FitStore (pick b d.now (verifier_after t ds)).store
            by true = step.0
            by false = F.stores t

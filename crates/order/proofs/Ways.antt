-- The ways in which an entry is right: a case for each, with its conditions and with what it leaves. Whatever is to be shown of a step is shown case by case.
use Rattle.std.proofs.Common.{◌≡◌, ℕ, suc, ◌<◌, ◌≤◌, Bool, true, false, not, ◌&&◌, eqb, ltb, leb, List, [], ◌∷◌, length, Some, None, refl, ap, ◌∙◌, ap₂}
use Rattle.std.proofs.lemmas.Bool.{false≢true, and_parts, eqb-true, ltb-true, leb-true, not-true}
use Rattle.model.specs.Records.{Bytes, same_bytes, Path, key_path, below, side, Pointer, absent, present, child_on, with_child, Value, same_value, Record, data_record, node, path_of, is_data, children_of, is_initial, merkle_hash}
use Rattle.model.specs.Verifier.{Timestamp, earlier_with, just_after, Entry, add_merkle, add_blum, evict_merkle, evict_blum, evict_blum_merkle, next_epoch, verify_epoch, get, set, Stored, Verifier, find, stores, without, updated, with_pointer, has_merkle_child, Element, Step, fails, goes, goes_to, with_store, with_record, under_node, add_merkle_at, add_merkle_under, advance_clock, evict_merkle_at, evict_merkle_under, same_flag, can_evict_blum, evict_blum_step, evict_blum_merkle_at, evict_blum_merkle_under, has_key, has_value, get_step, set_step, verifier_step}
use Rattle.order.proofs.Lists.{pick_both}
use Rattle.order.proofs.Stores.{none_found}
use Rattle.order.proofs.Paths.{same_is}

-- ---- conditions

-- what the store has at a path
pub record Found (v : Verifier) (p : Path) (x : Stored) : Type 0 where
  pub others : List Stored
  pub is : find p v.store ≡ x ∷ others

-- y is a node in the store at q, and p is below it
pub record Above (v : Verifier) (p q : Path) (y : Stored) : Type 0 where
  pub found : Found v q y
  pub under : below p q ≡ true
  pub is_node : is_data y.rec ≡ false

-- what the node y at q knows on the side of p
abbrev pub pointer_to : Path → Path → Stored → Pointer
pointer_to p q y = child_on (children_of y.rec) (side p q)

-- what may be evicted by Blum at m, of what was added by Merkle or by Blum
pub record Evictable (v : Verifier) (p : Path) (m : Timestamp) (by : Bool) (x : Stored) : Type 0 where
  pub not_root : 0 < length p
  pub later : earlier_with v.clock v.last_evicted m p ≡ true
  pub added : x.by_merkle ≡ by
  pub childless : has_merkle_child v.store x.rec ≡ false

-- ---- what each way leaves

abbrev pub with_new_child : Verifier → Record → Path → Stored → Record → Verifier
with_new_child v r q y n = with_record (with_store v (with_pointer q y.rec (path_of r) (present (path_of r) 0 false) v.store)) n true

-- a new node, with what the node above knew below it
abbrev pub node_over : Record → Path → ℕ → Bool → Record
node_over r p h b = node (path_of r) (with_child (children_of r) (side p (path_of r)) (present p h b))

abbrev pub added_by_blum : Verifier → Record → Timestamp → Verifier
added_by_blum v r m = with_record (advance_clock v (just_after m)) r false

abbrev pub evicted_by_merkle : Verifier → Path → Path → Stored → Stored → Verifier
evicted_by_merkle v p q x y = with_store v (without p (with_pointer q y.rec p (present p (merkle_hash x.rec) false) v.store))

abbrev pub evicted_at : Verifier → Path → Timestamp → Verifier
evicted_at v p m = record { clock = m; last_evicted = p; store = without p v.store; done = v.done }

-- the verifier whose node above p knows that p is by Blum
abbrev pub marked_blum : Verifier → Path → Path → Stored → ℕ → Verifier
marked_blum v p q y h = with_store v (with_pointer q y.rec p (present p h true) v.store)

abbrev pub element : Stored → Timestamp → ℕ → Element
element x m t = record { rec = x.rec; timestamp = m; verifier = t }

abbrev pub in_next_epoch : Verifier → Verifier
in_next_epoch v = record { clock = record { epoch = suc v.clock.epoch; counter = 0 }; last_evicted = []; store = v.store; done = v.done }

abbrev pub done_with_one : Verifier → Verifier
done_with_one v = record { clock = v.clock; last_evicted = v.last_evicted; store = v.store; done = suc v.done }

abbrev pub with_value : Verifier → Bytes → Bytes → Verifier
with_value v k w = with_store v (updated (data_record k (Some w)) v.store)

-- ---- the ways

pub record Ways (t : ℕ) (v : Verifier) (P : Entry → Step → Type 0) : Type 0 where
  pub wrong : (e : Entry) → P e fails
  pub new_child : (r : Record) (q : Path) (y : Stored) → Above v (path_of r) q y → find (path_of r) v.store ≡ [] →
      pointer_to (path_of r) q y ≡ absent → is_initial r ≡ true → P (add_merkle r q) (goes_to (with_new_child v r q y r))
  pub same_child : (r : Record) (q : Path) (y : Stored) → Above v (path_of r) q y → find (path_of r) v.store ≡ [] →
      pointer_to (path_of r) q y ≡ present (path_of r) (merkle_hash r) false → P (add_merkle r q) (goes (with_record v r true) [] [] (r ∷ []))
  pub new_node : (r : Record) (q : Path) (y : Stored) (p : Path) (h : ℕ) (b : Bool) → Above v (path_of r) q y → find (path_of r) v.store ≡ [] →
      pointer_to (path_of r) q y ≡ present p h b → is_initial r ≡ true → is_data r ≡ false → below p (path_of r) ≡ true →
      P (add_merkle r q) (goes_to (with_new_child v r q y (node_over r p h b)))
  pub adds_blum : (r : Record) (m : Timestamp) (j : ℕ) → 0 < length (path_of r) → find (path_of r) v.store ≡ [] → v.done ≤ m.epoch →
      P (add_blum r m j) (goes (added_by_blum v r m) (record { rec = r; timestamp = m; verifier = j } ∷ []) [] [])
  pub evicts_merkle : (p q : Path) (x y : Stored) (h : ℕ) (b : Bool) → Found v p x → Above v p q y → has_merkle_child v.store x.rec ≡ false →
      pointer_to p q y ≡ present p h b → P (evict_merkle p q) (goes (evicted_by_merkle v p q x y) [] [] (x.rec ∷ []))
  pub evicts_blum : (p : Path) (m : Timestamp) (x : Stored) → Found v p x → Evictable v p m false x →
      P (evict_blum p m) (goes (evicted_at v p m) [] (element x m t ∷ []) [])
  pub evicts_blum_merkle : (p q : Path) (m : Timestamp) (x y : Stored) (h : ℕ) → Found v p x → Above v p q y → pointer_to p q y ≡ present p h false →
      Evictable (marked_blum v p q y h) p m true x →
      P (evict_blum_merkle p q m) (goes (evicted_at (marked_blum v p q y h) p m) [] (element x m t ∷ []) [])
  pub begins_epoch : P next_epoch (goes_to (in_next_epoch v))
  pub ends_epoch : v.done < v.clock.epoch → P verify_epoch (goes_to (done_with_one v))
  pub gets : (k : Bytes) (w : Value) (x : Stored) → Found v (key_path k) x → x.rec ≡ data_record k w → P (get k w) (goes_to v)
  pub sets : (k w : Bytes) (x : Stored) (u : Value) → Found v (key_path k) x → x.rec ≡ data_record k u → P (set k w) (goes_to (with_value v k w))

-- ---- every right entry is right in one of these ways

not_stored : (p : Path) (xs : List Stored) → not (stores p xs) ≡ true → find p xs ≡ []
not_stored p xs e = none_found (find p xs) (not-true (stores p xs) e)

flags : (a b : Bool) → same_flag a b ≡ true → a ≡ b
unfolding same_flag
flags true true e = refl
flags true false e = absurd (false≢true e)
flags false true e = absurd (false≢true e)
flags false false e = refl

has_just : (r : Record) (k : Bytes) (w : Value) → has_key r k ≡ true → has_value r w ≡ true → r ≡ data_record k w
unfolding has_key has_value same_value
has_just (data_record j None) k None e f = ap (λ x. data_record x None) (same_is j k e)
has_just (data_record j None) k (Some y) e f = absurd (false≢true f)
has_just (data_record j (Some x)) k None e f = absurd (false≢true f)
has_just (data_record j (Some x)) k (Some y) e f = ap₂ (λ a b. data_record a (Some b)) (same_is j k e) (same_is x y f)
has_just (node p c) k w e f = absurd (false≢true e)

value_in : Record → Value
value_in (data_record j u) = u
value_in (node p c) = None

has_some : (r : Record) (k : Bytes) → has_key r k ≡ true → r ≡ data_record k (value_in r)
unfolding has_key value_in
has_some (data_record j u) k e = ap (λ x. data_record x u) (same_is j k e)
has_some (node p c) k e = absurd (false≢true e)

module _ (t : ℕ) (v : Verifier) (P : Entry → Step → Type 0) (W : Ways t v P) where
  found : (p : Path) (x : Stored) (xs : List Stored) → find p v.store ≡ x ∷ xs → Found v p x
  found p x xs e = record { others = xs; is = e }

  above : (p q : Path) (y : Stored) (ys : List Stored) → find q v.store ≡ y ∷ ys → under_node p q y.rec ≡ true → Above v p q y
  above p q y ys e u =
      let a = and_parts (below p q) (not (is_data y.rec)) u in
      record { found = found q y ys e; under = a.0; is_node = not-true (is_data y.rec) a.1 }

  evictable : (d : Verifier) (p : Path) (m : Timestamp) (by : Bool) (x : Stored) → can_evict_blum d p m by x ≡ true → Evictable d p m by x
  evictable d p m by x e =
      let a = and_parts ((ltb 0 (length p) && earlier_with d.clock d.last_evicted m p) && same_flag x.by_merkle by) (not (has_merkle_child d.store x.rec)) e in
      let b = and_parts (ltb 0 (length p) && earlier_with d.clock d.last_evicted m p) (same_flag x.by_merkle by) a.0 in
      let c = and_parts (ltb 0 (length p)) (earlier_with d.clock d.last_evicted m p) b.0 in
      record { not_root = ltb-true 0 (length p) c.0; later = c.1; added = flags x.by_merkle by b.1; childless = not-true (has_merkle_child d.store x.rec) a.1 }

  by_add_merkle : (r : Record) (q : Path) (y : Stored) → Above v (path_of r) q y → find (path_of r) v.store ≡ [] →
      (s : Pointer) → pointer_to (path_of r) q y ≡ s → P (add_merkle r q) (add_merkle_at v r q y.rec s)
  unfolding add_merkle_at
  by_add_merkle r q y a g absent e = pick_both (P (add_merkle r q)) _ _ _ (λ i. W.new_child r q y a g e i) (λ _. W.wrong (add_merkle r q))
  by_add_merkle r q y a g (present p h b) e =
      pick_both (P (add_merkle r q)) _ _ _
      (λ i. pick_both (P (add_merkle r q)) _ _ _ (λ f. W.same_child r q y a g (e ∙ known i f)) (λ _. W.wrong (add_merkle r q)))
      (λ _. pick_both (P (add_merkle r q)) _ _ _ (λ f.
      let c = and_parts (is_initial r && not (is_data r)) (below p (path_of r)) f in
      let d = and_parts (is_initial r) (not (is_data r)) c.0 in
      W.new_node r q y p h b a g e d.0 (not-true (is_data r) d.1) c.1) (λ _. W.wrong (add_merkle r q)))
    where
      known : same_bytes p (path_of r) ≡ true → (eqb h (merkle_hash r) && not b) ≡ true → present p h b ≡ present (path_of r) (merkle_hash r) false
      known i f =
          let c = and_parts (eqb h (merkle_hash r)) (not b) f in
          λ z. present (same_is p (path_of r) i z) (eqb-true h (merkle_hash r) c.0 z) (not-true b c.1 z)

  by_evict_merkle : (p q : Path) (x y : Stored) → Found v p x → Above v p q y → has_merkle_child v.store x.rec ≡ false →
      (s : Pointer) → pointer_to p q y ≡ s → P (evict_merkle p q) (evict_merkle_at v p q x y s)
  unfolding evict_merkle_at
  by_evict_merkle p q x y f a c absent e = W.wrong (evict_merkle p q)
  by_evict_merkle p q x y f a c (present o h b) e =
      pick_both (P (evict_merkle p q)) _ _ _ (λ i. W.evicts_merkle p q x y h b f a c (e ∙ ap (λ z. present z h b) (same_is o p i))) (λ _. W.wrong (evict_merkle p q))

  by_evict_blum_merkle : (p q : Path) (m : Timestamp) (y : Stored) → Above v p q y →
      (s : Pointer) → pointer_to p q y ≡ s → P (evict_blum_merkle p q m) (evict_blum_merkle_at v t p q m y s)
  unfolding evict_blum_merkle_at evict_blum_step
  by_evict_blum_merkle p q m y a absent e = W.wrong (evict_blum_merkle p q m)
  by_evict_blum_merkle p q m y a (present o h b) e = pick_both (P (evict_blum_merkle p q m)) _ _ _ (λ i. go i (find p v.store) refl) (λ _. W.wrong (evict_blum_merkle p q m))
    where
      go : (same_bytes o p && not b) ≡ true → (xs : List Stored) → find p v.store ≡ xs → P (evict_blum_merkle p q m) (evict_blum_step (marked_blum v p q y h) t p m true xs)
      go i [] f = W.wrong (evict_blum_merkle p q m)
      go i (x ∷ xs) f =
          let c = and_parts (same_bytes o p) (not b) i in
          pick_both (P (evict_blum_merkle p q m)) _ _ _
          (λ k. W.evicts_blum_merkle p q m x y h (found p x xs f) a (e ∙ (λ z. present (same_is o p c.0 z) h (not-true b c.1 z))) (evictable (marked_blum v p q y h) p m true x k))
          (λ _. W.wrong (evict_blum_merkle p q m))

  pub by_ways : (e : Entry) → P e (verifier_step t v e)
  unfolding verifier_step add_merkle_under evict_merkle_under evict_blum_step evict_blum_merkle_under get_step set_step
  by_ways (add_merkle r q) = go (find q v.store) refl
    where
      go : (ys : List Stored) → find q v.store ≡ ys → P (add_merkle r q) (add_merkle_under v r q ys)
      go [] e = W.wrong (add_merkle r q)
      go (y ∷ ys) e = pick_both (P (add_merkle r q)) _ _ _ (λ f.
          let a = and_parts (under_node (path_of r) q y.rec) (not (stores (path_of r) v.store)) f in
          by_add_merkle r q y (above (path_of r) q y ys e a.0) (not_stored (path_of r) v.store a.1) (pointer_to (path_of r) q y) refl) (λ _. W.wrong (add_merkle r q))
  by_ways (add_blum r m j) = pick_both (P (add_blum r m j)) _ _ _ (λ f.
      let a = and_parts (ltb 0 (length (path_of r)) && not (stores (path_of r) v.store)) (leb v.done m.epoch) f in
      let b = and_parts (ltb 0 (length (path_of r))) (not (stores (path_of r) v.store)) a.0 in
      W.adds_blum r m j (ltb-true 0 (length (path_of r)) b.0) (not_stored (path_of r) v.store b.1) (leb-true v.done m.epoch a.1)) (λ _. W.wrong (add_blum r m j))
  by_ways (evict_merkle p q) = go (find p v.store) refl (find q v.store) refl
    where
      go : (xs : List Stored) → find p v.store ≡ xs → (ys : List Stored) → find q v.store ≡ ys → P (evict_merkle p q) (evict_merkle_under v p q xs ys)
      go [] e ys f = W.wrong (evict_merkle p q)
      go (x ∷ xs) e [] f = W.wrong (evict_merkle p q)
      go (x ∷ xs) e (y ∷ ys) f = pick_both (P (evict_merkle p q)) _ _ _ (λ i.
          let a = and_parts (under_node p q y.rec) (not (has_merkle_child v.store x.rec)) i in
          by_evict_merkle p q x y (found p x xs e) (above p q y ys f a.0) (not-true (has_merkle_child v.store x.rec) a.1) (pointer_to p q y) refl) (λ _. W.wrong (evict_merkle p q))
  by_ways (evict_blum p m) = go (find p v.store) refl
    where
      go : (xs : List Stored) → find p v.store ≡ xs → P (evict_blum p m) (evict_blum_step v t p m false xs)
      go [] e = W.wrong (evict_blum p m)
      go (x ∷ xs) e = pick_both (P (evict_blum p m)) _ _ _ (λ k. W.evicts_blum p m x (found p x xs e) (evictable v p m false x k)) (λ _. W.wrong (evict_blum p m))
  by_ways (evict_blum_merkle p q m) = go (find q v.store) refl
    where
      go : (ys : List Stored) → find q v.store ≡ ys → P (evict_blum_merkle p q m) (evict_blum_merkle_under v t p q m ys)
      go [] e = W.wrong (evict_blum_merkle p q m)
      go (y ∷ ys) e = pick_both (P (evict_blum_merkle p q m)) _ _ _ (λ i. by_evict_blum_merkle p q m y (above p q y ys e i) (pointer_to p q y) refl) (λ _. W.wrong (evict_blum_merkle p q m))
  by_ways next_epoch = W.begins_epoch
  by_ways verify_epoch = pick_both (P verify_epoch) _ _ _ (λ e. W.ends_epoch (ltb-true v.done v.clock.epoch e)) (λ _. W.wrong verify_epoch)
  by_ways (get k w) = go (find (key_path k) v.store) refl
    where
      go : (xs : List Stored) → find (key_path k) v.store ≡ xs → P (get k w) (get_step v k w xs)
      go [] e = W.wrong (get k w)
      go (x ∷ xs) e = pick_both (P (get k w)) _ _ _ (λ f.
          let a = and_parts (has_key x.rec k) (has_value x.rec w) f in
          W.gets k w x (found (key_path k) x xs e) (has_just x.rec k w a.0 a.1)) (λ _. W.wrong (get k w))
  by_ways (set k w) = go (find (key_path k) v.store) refl
    where
      go : (xs : List Stored) → find (key_path k) v.store ≡ xs → P (set k w) (set_step v k w xs)
      go [] e = W.wrong (set k w)
      go (x ∷ xs) e = pick_both (P (set k w)) _ _ _ (λ f. W.sets k w x (value_in x.rec) (found (key_path k) x xs e) (has_some x.rec k f)) (λ _. W.wrong (set k w))

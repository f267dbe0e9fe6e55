-- What one verifier does with each entry of its log. Assumes nothing: these are definitions.
use Rattle.std.specs.Prelude.{ℕ, suc, Bool, true, false, not, ◌&&◌, ◌||◌, List, [], ◌∷◌, length, Some, ◌==◌, nat_le, nat_lt}
use Rattle.model.specs.Records.{pick, Bytes, same_bytes, less_bytes, Path, key_path, below, side, Pointer, absent, present, child_on, with_child, no_children, Value, same_value, Record, data_record, node, path_of, is_data, children_of, is_initial, merkle_hash}

-- ---- time

pub record Timestamp : Type 0 where
  pub epoch : ℕ
  pub counter : ℕ

abbrev pub earlier : Timestamp → Timestamp → Bool
earlier a b = nat_lt a.epoch b.epoch || (a.epoch == b.epoch && nat_lt a.counter b.counter)

abbrev pub later : Timestamp → Timestamp → Timestamp
later a b = pick (earlier a b) b a

abbrev pub just_after : Timestamp → Timestamp
just_after a = record { epoch = a.epoch; counter = suc a.counter }

-- a timestamp with a path is before another if the timestamp is, or if they are the same and the path is the lesser
abbrev pub earlier_with : Timestamp → Path → Timestamp → Path → Bool
earlier_with a p b q = earlier a b || (not (earlier b a) && less_bytes p q)

-- ---- entries

pub data Entry : Type 0 where
  add_merkle : Record → Path → Entry  -- a record, from below a node in the store
  add_blum : Record → Timestamp → ℕ → Entry  -- a record that this verifier evicted at that timestamp
  evict_merkle : Path → Path → Entry  -- a path, and the node above it
  evict_blum : Path → Timestamp → Entry  -- what was added by Blum
  evict_blum_merkle : Path → Path → Timestamp → Entry  -- what was added by Merkle, and the node above it
  next_epoch : Entry
  verify_epoch : Entry  -- done with an epoch
  get : Bytes → Value → Entry  -- a key has this value, or none
  set : Bytes → Bytes → Entry  -- a key is given this value

-- ---- the store and the verifier

-- a record in the store, and whether it was added by Merkle (else by Blum)
pub record Stored : Type 0 where
  pub rec : Record
  pub by_merkle : Bool

pub record Verifier : Type 0 where
  pub clock : Timestamp
  pub last_evicted : Path  -- by Blum, since the clock last moved for another reason
  pub store : List Stored
  pub done : ℕ  -- how many epochs it is done with

-- what the store has at a path: none or one
unfoldable pub find : Path → List Stored → List Stored
find p [] = []
find p (x ∷ xs) = pick (same_bytes p (path_of x.rec)) (x ∷ []) (find p xs)

unfoldable pub nonempty : {A : Type 0} → List A → Bool
nonempty [] = false
nonempty (x ∷ xs) = true

abbrev pub stores : Path → List Stored → Bool
stores p xs = nonempty (find p xs)

unfoldable pub without : Path → List Stored → List Stored
without p [] = []
without p (x ∷ xs) = pick (same_bytes p (path_of x.rec)) xs (x ∷ without p xs)

-- a record in the place of what the store has at its path
unfoldable pub updated : Record → List Stored → List Stored
updated r [] = []
updated r (x ∷ xs) = pick (same_bytes (path_of r) (path_of x.rec)) (record { rec = r; by_merkle = x.by_merkle } ∷ xs) (x ∷ updated r xs)

-- a node's child pointer on the side of a path is written
abbrev pub with_pointer : Path → Record → Path → Pointer → List Stored → List Stored
with_pointer q above p c xs = updated (node q (with_child (children_of above) (side p q) c)) xs

-- does a node point at something that is in the store, added by Merkle?
unfoldable pub found_by_merkle : List Stored → Bool
found_by_merkle [] = false
found_by_merkle (x ∷ xs) = x.by_merkle

unfoldable pub points_at_merkle : List Stored → Pointer → Bool
points_at_merkle xs absent = false
points_at_merkle xs (present p h b) = found_by_merkle (find p xs)

abbrev pub has_merkle_child : List Stored → Record → Bool
has_merkle_child xs r = not (is_data r) && (points_at_merkle xs (children_of r).left || points_at_merkle xs (children_of r).right)

-- ---- one step

-- what goes into the sums: a record, with when and by whom it was evicted
pub record Element : Type 0 where
  pub rec : Record
  pub timestamp : Timestamp
  pub verifier : ℕ

-- an entry is wrong; or right, and then what it leaves, and what it adds, evicts and hashes
pub data Step : Type 0 where
  fails : Step
  goes : Verifier → List Element → List Element → List Record → Step

abbrev pub goes_to : Verifier → Step
goes_to v = goes v [] [] []

abbrev pub with_store : Verifier → List Stored → Verifier
with_store v xs = record { clock = v.clock; last_evicted = v.last_evicted; store = xs; done = v.done }

abbrev pub with_record : Verifier → Record → Bool → Verifier
with_record v r b = with_store v (record { rec = r; by_merkle = b } ∷ v.store)

-- the second record is a node, and the first path is below its path q
abbrev pub under_node : Path → Path → Record → Bool
under_node p q above = below p q && not (is_data above)

-- AddMerkle, by what the node above knows on the record's side: nothing; this path, with this hash, not by Blum; or a path below
unfoldable pub add_merkle_at : Verifier → Record → Path → Record → Pointer → Step
add_merkle_at v r q above absent =
    pick (is_initial r)
    (goes_to (with_record (with_store v (with_pointer q above (path_of r) (present (path_of r) 0 false) v.store)) r true))
    fails
add_merkle_at v r q above (present p h b) =
    pick (same_bytes p (path_of r))
    (pick (h == merkle_hash r && not b) (goes (with_record v r true) [] [] (r ∷ [])) fails)
    (pick ((is_initial r && not (is_data r)) && below p (path_of r))
    (goes_to (with_record (with_store v (with_pointer q above (path_of r) (present (path_of r) 0 false) v.store))
    (node (path_of r) (with_child (children_of r) (side p (path_of r)) (present p h b))) true))
    fails)

unfoldable pub add_merkle_under : Verifier → Record → Path → List Stored → Step
add_merkle_under v r q [] = fails
add_merkle_under v r q (y ∷ ys) =
    pick (under_node (path_of r) q y.rec && not (stores (path_of r) v.store))
    (add_merkle_at v r q y.rec (child_on (children_of y.rec) (side (path_of r) q)))
    fails

-- AddBlum: not the root, not in the store, and not into an epoch that this verifier is done with
abbrev pub can_add_blum : Verifier → Record → Timestamp → Bool
can_add_blum v r m = (nat_lt 0 (length (path_of r)) && not (stores (path_of r) v.store)) && nat_le v.done m.epoch

-- the clock moves to a timestamp if that is later; the last evicted path is then the root
abbrev pub advance_clock : Verifier → Timestamp → Verifier
advance_clock v m =
    let n : Timestamp = later v.clock m in
    record { clock = n; last_evicted = pick (earlier v.clock n) [] v.last_evicted; store = v.store; done = v.done }

abbrev pub add_blum_step : Verifier → Record → Timestamp → ℕ → Step
add_blum_step v r m j =
    pick (can_add_blum v r m)
    (goes (with_record (advance_clock v (just_after m)) r false) (record { rec = r; timestamp = m; verifier = j } ∷ []) [] [])
    fails

-- EvictMerkle: the node above knows this path on its side, and nothing that the record points at is in the store by Merkle
unfoldable pub evict_merkle_at : Verifier → Path → Path → Stored → Stored → Pointer → Step
evict_merkle_at v p q x y absent = fails
evict_merkle_at v p q x y (present o h b) =
    pick (same_bytes o p)
    (goes (with_store v (without p (with_pointer q y.rec p (present p (merkle_hash x.rec) false) v.store))) [] [] (x.rec ∷ []))
    fails

unfoldable pub evict_merkle_under : Verifier → Path → Path → List Stored → List Stored → Step
evict_merkle_under v p q [] ys = fails
evict_merkle_under v p q (x ∷ xs) [] = fails
evict_merkle_under v p q (x ∷ xs) (y ∷ ys) =
    pick (under_node p q y.rec && not (has_merkle_child v.store x.rec)) (evict_merkle_at v p q x y (child_on (children_of y.rec) (side p q))) fails

-- what EvictBlum and EvictBlumMerkle ask of a record: not the root, added as the entry says, later than what was evicted last,
-- and pointing at nothing in the store by Merkle
unfoldable pub same_flag : Bool → Bool → Bool
same_flag true b = b
same_flag false b = not b

abbrev pub can_evict_blum : Verifier → Path → Timestamp → Bool → Stored → Bool
can_evict_blum v p m by x =
    ((nat_lt 0 (length p) && earlier_with v.clock v.last_evicted m p) && same_flag x.by_merkle by) && not (has_merkle_child v.store x.rec)

unfoldable pub evict_blum_step : Verifier → ℕ → Path → Timestamp → Bool → List Stored → Step
evict_blum_step v t p m by [] = fails
evict_blum_step v t p m by (x ∷ xs) =
    pick (can_evict_blum v p m by x)
    (goes (record { clock = m; last_evicted = p; store = without p v.store; done = v.done }) [] (record { rec = x.rec; timestamp = m; verifier = t } ∷ []) [])
    fails

-- EvictBlumMerkle: the node above knows this path, not by Blum, and knows then that it is by Blum, with the hash that it knew
unfoldable pub evict_blum_merkle_at : Verifier → ℕ → Path → Path → Timestamp → Stored → Pointer → Step
evict_blum_merkle_at v t p q m y absent = fails
evict_blum_merkle_at v t p q m y (present o h b) =
    pick (same_bytes o p && not b)
    (evict_blum_step (with_store v (with_pointer q y.rec p (present p h true) v.store)) t p m true (find p v.store))
    fails

unfoldable pub evict_blum_merkle_under : Verifier → ℕ → Path → Path → Timestamp → List Stored → Step
evict_blum_merkle_under v t p q m [] = fails
evict_blum_merkle_under v t p q m (y ∷ ys) = pick (under_node p q y.rec) (evict_blum_merkle_at v t p q m y (child_on (children_of y.rec) (side p q))) fails

-- NextEpoch and VerifyEpoch
abbrev pub next_epoch_step : Verifier → Step
next_epoch_step v = goes_to (record { clock = record { epoch = suc v.clock.epoch; counter = 0 }; last_evicted = []; store = v.store; done = v.done })

abbrev pub verify_epoch_step : Verifier → Step
verify_epoch_step v =
    pick (nat_lt v.done v.clock.epoch) (goes_to (record { clock = v.clock; last_evicted = v.last_evicted; store = v.store; done = suc v.done })) fails

-- Get and Set, of a key in the store
unfoldable pub has_key : Record → Bytes → Bool
has_key (data_record j v) k = same_bytes j k
has_key (node p c) k = false

unfoldable pub has_value : Record → Value → Bool
has_value (data_record j v) w = same_value v w
has_value (node p c) w = false

unfoldable pub get_step : Verifier → Bytes → Value → List Stored → Step
get_step v k w [] = fails
get_step v k w (x ∷ xs) = pick (has_key x.rec k && has_value x.rec w) (goes_to v) fails

unfoldable pub set_step : Verifier → Bytes → Bytes → List Stored → Step
set_step v k w [] = fails
set_step v k w (x ∷ xs) = pick (has_key x.rec k) (goes_to (with_store v (updated (data_record k (Some w)) v.store))) fails

-- what verifier number t does with an entry
unfoldable pub verifier_step : ℕ → Verifier → Entry → Step
verifier_step t v (add_merkle r q) = add_merkle_under v r q (find q v.store)
verifier_step t v (add_blum r m j) = add_blum_step v r m j
verifier_step t v (evict_merkle p q) = evict_merkle_under v p q (find p v.store) (find q v.store)
verifier_step t v (evict_blum p m) = evict_blum_step v t p m false (find p v.store)
verifier_step t v (evict_blum_merkle p q m) = evict_blum_merkle_under v t p q m (find q v.store)
verifier_step t v next_epoch = next_epoch_step v
verifier_step t v verify_epoch = verify_epoch_step v
verifier_step t v (get k w) = get_step v k w (find (key_path k) v.store)
verifier_step t v (set k w) = set_step v k w (find (key_path k) v.store)

-- at first: verifier 0 has the root, and the others nothing
abbrev pub with_first_store : List Stored → Verifier
with_first_store xs = record { clock = record { epoch = 0; counter = 0 }; last_evicted = []; store = xs; done = 0 }

abbrev pub new_verifier : ℕ → Verifier
new_verifier t = with_first_store (pick (t == 0) (record { rec = node [] no_children; by_merkle = true } ∷ []) [])

abbrev pub absent_verifier : Verifier
absent_verifier = with_first_store []

-- All verifiers together: events, refusals, the sums of each epoch, what is certified, what is answered. Assumes nothing: these are definitions.
use Rattle.std.specs.Prelude.{ℕ, zero, suc, ◌+◌, ◌%◌, Bool, true, false, not, ◌&&◌, List, [], ◌∷◌, ◌++◌, length, Some, None, ◌==◌, nat_le, nat_lt}
use Rattle.model.specs.Records.{pick, Bytes, Path, Pointer, absent, present, Value, Record, data_record, node, record_bytes, le_bytes, hash_of}
use Rattle.model.specs.Verifier.{Timestamp, Entry, add_merkle, add_blum, evict_merkle, evict_blum, evict_blum_merkle, next_epoch, verify_epoch, get, set, Verifier, Element, Step, fails, goes, verifier_step, new_verifier, absent_verifier}

-- ---- what comes in and what goes out

pub record Limits : Type 0 where
  pub supports : ℕ → Bool  -- which entries can be done, by their codes
  pub verifiers : ℕ
  pub places : ℕ  -- how many records each verifier's store may have
  pub epochs : ℕ  -- how many epochs may be under way
  pub secret : Bytes  -- the 32 bytes that the sums are keyed with, known to nobody else

pub data Event : Type 0 where
  logged : ℕ → Entry → Event  -- a verifier, and its next entry
  malformed : ℕ → Event  -- bytes that are no event, and where they cease to be one

pub data Answer : Type 0 where
  refused : ℕ → ℕ → Answer  -- which refusal, and a place
  wrong : Answer  -- the log is wrong, and nothing is looked at any more
  right : Answer
  certified : ℕ → Answer  -- right, and how many epochs are certified

-- ---- the state

-- the two sums of an epoch
pub record Sum : Type 0 where
  pub added : ℕ
  pub evicted : ℕ

-- a get or set that was right, by whom, and in which epoch
pub record Call : Type 0 where
  pub verifier : ℕ
  pub epoch : ℕ
  pub entry : Entry

-- the last four are only for what is promised, and no program keeps them: all that was added, evicted and hashed, and all calls, the last first
pub record State : Type 0 where
  pub verifiers : List Verifier
  pub sums : List Sum
  pub certified : ℕ
  pub stopped : Bool
  pub adds : List Element
  pub evicts : List Element
  pub hashed : List Record
  pub calls : List Call

unfoldable pub new_verifiers : ℕ → ℕ → List Verifier
new_verifiers zero t = []
new_verifiers (suc n) t = new_verifier t ∷ new_verifiers n (suc t)

abbrev pub new_state : Limits → State
new_state l = record { verifiers = new_verifiers l.verifiers 0; sums = []; certified = 0; stopped = false; adds = []; evicts = []; hashed = []; calls = [] }

unfoldable pub verifier_at : List Verifier → ℕ → Verifier
verifier_at [] t = absent_verifier
verifier_at (v ∷ vs) zero = v
verifier_at (v ∷ vs) (suc t) = verifier_at vs t

unfoldable pub with_verifier : List Verifier → ℕ → Verifier → List Verifier
with_verifier [] t v = []
with_verifier (x ∷ xs) zero v = v ∷ xs
with_verifier (x ∷ xs) (suc t) v = x ∷ with_verifier xs t v

-- ---- sums

abbrev pub no_sum : Sum
no_sum = record { added = 0; evicted = 0 }

unfoldable pub sum_at : List Sum → ℕ → Sum
sum_at [] n = no_sum
sum_at (s ∷ ss) zero = s
sum_at (s ∷ ss) (suc n) = sum_at ss n

unfoldable pub with_sum : List Sum → ℕ → Sum → List Sum
with_sum [] zero s = s ∷ []
with_sum [] (suc n) s = no_sum ∷ with_sum [] n s
with_sum (x ∷ xs) zero s = s ∷ xs
with_sum (x ∷ xs) (suc n) s = x ∷ with_sum xs n s

-- 2^256
abbrev pub modulus : ℕ
modulus = 115792089237316195423570985008687907853269984665640564039457584007913129639936

-- a record with its key or path, epoch and counter in eight bytes each, and the verifier in one
abbrev pub element_bytes : Element → Bytes
element_bytes x = record_bytes x.rec ++ (le_bytes 8 x.timestamp.epoch ++ (le_bytes 8 x.timestamp.counter ++ (x.verifier ∷ [])))

abbrev pub element_hash : Bytes → Element → ℕ
element_hash k x = hash_of (k ++ element_bytes x)

abbrev pub add_element : Bytes → List Sum → Element → List Sum
add_element k ss x = let s : Sum = sum_at ss x.timestamp.epoch in with_sum ss x.timestamp.epoch (record { added = (s.added + element_hash k x) % modulus; evicted = s.evicted })

abbrev pub evict_element : Bytes → List Sum → Element → List Sum
evict_element k ss x = let s : Sum = sum_at ss x.timestamp.epoch in with_sum ss x.timestamp.epoch (record { added = s.added; evicted = (s.evicted + element_hash k x) % modulus })

unfoldable pub add_elements : Bytes → List Sum → List Element → List Sum
add_elements k ss [] = ss
add_elements k ss (x ∷ xs) = add_elements k (add_element k ss x) xs

unfoldable pub evict_elements : Bytes → List Sum → List Element → List Sum
evict_elements k ss [] = ss
evict_elements k ss (x ∷ xs) = evict_elements k (evict_element k ss x) xs

-- ---- certified epochs

-- all verifiers are done with an epoch
unfoldable pub all_done : List Verifier → ℕ → Bool
all_done [] e = true
all_done (v ∷ vs) e = nat_lt e v.done && all_done vs e

abbrev pub sums_agree : List Sum → ℕ → Bool
sums_agree ss e = (sum_at ss e).added == (sum_at ss e).evicted

-- the epochs from e on are certified, as long as all are done with the next and its sums agree; at most n of them
unfoldable pub certify : ℕ → List Verifier → List Sum → ℕ → ℕ
certify zero vs ss e = e
certify (suc n) vs ss e = pick (all_done vs e && sums_agree ss e) (certify n vs ss (suc e)) e

-- all are done with the first epoch that isn't certified, and its sums differ
abbrev pub sums_differ : State → Bool
sums_differ s = all_done s.verifiers s.certified && not (sums_agree s.sums s.certified)

-- ---- refusals

unfoldable pub entry_code : Entry → ℕ
entry_code (add_merkle r q) = 0
entry_code (add_blum r m j) = 1
entry_code (evict_merkle p q) = 2
entry_code (evict_blum p m) = 3
entry_code (evict_blum_merkle p q m) = 4
entry_code next_epoch = 5
entry_code verify_epoch = 6
entry_code (get k v) = 7
entry_code (set k v) = 8

abbrev pub is_call : Entry → Bool
is_call e = nat_le 7 (entry_code e)

abbrev pub is_add : Entry → Bool
is_add e = nat_le (entry_code e) 1

unfoldable pub are_bits : List ℕ → Bool
are_bits [] = true
are_bits (x ∷ xs) = nat_lt x 2 && are_bits xs

abbrev pub good_path : Path → Bool
good_path p = are_bits p && nat_le (length p) 256

-- a node's path has fewer bits than a key's
abbrev pub good_node_path : Path → Bool
good_node_path p = are_bits p && nat_lt (length p) 256

unfoldable pub good_pointer : Pointer → Bool
good_pointer absent = true
good_pointer (present p h b) = good_path p && nat_lt h modulus

abbrev pub good_key : Bytes → Bool
good_key k = nat_le (length k) 64

unfoldable pub good_value : Value → Bool
good_value None = true
good_value (Some t) = nat_le (length t) 1024

unfoldable pub good_record : Record → Bool
good_record (data_record k v) = good_key k && good_value v
good_record (node p c) = good_node_path p && (good_pointer c.left && good_pointer c.right)

abbrev pub fits_32 : ℕ → Bool
fits_32 n = nat_lt n 4294967296

abbrev pub good_timestamp : Timestamp → Bool
good_timestamp m = fits_32 m.epoch && fits_32 (suc m.counter)

unfoldable pub good_entry : Limits → Entry → Bool
good_entry l (add_merkle r q) = good_record r && good_node_path q
good_entry l (add_blum r m j) = (good_record r && good_timestamp m) && nat_lt j l.verifiers
good_entry l (evict_merkle p q) = good_path p && good_node_path q
good_entry l (evict_blum p m) = good_path p && good_timestamp m
good_entry l (evict_blum_merkle p q m) = (good_path p && good_node_path q) && good_timestamp m
good_entry l next_epoch = true
good_entry l verify_epoch = true
good_entry l (get k v) = good_key k && good_value v
good_entry l (set k v) = good_key k && good_value (Some v)

-- the epoch that an entry names or begins
unfoldable pub epoch_named : Verifier → Entry → ℕ
epoch_named v (add_merkle r q) = 0
epoch_named v (add_blum r m j) = m.epoch
epoch_named v (evict_merkle p q) = 0
epoch_named v (evict_blum p m) = m.epoch
epoch_named v (evict_blum_merkle p q m) = m.epoch
epoch_named v next_epoch = suc v.clock.epoch
epoch_named v verify_epoch = 0
epoch_named v (get k w) = 0
epoch_named v (set k w) = 0

-- 2, if not: the verifier is there, the entry can be done, and all that it names is in range
abbrev pub in_range : Limits → State → ℕ → Entry → Bool
in_range l s t e = ((nat_lt t l.verifiers && l.supports (entry_code e)) && good_entry l e) && fits_32 (epoch_named (verifier_at s.verifiers t) e)

-- 4: the store has as much as it may
abbrev pub store_full : Limits → Verifier → Entry → Bool
store_full l v e = is_add e && nat_le l.places (length v.store)

-- 5: the epoch is too far after those certified
abbrev pub too_far_ahead : Limits → State → ℕ → Bool
too_far_ahead l s e = nat_le (s.certified + l.epochs) e

-- why an event isn't looked at, the first that applies: 1 no event; 2 out of range, or an entry that can't be done; 3 the log was wrong before;
-- 4 no room in the store; 5 too far ahead. 0: it is looked at
unfoldable pub refusal : Limits → State → Event → ℕ
refusal l s (malformed n) = 1
refusal l s (logged t e) =
    let v : Verifier = verifier_at s.verifiers t in
    pick (in_range l s t e) (pick s.stopped 3 (pick (store_full l v e) 4 (pick (too_far_ahead l s (epoch_named v e)) 5 0))) 2

unfoldable pub place_of : Event → ℕ
place_of (malformed n) = n
place_of (logged t e) = 0

-- ---- one event: what it leaves, and what it is answered

pub record Response : Type 0 where
  pub state : State
  pub answer : Answer

abbrev pub stop : State → State
stop s =
    record { verifiers = s.verifiers; sums = s.sums; certified = s.certified; stopped = true; adds = s.adds; evicts = s.evicts; hashed = s.hashed; calls = s.calls }

abbrev pub stopping : State → Response
stopping s = record { state = stop s; answer = wrong }

abbrev pub called : ℕ → Verifier → Entry → List Call → List Call
called t v e cs = pick (is_call e) (record { verifier = t; epoch = v.clock.epoch; entry = e } ∷ []) [] ++ cs

-- the state after a right entry, with what is certified then
abbrev pub accepted : Limits → State → ℕ → Entry → Verifier → List Element → List Element → List Record → State
accepted l s t e v added evicted hashes =
    let vs : List Verifier = with_verifier s.verifiers t v in
    let ss : List Sum = evict_elements l.secret (add_elements l.secret s.sums added) evicted in
    record {
      verifiers = vs;
      sums = ss;
      certified = certify (suc l.epochs) vs ss s.certified;
      stopped = false;
      adds = added ++ s.adds;
      evicts = evicted ++ s.evicts;
      hashed = hashes ++ s.hashed;
      calls = called t v e s.calls;
    }

-- VerifyEpoch tells how many epochs are certified
abbrev pub right_answer : Entry → State → Answer
right_answer e s = pick (entry_code e == 6) (certified s.certified) right

unfoldable pub by_step : Limits → State → ℕ → Entry → Step → Response
by_step l s t e fails = stopping s
by_step l s t e (goes v added evicted hashes) =
    let z : State = accepted l s t e v added evicted hashes in
    pick (sums_differ z) (stopping z) (record { state = z; answer = right_answer e z })

unfoldable pub performed : Limits → State → Event → Response
performed l s (malformed n) = record { state = s; answer = refused 1 n }
performed l s (logged t e) = by_step l s t e (verifier_step t (verifier_at s.verifiers t) e)

unfoldable pub respond : Limits → State → Event → Response
respond l s e = pick (refusal l s e == 0) (performed l s e) (record { state = s; answer = refused (refusal l s e) (place_of e) })

abbrev pub after : Limits → State → Event → State
after l s e = (respond l s e).state

abbrev pub answer : Limits → State → Event → Answer
answer l s e = (respond l s e).answer

-- after all events of a log, the last first
unfoldable pub state : Limits → List Event → State
state l [] = new_state l
state l (e ∷ es) = after l (state l es) e

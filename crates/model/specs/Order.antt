-- One order, and the collisions in a log that are the only way out of it: the main promise. Its proof is owed to it, and stands in crate `order`.
-- Assumes nothing: these are definitions.
use Rattle.std.specs.Prelude.{◌≡◌, ℕ, ◌+◌, ◌<◌, Bool, true, false, ◌&&◌, ◌||◌, ◌⊎◌, List, [], ◌∷◌, length, Some, None, ◌==◌, ◌≢◌, nat_lt}
use Rattle.model.specs.Sha256.{sha256}
use Rattle.model.specs.Records.{pick, Bytes, same_bytes, Value, same_value, Record, data_record, merkle_bytes, merkle_hash}
use Rattle.model.specs.Verifier.{Entry, add_merkle, add_blum, evict_merkle, evict_blum, evict_blum_merkle, next_epoch, verify_epoch, get, set, Element}
use Rattle.model.specs.Monitor.{Limits, Event, Call, State, sum_at, element_bytes, state}

-- ---- one store that does one call after the other; calls have the last first

-- what a key has after an entry, if it had v before
unfoldable pub value_after_entry : Entry → Bytes → Value → Value
value_after_entry (add_merkle r q) k v = v
value_after_entry (add_blum r m j) k v = v
value_after_entry (evict_merkle p q) k v = v
value_after_entry (evict_blum p m) k v = v
value_after_entry (evict_blum_merkle p q m) k v = v
value_after_entry next_epoch k v = v
value_after_entry verify_epoch k v = v
value_after_entry (get j w) k v = v
value_after_entry (set j w) k v = pick (same_bytes j k) (Some w) v

unfoldable pub value_after : List Call → Bytes → Value
value_after [] k = None
value_after (c ∷ cs) k = value_after_entry c.entry k (value_after cs k)

-- a get has what was set last
unfoldable pub get_right : Entry → List Call → Bool
get_right (add_merkle r q) cs = true
get_right (add_blum r m j) cs = true
get_right (evict_merkle p q) cs = true
get_right (evict_blum p m) cs = true
get_right (evict_blum_merkle p q m) cs = true
get_right next_epoch cs = true
get_right verify_epoch cs = true
get_right (get k v) cs = same_value (value_after cs k) v
get_right (set k w) cs = true

unfoldable pub gets_right : List Call → Bool
gets_right [] = true
gets_right (c ∷ cs) = get_right c.entry cs && gets_right cs

-- ---- one order

-- calls in the epochs below n
unfoldable pub in_epochs_below : ℕ → List Call → List Call
in_epochs_below n [] = []
in_epochs_below n (c ∷ cs) = pick (nat_lt c.epoch n) (c ∷ in_epochs_below n cs) (in_epochs_below n cs)

abbrev pub certified_calls : State → List Call
certified_calls s = in_epochs_below s.certified s.calls

unfoldable pub of_verifier : ℕ → List Call → List Call
of_verifier t [] = []
of_verifier t (c ∷ cs) = pick (t == c.verifier) (c ∷ of_verifier t cs) (of_verifier t cs)

-- one order of all calls in certified epochs, in which each verifier's are in its own order, and each get has what was set last
abbrev pub OneOrder : State → Type 0
OneOrder s = (os : List Call) × ((gets_right os ≡ true) × ((t : ℕ) → of_verifier t os ≡ of_verifier t (certified_calls s)) × (length os ≡ length (certified_calls s)))

-- ---- collisions in the log itself

abbrev pub Member : {A : Type 0} → A → List A → Type 0
Member x [] = ⊥
Member x (y ∷ ys) = (x ≡ y) ⊎ Member x ys

-- two records that were hashed, with other bytes and one hash
abbrev pub ValuesCollide : List Record → Type 0
ValuesCollide hs = (r q : Record) × (Member r hs × Member q hs × (same_bytes (merkle_bytes r) (merkle_bytes q) ≡ false) × (merkle_hash r ≡ merkle_hash q))

-- two keys of records that were hashed, with one SHA-256
abbrev pub KeysCollide : List Record → Type 0
KeysCollide hs =
    (j k : Bytes) × ((v w : Value) × (Member (data_record j v) hs × Member (data_record k w) hs × (same_bytes j k ≡ false) × (sha256 j ≡ sha256 k)))

-- how often an element is among others of its epoch, by its bytes
unfoldable pub times_in : Element → List Element → ℕ
times_in x [] = 0
times_in x (y ∷ ys) = pick (y.timestamp.epoch == x.timestamp.epoch && same_bytes (element_bytes x) (element_bytes y)) 1 0 + times_in x ys

-- an element of a certified epoch that was added, but not as often as it was evicted, although the epoch's sums are the same
abbrev pub SumsCollide : State → Type 0
SumsCollide s =
    (x : Element) × (Member x s.adds × (x.timestamp.epoch < s.certified) × (times_in x s.adds ≢ times_in x s.evicts)
    × ((sum_at s.sums x.timestamp.epoch).added ≡ (sum_at s.sums x.timestamp.epoch).evicted))

-- ---- THE MAIN PROMISE: after any log, by anyone, all that was asked in certified epochs is in one order, or two things in this very log collide

abbrev pub OneOrderOrCollision : State → Type 0
OneOrderOrCollision s = OneOrder s ⊎ (ValuesCollide s.hashed ⊎ (KeysCollide s.hashed ⊎ SumsCollide s))

unfoldable pub CertifiedIsOne : Type 0
CertifiedIsOne = (l : Limits) (es : List Event) → OneOrderOrCollision (state l es)

-- without sums, nothing needs to be certified: all calls so far, in the log's own order
abbrev pub merkle_only : ℕ → Bool
merkle_only k = k == 0 || (k == 2 || (k == 7 || k == 8))

abbrev pub OneOrderNow : State → Type 0
OneOrderNow s = gets_right s.calls ≡ true

unfoldable pub OneByTheTree : Type 0
OneByTheTree =
    (l : Limits) (es : List Event) → ((k : ℕ) → l.supports k ≡ merkle_only k) → OneOrderNow (state l es) ⊎ (ValuesCollide (state l es).hashed ⊎ KeysCollide (state l es).hashed)

abbrev pub all_entries : ℕ → Bool
all_entries k = true

-- What else is true of every log, in eight statements. Each is a type whose proof is owed to it; crate `order` has the proofs. Assumes nothing.
use Rattle.std.specs.Prelude.{◌≡◌, ℕ, ◌+◌, ◌%◌, ◌<◌, ◌≤◌, Bool, true, false, ◌&&◌, ◌||◌, ◌⊎◌, List, [], ◌∷◌, ◌++◌, ◌==◌}
use Rattle.model.specs.Records.{pick, Bytes, same_bytes, Path, Record, path_of, record_bytes}
use Rattle.model.specs.Verifier.{Timestamp, earlier_with, add_blum, evict_blum, evict_blum_merkle, Stored, Element, stores}
use Rattle.model.specs.Monitor.{Limits, Event, logged, Answer, refused, wrong, right, State, sum_at, modulus, element_hash, refusal, answer, after, state, verifier_at}
use Rattle.model.specs.Order.{in_epochs_below, certified_calls}
use Rattle.model.specs.Readable.{readable_record}

unfoldable pub of_epoch : ℕ → List Element → List Element
of_epoch n [] = []
of_epoch n (x ∷ xs) = pick (x.timestamp.epoch == n) (x ∷ of_epoch n xs) (of_epoch n xs)

-- 1. what is certified stays so, and nothing later is in a certified epoch: not a call, an element or a sum
pub record SameEpoch (n : ℕ) (s z : State) : Type 0 where
  pub adds : of_epoch n z.adds ≡ of_epoch n s.adds
  pub evicts : of_epoch n z.evicts ≡ of_epoch n s.evicts
  pub sums : sum_at z.sums n ≡ sum_at s.sums n

unfoldable pub StaysCertified : Type 0
StaysCertified =
    (l : Limits) (es : List Event) (e : Event) →
    ((state l es).certified ≤ (state l (e ∷ es)).certified) × (in_epochs_below (state l es).certified (state l (e ∷ es)).calls ≡ certified_calls (state l es))
    × ((n : ℕ) → n < (state l es).certified → SameEpoch n (state l es) (state l (e ∷ es)))

-- 2. no path is evicted by Blum twice at one timestamp by one verifier
abbrev pub same_eviction : Element → Element → Bool
same_eviction x y =
    same_bytes (path_of x.rec) (path_of y.rec) && (x.timestamp.epoch == y.timestamp.epoch && (x.timestamp.counter == y.timestamp.counter && x.verifier == y.verifier))

unfoldable pub evicted_again : Element → List Element → Bool
evicted_again x [] = false
evicted_again x (y ∷ ys) = same_eviction x y || evicted_again x ys

unfoldable pub evicted_twice : List Element → Bool
evicted_twice [] = false
evicted_twice (x ∷ xs) = evicted_again x xs || evicted_twice xs

unfoldable pub EvictedOnce : Type 0
EvictedOnce = (l : Limits) (es : List Event) → evicted_twice (state l es).evicts ≡ false

-- 3. the sums are the sums of what was added and evicted
unfoldable pub sum_of : Bytes → ℕ → List Element → ℕ
sum_of k e [] = 0
sum_of k e (x ∷ xs) = pick (x.timestamp.epoch == e) ((element_hash k x + sum_of k e xs) % modulus) (sum_of k e xs)

unfoldable pub SumsAreSums : Type 0
SumsAreSums =
    (l : Limits) (es : List Event) (e : ℕ) →
    ((sum_at (state l es).sums e).added ≡ sum_of l.secret e (state l es).adds) × ((sum_at (state l es).sums e).evicted ≡ sum_of l.secret e (state l es).evicts)

-- 4. a store has each path once
unfoldable pub stored_twice : List Stored → Bool
stored_twice [] = false
stored_twice (x ∷ xs) = stores (path_of x.rec) xs || stored_twice xs

unfoldable pub StoredOnce : Type 0
StoredOnce = (l : Limits) (es : List Event) (t : ℕ) → stored_twice (verifier_at (state l es).verifiers t).store ≡ false

-- 5. a clock never goes back
abbrev pub NotLater : Timestamp → Timestamp → Type 0
NotLater a b = (a.epoch < b.epoch) ⊎ ((a.epoch ≡ b.epoch) × (a.counter ≤ b.counter))

abbrev pub Earlier : Timestamp → Timestamp → Type 0
Earlier a b = (a.epoch < b.epoch) ⊎ ((a.epoch ≡ b.epoch) × (a.counter < b.counter))

abbrev pub clock_of : State → ℕ → Timestamp
clock_of s t = (verifier_at s.verifiers t).clock

abbrev pub last_of : State → ℕ → Path
last_of s t = (verifier_at s.verifiers t).last_evicted

unfoldable pub ClockAdvances : Type 0
ClockAdvances = (l : Limits) (es : List Event) (e : Event) (t : ℕ) → NotLater (clock_of (state l es) t) (clock_of (state l (e ∷ es)) t)

-- an AddBlum leaves it past the timestamp named
unfoldable pub AddBlumPasses : Type 0
AddBlumPasses =
    (l : Limits) (es : List Event) (t j : ℕ) (r : Record) (m : Timestamp) → answer l (state l es) (logged t (add_blum r m j)) ≡ right →
    Earlier m (clock_of (state l (logged t (add_blum r m j) ∷ es)) t)

-- an EvictBlum or EvictBlumMerkle leaves it, with the path evicted, later than it was with the path evicted before: at the timestamp named
abbrev pub MovedOn : State → State → ℕ → Path → Timestamp → Type 0
MovedOn s z t p m = (earlier_with (clock_of s t) (last_of s t) (clock_of z t) (last_of z t) ≡ true) × (clock_of z t ≡ m) × (last_of z t ≡ p)

unfoldable pub EvictBlumAdvances : Type 0
EvictBlumAdvances =
    (l : Limits) (es : List Event) (t : ℕ) (p : Path) (m : Timestamp) → answer l (state l es) (logged t (evict_blum p m)) ≡ right →
    MovedOn (state l es) (state l (logged t (evict_blum p m) ∷ es)) t p m

unfoldable pub EvictBlumMerkleAdvances : Type 0
EvictBlumMerkleAdvances =
    (l : Limits) (es : List Event) (t : ℕ) (p q : Path) (m : Timestamp) → answer l (state l es) (logged t (evict_blum_merkle p q m)) ≡ right →
    MovedOn (state l es) (state l (logged t (evict_blum_merkle p q m) ∷ es)) t p m

-- 6. a log that was wrong is never right again: its state stays, and it answers nothing but refusals ever after
unfoldable pub StaysStopped : Type 0
StaysStopped = (l : Limits) (s : State) (e : Event) → s.stopped ≡ true → after l s e ≡ s

abbrev pub IsRefusal : Answer → Type 0
IsRefusal a = (n : ℕ) × ((place : ℕ) × ((0 < n) × (a ≡ refused n place)))

unfoldable pub WrongIsFinal : Type 0
WrongIsFinal =
    (l : Limits) (es : List Event) (e : Event) (more : List Event) (f : Event) → answer l (state l es) e ≡ wrong → IsRefusal (answer l (state l (more ++ (e ∷ es))) f)

-- 7. records with the same bytes are the same
unfoldable pub BytesDetermine : Type 0
BytesDetermine = (r q : Record) → readable_record r ≡ true → readable_record q ≡ true → same_bytes (record_bytes r) (record_bytes q) ≡ true → r ≡ q

-- 8. what is refused changes nothing
unfoldable pub RefusedUnchanged : Type 0
RefusedUnchanged = (l : Limits) (s : State) (e : Event) → 0 < refusal l s e → after l s e ≡ s

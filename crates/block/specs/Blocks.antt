-- One verifier's block of words: 64 of its own, and then its store.
-- Words: 0 and 1 its clock, epoch and counter; 2 the length of the path that it evicted last by Blum, 3 to 6 that path's bits;
-- 7 how many epochs it is done with; 8 the salt of its store.
use Rattle.std.specs.Prelude.{◌≡◌, ℕ, ◌+◌, ◌*◌, true, false, List, length, is_ok, Result, slice_index, slice_index_or}
use Rattle.model.specs.Records.{Path}
use Rattle.model.specs.Verifier.{Timestamp, Verifier, Step, fails, goes}
use Rattle.path.specs.Packs.{path_in, Packs}
use Rattle.slot.specs.Parts.{part}
use Rattle.store.specs.Holding.{Holds, Walked}
use Rattle.store.specs.declared.StoreRef.{StoreRef}

abbrev pub block_words : ℕ → ℕ
block_words n = 64 + 192 * n

abbrev pub clock_in : List ℕ → Timestamp
clock_in b = record { epoch = slice_index b 0; counter = slice_index b 1 }

abbrev pub last_in : List ℕ → Path
last_in b = path_in (slice_index b 2) (part 3 4 b)

abbrev pub salt_in : List ℕ → ℕ
salt_in b = slice_index b 8

abbrev pub store_in : ℕ → List ℕ → List ℕ
store_in n b = part 64 (192 * n) b

-- these are the words of the block's store, with its salt
pub record IsStoreOf (n : ℕ) (b : List ℕ) (s : StoreRef) : Type 0 where
  pub words : s.words.now ≡ store_in n b
  pub places : s.places ≡ n
  pub salt : s.salt ≡ salt_in b

-- the words keep the verifier
pub record Keeps (n : ℕ) (b : List ℕ) (v : Verifier) : Type 0 where
  pub size : length b ≡ block_words n
  pub clock : clock_in b ≡ v.clock
  pub packs : Packs (slice_index b 2) (part 3 4 b)
  pub last : last_in b ≡ v.last_evicted
  pub done : slice_index_or b 7 0 ≡ v.done
  pub store : Holds n (salt_in b) (store_in n b) v.store

-- a walk in the block's store leads to slot i
pub record Leads (n : ℕ) (b : List ℕ) (k : ℕ) (ws : List ℕ) (i : ℕ) : Type 0 where
  pub walked : Walked n (salt_in b) (store_in n b) k ws i

-- a verifier with another clock and last evicted path, or done with another number of epochs
abbrev pub with_clock : Verifier → Timestamp → Path → Verifier
with_clock v m p = record { clock = m; last_evicted = p; store = v.store; done = v.done }

abbrev pub with_done : Verifier → ℕ → Verifier
with_done v d = record { clock = v.clock; last_evicted = v.last_evicted; store = v.store; done = d }

-- what an entry answered, and what it left, by what the step says
abbrev pub Taken : {A E : Type 0} → ℕ → List ℕ → Result A E → Step → Type 0
Taken n b r fails = is_ok r ≡ false
Taken n b r (goes v added evicted hashed) = (is_ok r ≡ true) × Keeps n b v

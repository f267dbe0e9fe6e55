-- Records in n slots, found by n chains of which the last has the free slots: 2 n words of the chains, and then the slots.
use Rattle.std.specs.Prelude.{◌≡◌, ℕ, zero, suc, ◌+◌, ◌-◌, ◌*◌, ◌/◌, ◌%◌, ◌^◌, ◌<◌, ◌≤◌, true, List, [], ◌∷◌, map, length, replicate, bit_or, bit_xor, slice_index, slice_index_or, slice_set}
use Rattle.model.specs.Records.{Path}
use Rattle.model.specs.Verifier.{Stored, find}
use Rattle.path.specs.Packs.{path_in, Packs, Fit}
use Rattle.slot.specs.Parts.{part}
use Rattle.slot.specs.Layout.{slot_words, stored_in, Slot}
use Rattle.slot.specs.Finds.{position, all_at}
use Rattle.index.specs.Chains.{Index, has, Chain, says}

-- ---- which chain a path is in

-- the two halves of a product, together
abbrev pub halves : ℕ → ℕ
halves p = bit_xor (p % 2 ^ 64) (p / 2 ^ 64)

-- words mixed by products with a number
unfoldable pub mixed : ℕ → ℕ → List ℕ → ℕ
mixed by h [] = h
mixed by h (w ∷ ws) = mixed by (halves (bit_xor h w * by % 2 ^ 128)) ws

-- by a salt, which is secret, so that nobody can choose paths that are all in one chain
unfoldable pub home : ℕ → ℕ → ℕ → List ℕ → ℕ
home n salt k ws = mixed (bit_or salt 1) (bit_xor salt k) ws % (n - 1)

abbrev pub slot_home : ℕ → ℕ → List ℕ → ℕ
slot_home n salt w = home n salt (slice_index w 2) (part 3 4 w)

-- ---- what is held

abbrev pub slot_at : ℕ → List ℕ → ℕ → List ℕ
slot_at n m i = part (2 * n + i * slot_words) slot_words m

abbrev pub stored_at : ℕ → List ℕ → ℕ → Stored
stored_at n m i = stored_in (slot_at n m i)

unfoldable pub total : List (List ℕ) → ℕ
total [] = 0
total (c ∷ cs) = length c + total cs

-- a path in four words
pub record Packing (k : ℕ) (ws : List ℕ) : Type 0 where
  pub four : length ws ≡ 4
  pub packs : Packs k ws
  pub fit : Fit ws

-- the words hold what is stored, by these chains
pub record Held (n salt : ℕ) (m : List ℕ) (cs : List (List ℕ)) (ss : List Stored) : Type 0 where
  pub few : 2 ≤ n
  pub index : Index n (part 0 (2 * n) m) cs
  pub whole : total cs ≤ n
  pub count : length ss + length (slice_index_or cs (n - 1) []) ≡ n
  pub slots : (b i : ℕ) → b < n - 1 → has i (slice_index_or cs b []) ≡ true → Slot (slot_at n m i)
  pub homes : (b i : ℕ) → b < n - 1 → has i (slice_index_or cs b []) ≡ true → slot_home n salt (slot_at n m i) ≡ b
  pub same : (k : ℕ) (ws : List ℕ) → Packing k ws → all_at (path_in k ws) (map (stored_at n m) (slice_index_or cs (home n salt k ws) [])) ≡ all_at (path_in k ws) ss

abbrev pub Holds : ℕ → ℕ → List ℕ → List Stored → Type 0
Holds n salt m ss = (cs : List (List ℕ)) × Held n salt m cs ss

-- where a path is found, or n
pub record Found (n : ℕ) (m : List ℕ) (ss : List Stored) (p : Path) (r : ℕ) : Type 0 where
  pub some : r < n → find p ss ≡ stored_at n m r ∷ []
  pub slot : r < n → Slot (slot_at n m r)
  pub none : n ≤ r → find p ss ≡ []

-- a walk of the path's chain ends at r
pub record Walked (n salt : ℕ) (m : List ℕ) (k : ℕ) (ws : List ℕ) (r : ℕ) : Type 0 where
  pub packing : Packing k ws
  pub fit : Fit m
  pub ends : (is : List ℕ) → Chain n (part 0 (2 * n) m) (slice_index (part 0 (2 * n) m) (home n salt k ws)) is → length is ≤ n → r ≡ slice_index_or is (position (λ i. says k ws (slot_at n m i)) is) n

-- slot r is the one in use for the path in its words
abbrev pub InUse : ℕ → ℕ → List ℕ → ℕ → Type 0
InUse n salt m r = Walked n salt m (slice_index (slot_at n m r) 2) (part 3 4 (slot_at n m r)) r

-- x was added to ss, and is in slot r
pub record Added (n salt : ℕ) (m : List ℕ) (ss : List Stored) (x : Stored) (r : ℕ) : Type 0 where
  pub holds : Holds n salt m (x ∷ ss)
  pub in_use : InUse n salt m r
  pub stored : stored_at n m r ≡ x

-- ---- at first

-- the slots below i, the last first
unfoldable pub slots_below : ℕ → List ℕ
slots_below zero = []
slots_below (suc i) = i ∷ slots_below i

-- the chains where the slots below i are free, and no other is in one
abbrev pub free_below : ℕ → ℕ → List (List ℕ)
free_below n i = slice_set (replicate n []) (n - 1) (slots_below i)

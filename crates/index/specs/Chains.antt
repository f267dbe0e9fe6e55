-- Slots by a hash of their paths: word b holds the first of bucket b, word n + i what comes after slot i; 0 is none, and i + 1 is slot i.
use Rattle.std.specs.Prelude.{◌≡◌, ℕ, suc, ◌+◌, ◌*◌, ◌<◌, ◌≤◌, Bool, true, false, ◌&&◌, ◌||◌, List, [], ◌∷◌, length, Option, Some, None, ◌==◌, slice_index, slice_index_or}
use Rattle.model.specs.Records.{same_bytes}
use Rattle.slot.specs.Parts.{part}
use Rattle.slot.specs.Layout.{slot_words}

-- from this link on come these slots, and no more
unfoldable pub Chain : ℕ → List ℕ → ℕ → List ℕ → Type 0
Chain n m h [] = h ≡ 0
Chain n m h (i ∷ is) = (h ≡ suc i) × (i < n) × Chain n m (slice_index m (n + i)) is

-- the word that holds the link after these
unfoldable pub link_after : ℕ → ℕ → List ℕ → ℕ
link_after n b [] = b
link_after n b (i ∷ is) = link_after n (n + i) is

unfoldable pub has : ℕ → List ℕ → Bool
has i [] = false
has i (j ∷ js) = i == j || has i js

-- the words of a slot say this path
abbrev pub says : ℕ → List ℕ → List ℕ → Bool
says n bs w = slice_index w 2 == n && same_bytes (part 3 4 w) bs

abbrev pub says_at : ℕ → List ℕ → List ℕ → ℕ → Bool
says_at n bs m i = says n bs (part (i * slot_words) slot_words m)

-- a place, or n for none
abbrev pub place_or : ℕ → Option ℕ → ℕ
place_or n (Some i) = i
place_or n None = n

unfoldable pub Once : List ℕ → Type 0
Once [] = Unit {0}
Once (i ∷ is) = (has i is ≡ false) × Once is

-- the chain of each of n buckets; a slot is in one of them once
pub record Index (n : ℕ) (m : List ℕ) (cs : List (List ℕ)) : Type 0 where
  pub size : length cs ≡ n
  pub room : 2 * n ≤ length m
  pub chain : (b : ℕ) → b < n → Chain n m (slice_index m b) (slice_index_or cs b [])
  pub once : (b : ℕ) → b < n → Once (slice_index_or cs b [])
  pub apart : (b c i : ℕ) → b < n → c < n → has i (slice_index_or cs b []) ≡ true → has i (slice_index_or cs c []) ≡ true → b ≡ c

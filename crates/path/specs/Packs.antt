-- Paths packed into words: 64 bits to a word, the high bit first. For any number of words.
use Rattle.std.specs.Prelude.{◌≡◌, ℕ, ◌-◌, ◌*◌, ◌^◌, ◌<◌, ◌≤◌, List, [], ◌∷◌, ◌++◌, length, take, drop, replicate, slice_index}
use Rattle.model.specs.Records.{Path, bits}

unfoldable pub word_bits : List ℕ → List ℕ
word_bits [] = []
word_bits (w ∷ ws) = bits 64 w ++ word_bits ws

-- the path of n bits in these words
abbrev pub path_in : ℕ → List ℕ → Path
path_in n ws = take n (word_bits ws)

-- a path of n bits in these words, and no bit set past it
abbrev pub Packs : ℕ → List ℕ → Type 0
Packs n ws = (n ≤ 64 * length ws) × (drop n (word_bits ws) ≡ replicate (64 * length ws - n) 0)

-- each word has 64 bits
abbrev pub Fit : List ℕ → Type 0
Fit ws = (i : ℕ) → slice_index ws i < 2 ^ 64

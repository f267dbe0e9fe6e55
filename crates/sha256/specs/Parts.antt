-- The parts of the model's SHA-256 under names that stay shut in a proof until it opens them, for the contracts of the inner functions.
use Rattle.std.specs.Prelude.{ℕ, ◌-◌, ◌%◌, List, [], ◌∷◌, ◌++◌, length, replicate, slice_index}
use Rattle.model.specs.Sha256 as model
use Rattle.model.specs.Sha256.{State, add_32, rounds, extend_schedule, be_words, be_bytes, compress, block_count, padded}
use Rattle.model.specs.Records.{le_number}

unfoldable pub big_sigma_0 : ℕ → ℕ
big_sigma_0 x = model.big_sigma_0 x

unfoldable pub big_sigma_1 : ℕ → ℕ
big_sigma_1 x = model.big_sigma_1 x

unfoldable pub small_sigma_0 : ℕ → ℕ
small_sigma_0 x = model.small_sigma_0 x

unfoldable pub small_sigma_1 : ℕ → ℕ
small_sigma_1 x = model.small_sigma_1 x

unfoldable pub ch : ℕ → ℕ → ℕ → ℕ
ch x y z = model.ch x y z

unfoldable pub maj : ℕ → ℕ → ℕ → ℕ
maj x y z = model.maj x y z

unfoldable pub round_constants : List ℕ
round_constants = model.round_constants

unfoldable pub initial_state : State
initial_state = model.initial_state

-- ---- one block

-- the word of the message schedule that follows the words w, of which there are at least sixteen
unfoldable pub next_word : List ℕ → ℕ
next_word w =
    add_32 (add_32 (small_sigma_1 (slice_index w (length w - 2))) (slice_index w (length w - 7)))
    (add_32 (small_sigma_0 (slice_index w (length w - 15))) (slice_index w (length w - 16)))

-- one round, over a word of the schedule with the round's constant added
unfoldable pub round : State → ℕ → State
round s x =
    let t : ℕ = add_32 (add_32 s.h (big_sigma_1 s.e)) (add_32 (ch s.e s.f s.g) x) in
    record { a = add_32 t (add_32 (big_sigma_0 s.a) (maj s.a s.b s.c)); b = s.a; c = s.b; d = s.c; e = add_32 s.d t; f = s.e; g = s.f; h = s.g }

unfoldable pub rounds_on : State → List ℕ → State
rounds_on s [] = s
rounds_on s (x ∷ xs) = rounds_on (round s x) xs

-- constants and words, added
unfoldable pub add_words : List ℕ → List ℕ → List ℕ
add_words [] ws = []
add_words (k ∷ ks) [] = []
add_words (k ∷ ks) (w ∷ ws) = add_32 k w ∷ add_words ks ws

unfoldable pub add_states : State → State → State
add_states s t = model.add_states s t

unfoldable pub compress_block : State → List ℕ → State
compress_block s block = add_states s (rounds s round_constants (extend_schedule 48 (be_words block)))

-- ---- a message

unfoldable pub bit_length_bytes : ℕ → List ℕ
bit_length_bytes n = model.bit_length_bytes n

-- what is put behind a message of n bytes
unfoldable pub padding : ℕ → List ℕ
padding n = 128 ∷ (replicate ((119 - n % 64) % 64) 0 ++ bit_length_bytes n)

-- the state after the last block
unfoldable pub final_state : List ℕ → State
final_state m = compress (block_count m) initial_state (padded m)

-- eight bytes of the digest, as a number
unfoldable pub limb_of : ℕ → ℕ → ℕ
limb_of x y = le_number (be_bytes x ++ be_bytes y)

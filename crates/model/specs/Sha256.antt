-- SHA-256 on lists of bytes, as FIPS 180-4 has it (the sections named are the standard's). Assumes nothing: these are definitions.
use Rattle.std.specs.Prelude.{ℕ, zero, suc, ◌+◌, ◌-◌, ◌*◌, ◌/◌, ◌%◌, ◌^◌, Bool, true, false, ◌&&◌, List, [], ◌∷◌, ◌++◌, length, take, drop, replicate, ◌==◌, slice_index}

-- ---- operations on words of 32 bits (section 3.2)

abbrev bit_if : Bool → ℕ → ℕ → ℕ
bit_if true a b = a
bit_if false a b = b

-- the low n bits of two numbers: those in both, and those in just one
unfoldable pub and_bits : ℕ → ℕ → ℕ → ℕ
and_bits zero a b = 0
and_bits (suc n) a b = bit_if (a % 2 == 1 && b % 2 == 1) 1 0 + 2 * and_bits n (a / 2) (b / 2)

unfoldable pub xor_bits : ℕ → ℕ → ℕ → ℕ
xor_bits zero a b = 0
xor_bits (suc n) a b = bit_if (a % 2 == b % 2) 0 1 + 2 * xor_bits n (a / 2) (b / 2)

abbrev pub land : ℕ → ℕ → ℕ
land a b = and_bits 32 a b

abbrev pub lxor : ℕ → ℕ → ℕ
lxor a b = xor_bits 32 a b

abbrev pub add_32 : ℕ → ℕ → ℕ
add_32 a b = (a + b) % 4294967296

-- shifted and rotated to the right by n bits
abbrev pub shr : ℕ → ℕ → ℕ
shr n x = x / 2 ^ n

abbrev pub rotr : ℕ → ℕ → ℕ
rotr n x = x / 2 ^ n + (x % 2 ^ n) * 2 ^ (32 - n)

-- ---- functions and constants (sections 4.1.2 and 4.2.2)

abbrev pub big_sigma_0 : ℕ → ℕ
big_sigma_0 x = lxor (rotr 2 x) (lxor (rotr 13 x) (rotr 22 x))

abbrev pub big_sigma_1 : ℕ → ℕ
big_sigma_1 x = lxor (rotr 6 x) (lxor (rotr 11 x) (rotr 25 x))

abbrev pub small_sigma_0 : ℕ → ℕ
small_sigma_0 x = lxor (rotr 7 x) (lxor (rotr 18 x) (shr 3 x))

abbrev pub small_sigma_1 : ℕ → ℕ
small_sigma_1 x = lxor (rotr 17 x) (lxor (rotr 19 x) (shr 10 x))

abbrev pub ch : ℕ → ℕ → ℕ → ℕ
ch x y z = lxor (land x y) (land (4294967295 - x) z)

abbrev pub maj : ℕ → ℕ → ℕ → ℕ
maj x y z = lxor (land x y) (lxor (land x z) (land y z))

abbrev pub round_constants : List ℕ
round_constants =
    0x428a2f98 ∷ 0x71374491 ∷ 0xb5c0fbcf ∷ 0xe9b5dba5 ∷ 0x3956c25b ∷ 0x59f111f1 ∷ 0x923f82a4 ∷ 0xab1c5ed5 ∷
    0xd807aa98 ∷ 0x12835b01 ∷ 0x243185be ∷ 0x550c7dc3 ∷ 0x72be5d74 ∷ 0x80deb1fe ∷ 0x9bdc06a7 ∷ 0xc19bf174 ∷
    0xe49b69c1 ∷ 0xefbe4786 ∷ 0x0fc19dc6 ∷ 0x240ca1cc ∷ 0x2de92c6f ∷ 0x4a7484aa ∷ 0x5cb0a9dc ∷ 0x76f988da ∷
    0x983e5152 ∷ 0xa831c66d ∷ 0xb00327c8 ∷ 0xbf597fc7 ∷ 0xc6e00bf3 ∷ 0xd5a79147 ∷ 0x06ca6351 ∷ 0x14292967 ∷
    0x27b70a85 ∷ 0x2e1b2138 ∷ 0x4d2c6dfc ∷ 0x53380d13 ∷ 0x650a7354 ∷ 0x766a0abb ∷ 0x81c2c92e ∷ 0x92722c85 ∷
    0xa2bfe8a1 ∷ 0xa81a664b ∷ 0xc24b8b70 ∷ 0xc76c51a3 ∷ 0xd192e819 ∷ 0xd6990624 ∷ 0xf40e3585 ∷ 0x106aa070 ∷
    0x19a4c116 ∷ 0x1e376c08 ∷ 0x2748774c ∷ 0x34b0bcb5 ∷ 0x391c0cb3 ∷ 0x4ed8aa4a ∷ 0x5b9cca4f ∷ 0x682e6ff3 ∷
    0x748f82ee ∷ 0x78a5636f ∷ 0x84c87814 ∷ 0x8cc70208 ∷ 0x90befffa ∷ 0xa4506ceb ∷ 0xbef9a3f7 ∷ 0xc67178f2 ∷ []

-- ---- one block (section 6.2)

pub record State : Type 0 where
  pub a : ℕ
  pub b : ℕ
  pub c : ℕ
  pub d : ℕ
  pub e : ℕ
  pub f : ℕ
  pub g : ℕ
  pub h : ℕ

-- section 5.3.3
abbrev pub initial_state : State
initial_state = record { a = 0x6a09e667; b = 0xbb67ae85; c = 0x3c6ef372; d = 0xa54ff53a; e = 0x510e527f; f = 0x9b05688c; g = 0x1f83d9ab; h = 0x5be0cd19 }

-- the message schedule: n more words, each from the sixteen before it
unfoldable pub extend_schedule : ℕ → List ℕ → List ℕ
extend_schedule zero w = w
extend_schedule (suc n) w =
    extend_schedule n (w ++ (add_32 (add_32 (small_sigma_1 (slice_index w (length w - 2))) (slice_index w (length w - 7))) (add_32 (small_sigma_0 (slice_index w (length w - 15))) (slice_index w (length w - 16))) ∷ []))

abbrev pub round : State → ℕ → ℕ → State
round s k w =
    let t : ℕ = add_32 (add_32 s.h (big_sigma_1 s.e)) (add_32 (ch s.e s.f s.g) (add_32 k w)) in
    record { a = add_32 t (add_32 (big_sigma_0 s.a) (maj s.a s.b s.c)); b = s.a; c = s.b; d = s.c; e = add_32 s.d t; f = s.e; g = s.f; h = s.g }

unfoldable pub rounds : State → List ℕ → List ℕ → State
rounds s [] ws = s
rounds s (k ∷ ks) [] = s
rounds s (k ∷ ks) (w ∷ ws) = rounds (round s k w) ks ws

abbrev pub add_states : State → State → State
add_states s t =
    record { a = add_32 s.a t.a; b = add_32 s.b t.b; c = add_32 s.c t.c; d = add_32 s.d t.d; e = add_32 s.e t.e; f = add_32 s.f t.f; g = add_32 s.g t.g; h = add_32 s.h t.h }

-- ---- messages (sections 5.1 and 5.2)

-- bytes to words, the high byte first, and back
unfoldable pub be_words : List ℕ → List ℕ
be_words [] = []
be_words (a ∷ []) = []
be_words (a ∷ (b ∷ [])) = []
be_words (a ∷ (b ∷ (c ∷ []))) = []
be_words (a ∷ (b ∷ (c ∷ (d ∷ xs)))) = (((a * 256 + b) * 256 + c) * 256 + d) ∷ be_words xs

abbrev pub be_bytes : ℕ → List ℕ
be_bytes w = (w / 16777216) ∷ (((w / 65536) % 256) ∷ (((w / 256) % 256) ∷ ((w % 256) ∷ [])))

-- a message with its padding: 128, as many zeros as it takes, and its length in bits, in 64 bits (the standard has no longer message)
abbrev pub bit_length_bytes : ℕ → List ℕ
bit_length_bytes n = be_bytes (8 * n / 4294967296 % 4294967296) ++ be_bytes (8 * n % 4294967296)

abbrev pub padded : List ℕ → List ℕ
padded m = m ++ (128 ∷ (replicate ((119 - length m % 64) % 64) 0 ++ bit_length_bytes (length m)))

-- n blocks of 64 bytes, one after the other
unfoldable pub compress : ℕ → State → List ℕ → State
compress zero s m = s
compress (suc n) s m = compress n (add_states s (rounds s round_constants (extend_schedule 48 (be_words (take 64 m))))) (drop 64 m)

abbrev pub state_bytes : State → List ℕ
state_bytes s = be_bytes s.a ++ (be_bytes s.b ++ (be_bytes s.c ++ (be_bytes s.d ++ (be_bytes s.e ++ (be_bytes s.f ++ (be_bytes s.g ++ be_bytes s.h))))))

-- how many blocks are hashed for a message
abbrev pub block_count : List ℕ → ℕ
block_count m = length (padded m) / 64

unfoldable pub sha256 : List ℕ → List ℕ
sha256 m = state_bytes (compress (block_count m) initial_state (padded m))

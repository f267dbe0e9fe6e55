-- Numbers and bytes in limbs of 64 bits, the low one first.
use Rattle.std.specs.Prelude.{◌≡◌, ℕ, ◌+◌, ◌*◌, ◌^◌, ◌<◌, List, [], ◌∷◌, ◌++◌, length, slice_index}
use Rattle.model.specs.Records.{Bytes, le_bytes}

unfoldable pub limbs_number : List ℕ → ℕ
limbs_number [] = 0
limbs_number (x ∷ xs) = x + 18446744073709551616 * limbs_number xs

unfoldable pub limbs_bytes : List ℕ → Bytes
limbs_bytes [] = []
limbs_bytes (x ∷ xs) = le_bytes 8 x ++ limbs_bytes xs

-- n limbs, each below 2^64
pub record Limbs (n : ℕ) (xs : List ℕ) : Type 0 where
  pub count : length xs ≡ n
  pub fit : (i : ℕ) → slice_index xs i < 2 ^ 64

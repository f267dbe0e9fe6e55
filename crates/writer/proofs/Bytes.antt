-- The bytes of numbers, as they are listed.
use Rattle.std.proofs.Common.{◌≡◌, ℕ, ◌/◌, ◌%◌, [], ◌∷◌, refl, arith}
use Rattle.model.specs.Records.{le_bytes}

-- as to_le_bytes has them
pub eight_bytes : (n : ℕ)
    → (n % 256) ∷ ((n / 256 % 256) ∷ ((n / 65536 % 256) ∷ ((n / 16777216 % 256) ∷ ((n / 4294967296 % 256) ∷ ((n / 1099511627776 % 256) ∷ ((n / 281474976710656 % 256) ∷ ((n / 72057594037927936 % 256) ∷ [])))))))
    ≡ le_bytes 8 n
unfolding le_bytes
eight_bytes n =
    let a : n / 65536 ≡ n / 256 / 256 = omega arith in
    let b : n / 16777216 ≡ n / 256 / 256 / 256 = omega arith in
    let c : n / 4294967296 ≡ n / 256 / 256 / 256 / 256 = omega arith in
    let d : n / 1099511627776 ≡ n / 256 / 256 / 256 / 256 / 256 = omega arith in
    let e : n / 281474976710656 ≡ n / 256 / 256 / 256 / 256 / 256 / 256 = omega arith in
    let f : n / 72057594037927936 ≡ n / 256 / 256 / 256 / 256 / 256 / 256 / 256 = omega arith in
    rw (a, b, c, d, e, f) refl

-- of a number's low 16 bits
pub two_bytes : (n : ℕ) → (n % 65536 % 256) ∷ ((n % 65536 / 256 % 256) ∷ []) ≡ le_bytes 2 n
unfolding le_bytes
two_bytes n =
    let a : n % 65536 % 256 ≡ n % 256 = omega arith in
    let b : n % 65536 / 256 % 256 ≡ n / 256 % 256 = omega arith in
    rw (a, b) refl

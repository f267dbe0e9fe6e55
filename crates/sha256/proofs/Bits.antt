-- The model's operations on words are those of the code.
use Rattle.std.proofs.Common.{◌≡◌, ℕ, zero, suc, ◌+◌, ◌-◌, ◌*◌, ◌/◌, ◌%◌, ◌^◌, ◌<◌, ◌≤◌, min, sym, ap, ◌∙◌, ap₂, ⊎_elim, add-one, arith}
use native.Mathlib.Nat.{mul-mod_left}
use lib.Arith.{lt-one}
use lib.Bits.{bit_and, bit_or, bit_xor, differ, and_step, xor_step, and_lt, xor_lt, xor_assoc, or_shifted_r}
use lib.Pow.{mod-pow-add}
use Rattle.std.proofs.lemmas.Bool.{cases_lt}
use Rattle.std.proofs.lemmas.Nat.{shl-shr, shr_below}
use Rattle.model.specs.Sha256.{and_bits, xor_bits, land, lxor, ch, maj}

by_digit : {P : Type 0} (n : ℕ) → (n % 2 ≡ 0 → P) → (n % 2 ≡ 1 → P) → P
by_digit n f g = ⊎_elim (λ (h : n % 2 < 1). f (omega arith)) (λ (h : 1 ≤ n % 2). g (omega arith)) (cases_lt (n % 2) 1)

by_digits : {P : Type 0} (a b : ℕ) → (a % 2 ≡ 0 → b % 2 ≡ 0 → P) → (a % 2 ≡ 0 → b % 2 ≡ 1 → P)
    → (a % 2 ≡ 1 → b % 2 ≡ 0 → P) → (a % 2 ≡ 1 → b % 2 ≡ 1 → P) → P
by_digits a b f g h k = by_digit a (λ p. by_digit b (f p) (g p)) (λ p. by_digit b (h p) (k p))

and_bits_step : (n a b : ℕ) → and_bits (suc n) a b ≡ and_bits n (a / 2) (b / 2) * 2 + min (a % 2) (b % 2)
unfolding and_bits
and_bits_step n a b =
    by_digits a b (λ p q. rw (p, q) (omega arith)) (λ p q. rw (p, q) (omega arith)) (λ p q. rw (p, q) (omega arith)) (λ p q. rw (p, q) (omega arith))

xor_bits_step : (n a b : ℕ) → xor_bits (suc n) a b ≡ xor_bits n (a / 2) (b / 2) * 2 + differ (a % 2) (b % 2)
unfolding xor_bits
xor_bits_step n a b =
    by_digits a b (λ p q. rw (p, q) (omega arith)) (λ p q. rw (p, q) (omega arith)) (λ p q. rw (p, q) (omega arith)) (λ p q. rw (p, q) (omega arith))

half_below : (n a : ℕ) → a < 2 ^ suc n → a / 2 < 2 ^ n
half_below n a h = shr_below a n 1 (rw (add-one n) h)

and_bits_is : (n a b : ℕ) → a < 2 ^ n → b < 2 ^ n → and_bits n a b ≡ bit_and a b
unfolding and_bits
and_bits_is zero a b h k = ap (λ (x : ℕ). bit_and x b) (sym (lt-one h))
and_bits_is (suc n) a b h k =
    and_bits_step n a b
    ∙ ap (λ (x : ℕ). x * 2 + min (a % 2) (b % 2)) (and_bits_is n (a / 2) (b / 2) (half_below n a h) (half_below n b k)) ∙ sym (and_step a b)

xor_bits_is : (n a b : ℕ) → a < 2 ^ n → b < 2 ^ n → xor_bits n a b ≡ bit_xor a b
unfolding xor_bits
xor_bits_is zero a b h k = ap₂ bit_xor (sym (lt-one h)) (sym (lt-one k))
xor_bits_is (suc n) a b h k =
    xor_bits_step n a b
    ∙ ap (λ (x : ℕ). x * 2 + differ (a % 2) (b % 2)) (xor_bits_is n (a / 2) (b / 2) (half_below n a h) (half_below n b k)) ∙ sym (xor_step a b)

land_is : (a b : ℕ) → a < 2 ^ 32 → b < 2 ^ 32 → bit_and a b ≡ land a b
land_is a b h k = sym (and_bits_is 32 a b h k)

lxor_is : (a b : ℕ) → a < 2 ^ 32 → b < 2 ^ 32 → bit_xor a b ≡ lxor a b
lxor_is a b h k = sym (xor_bits_is 32 a b h k)

-- three words, from the left in the code and from the right in the model
pub lxor_three : {p q r t u v : ℕ} → p < 2 ^ 32 → q < 2 ^ 32 → r < 2 ^ 32 → p ≡ t → q ≡ u → r ≡ v → bit_xor (bit_xor p q) r ≡ lxor t (lxor u v)
lxor_three {p} {q} {r} hp hq hr e f g =
    xor_assoc p q r ∙ lxor_is p (bit_xor q r) hp (xor_lt 32 q r hq hr) ∙ ap (λ (x : ℕ). lxor p x) (lxor_is q r hq hr)
    ∙ (λ i. lxor (e i) (lxor (f i) (g i)))

-- a rotation by n places, of a word of n + k bits
pub rotr_is : (n k x : ℕ) → x < 2 ^ (k + n) → bit_or (x / 2 ^ n) (x * 2 ^ k % 2 ^ (n + k)) ≡ x / 2 ^ n + x % 2 ^ n * 2 ^ k
rotr_is n k x h =
    let m : x * 2 ^ k % 2 ^ (n + k) ≡ x % 2 ^ n * 2 ^ k =
    mod-pow-add (x * 2 ^ k) n k ∙ ap₂ (λ (p q : ℕ). p % 2 ^ n * 2 ^ k + q) (shl-shr x k) (mul-mod_left x (2 ^ k)) ∙ omega arith in
    ap (bit_or (x / 2 ^ n)) m ∙ or_shifted_r (x % 2 ^ n) k (x / 2 ^ n) (shr_below x k n h) ∙ omega arith

pub ch_is : (x y z : ℕ) → x < 2 ^ 32 → y < 2 ^ 32 → z < 2 ^ 32 → bit_xor (bit_and x y) (bit_and (4294967295 - x) z) ≡ ch x y z
ch_is x y z hx hy hz =
    let n : 4294967295 - x < 2 ^ 32 = omega arith in
    lxor_is (bit_and x y) (bit_and (4294967295 - x) z) (and_lt 32 x y hx hy) (and_lt 32 (4294967295 - x) z n hz)
    ∙ ap₂ lxor (land_is x y hx hy) (land_is (4294967295 - x) z n hz)

pub maj_is : (x y z : ℕ) → x < 2 ^ 32 → y < 2 ^ 32 → z < 2 ^ 32 → bit_xor (bit_xor (bit_and x y) (bit_and x z)) (bit_and y z) ≡ maj x y z
maj_is x y z hx hy hz =
    lxor_three (and_lt 32 x y hx hy) (and_lt 32 x z hx hz) (and_lt 32 y z hy hz) (land_is x y hx hy) (land_is x z hx hz) (land_is y z hy hz)

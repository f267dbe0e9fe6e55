-- The digest in limbs.
use Rattle.std.proofs.Common.{◌≡◌, ℕ, zero, suc, ◌+◌, ◌*◌, ◌/◌, ◌%◌, ◌^◌, ◌<◌, List, [], ◌∷◌, ◌++◌, length, get_or, sym, refl, ap, ◌∙◌, ap₂, arith, lit≤}
use lib.Bits.{bit_or}
use Rattle.std.proofs.lemmas.Nat.{shl_whole, or_shifted}
use Rattle.model.specs.Records.{le_bytes, le_number}
use Rattle.model.specs.Sha256.{State, be_bytes, state_bytes, sha256}
use Rattle.sha256.specs.Limbs.{Limbs, limbs_bytes, limbs_number}
use Rattle.sha256.specs.Parts.{final_state, initial_state, limb_of}

sha256_is : (m : List ℕ) → sha256 m ≡ state_bytes (final_state m)
unfolding sha256 final_state initial_state
sha256_is m = refl

-- eight bytes, the low one first, from two words of four
limb_sum : (a b c d e f g h p q : ℕ) → p ≡ d * 16777216 + c * 65536 + b * 256 + a → q ≡ h * 16777216 + g * 65536 + f * 256 + e
    → q * 2 ^ 32 + p ≡ le_number (a ∷ (b ∷ (c ∷ (d ∷ (e ∷ (f ∷ (g ∷ (h ∷ []))))))))
unfolding le_number
limb_sum a b c d e f g h p q k l = omega arith

pub limb_is : (x y p q : ℕ) → x < 2 ^ 32 → y < 2 ^ 32 → p < 2 ^ 32 → q < 2 ^ 32
    → p ≡ x % 256 * 16777216 + x / 256 % 256 * 65536 + x / 65536 % 256 * 256 + x / 16777216 % 256
    → q ≡ y % 256 * 16777216 + y / 256 % 256 * 65536 + y / 65536 % 256 * 256 + y / 16777216 % 256
    → bit_or (q * 2 ^ 32 % 2 ^ 64) p ≡ limb_of x y
unfolding limb_of
limb_is x y p q hx hy hp hq e f =
    let w : q * 2 ^ 32 % 2 ^ 64 ≡ q * 2 ^ 32 = shl_whole q 32 32 64 hq (lit≤ tt) in
    let tx : x / 16777216 % 256 ≡ x / 16777216 = omega arith in
    let ty : y / 16777216 % 256 ≡ y / 16777216 = omega arith in
    let v : q * 2 ^ 32 + p ≡ limb_of x y = limb_sum (x / 16777216) (x / 65536 % 256) (x / 256 % 256) (x % 256) (y / 16777216) (y / 65536 % 256) (y / 256 % 256) (y % 256) p q
    (e ∙ ap (λ (k : ℕ). x % 256 * 16777216 + x / 256 % 256 * 65536 + x / 65536 % 256 * 256 + k) tx)
    (f ∙ ap (λ (k : ℕ). y % 256 * 16777216 + y / 256 % 256 * 65536 + y / 65536 % 256 * 256 + k) ty) in
    ap (λ (n : ℕ). bit_or n p) w ∙ or_shifted q 32 p hp ∙ v

-- ---- what the four limbs say

abbrev AllBytes : List ℕ → Type 0
AllBytes [] = Unit {0}
AllBytes (x ∷ xs) = (x < 256) × AllBytes xs

le_bytes_number : (xs : List ℕ) → AllBytes xs → le_bytes (length xs) (le_number xs) ≡ xs
unfolding le_bytes le_number
le_bytes_number [] h = refl
le_bytes_number (x ∷ xs) h =
    let l : x < 256 = h.0 in
    let m : (x + 256 * le_number xs) % 256 ≡ x = omega arith in
    let d : (x + 256 * le_number xs) / 256 ≡ le_number xs = omega arith in
    ap₂ (λ (y n : ℕ). y ∷ le_bytes (length xs) n) m d ∙ ap (λ (ys : List ℕ). x ∷ ys) (le_bytes_number xs h.1)

limb_bytes : (x y : ℕ) → x < 2 ^ 32 → y < 2 ^ 32 → le_bytes 8 (limb_of x y) ≡ be_bytes x ++ be_bytes y
unfolding limb_of
limb_bytes x y h k =
    le_bytes_number (be_bytes x ++ be_bytes y)
    (omega arith, (omega arith, (omega arith, (omega arith, (omega arith, (omega arith, (omega arith, (omega arith, tt))))))))

limb_front : (x y : ℕ) (rest : List ℕ) → le_number (be_bytes x ++ (be_bytes y ++ rest)) ≡ limb_of x y + 18446744073709551616 * le_number rest
unfolding limb_of le_number
limb_front x y rest =
    sum (x / 16777216) (x / 65536 % 256) (x / 256 % 256) (x % 256) (y / 16777216) (y / 65536 % 256) (y / 256 % 256) (y % 256) (le_number rest)
  where
    sum : (a b c d e f g h r : ℕ) → a + 256 * (b + 256 * (c + 256 * (d + 256 * (e + 256 * (f + 256 * (g + 256 * (h + 256 * r)))))))
        ≡ (a + 256 * (b + 256 * (c + 256 * (d + 256 * (e + 256 * (f + 256 * (g + 256 * (h + 256 * 0)))))))) + 18446744073709551616 * r
    sum a b c d e f g h r = omega arith

unfoldable pub limbs_of : State → List ℕ
limbs_of s = limb_of s.a s.b ∷ (limb_of s.c s.d ∷ (limb_of s.e s.f ∷ (limb_of s.g s.h ∷ [])))

limbs_number_is : (s : State) → limbs_number (limbs_of s) ≡ le_number (state_bytes s)
unfolding limbs_of limbs_number le_number
limbs_number_is s =
    let e1 = limb_front s.g s.h [] in
    let e2 = limb_front s.e s.f (be_bytes s.g ++ be_bytes s.h) in
    let e3 = limb_front s.c s.d (be_bytes s.e ++ (be_bytes s.f ++ (be_bytes s.g ++ be_bytes s.h))) in
    let e4 = limb_front s.a s.b (be_bytes s.c ++ (be_bytes s.d ++ (be_bytes s.e ++ (be_bytes s.f ++ (be_bytes s.g ++ be_bytes s.h))))) in
    cc

pub record Words (s : State) : Type 0 where
  pub a : s.a < 2 ^ 32
  pub b : s.b < 2 ^ 32
  pub c : s.c < 2 ^ 32
  pub d : s.d < 2 ^ 32
  pub e : s.e < 2 ^ 32
  pub f : s.f < 2 ^ 32
  pub g : s.g < 2 ^ 32
  pub h : s.h < 2 ^ 32

limbs_bytes_is : (s : State) → Words s → limbs_bytes (limbs_of s) ≡ state_bytes s
unfolding limbs_of limbs_bytes
limbs_bytes_is s w =
    let p = limb_bytes s.a s.b w.a w.b in
    let q = limb_bytes s.c s.d w.c w.d in
    let u = limb_bytes s.e s.f w.e w.f in
    let v = limb_bytes s.g s.h w.g w.h in
    (λ i. p i ++ (q i ++ (u i ++ (v i ++ []))))

fit_cons : (x : ℕ) (xs : List ℕ) → x < 2 ^ 64 → ((i : ℕ) → get_or xs i 0 < 2 ^ 64) → (i : ℕ) → get_or (x ∷ xs) i 0 < 2 ^ 64
fit_cons x xs h f zero = h
fit_cons x xs h f (suc i) = f i

pub four_limbs : {i j k l : ℕ} → i < 2 ^ 64 → j < 2 ^ 64 → k < 2 ^ 64 → l < 2 ^ 64 → Limbs 4 (i ∷ (j ∷ (k ∷ (l ∷ []))))
four_limbs {i} {j} {k} {l} p q u v =
    record { count = refl; fit = fit_cons i (j ∷ (k ∷ (l ∷ []))) p (fit_cons j (k ∷ (l ∷ [])) q (fit_cons k (l ∷ []) u (fit_cons l [] v (λ n. omega arith)))) }

pub digest_bytes : (m : List ℕ) (s : State) (r : List ℕ) → s ≡ final_state m → Words s → r ≡ limbs_of s → limbs_bytes r ≡ sha256 m
digest_bytes m s r e w l = ap limbs_bytes l ∙ limbs_bytes_is s w ∙ ap state_bytes e ∙ sym (sha256_is m)

pub digest_number : (m : List ℕ) (s : State) (r : List ℕ) → s ≡ final_state m → r ≡ limbs_of s → limbs_number r ≡ le_number (sha256 m)
digest_number m s r e l =
    ap limbs_number l ∙ limbs_number_is s ∙ ap (λ (t : State). le_number (state_bytes t)) e ∙ ap le_number (sym (sha256_is m))

-- The text of three numbers is read as those numbers.
use Rattle.std.proofs.Common.{◌≡◌, ℕ, zero, suc, ◌+◌, ◌-◌, ◌*◌, ◌/◌, ◌%◌, ◌^◌, ◌<◌, ◌≤◌, min, false, ◌⊎◌, List, [], ◌∷◌, ◌++◌, Some, decimal, refl, ap, ◌∙◌, inl, inr, append_assoc, arith}
use Rattle.std.proofs.lemmas.Fmt.{decimal_by_steps, decimal_digit}
use Rattle.std.proofs.lemmas.Bool.{ne_eqb}
use Rattle.std.proofs.lemmas.Bool.Decides.{nat_tests}
use Rattle.logfile.specs.FirstLine.{digits_on, is_digit, number_at, number_then, in_range, line_text, read_line}
use Rattle.logfile.proofs.Digits.{past_that, digit_is, digits_more, digits_stop}

number_first : (n : ℕ) (rest : List ℕ) → 0 < n → n < 10 → number_at ((48 + n) ∷ rest) ≡ Some (digits_on (min n 65535) rest)
unfolding number_at
number_first n rest p h =
    let e : 48 + n - 48 ≡ n = omega arith in
    let m : min n 65535 ≡ n = omega arith in
    let ne : 48 + n ≡ 48 → ⊥ = λ q. omega arith in
    rw (ne_eqb (48 + n) 48 ne, digit_is (48 + n) (omega arith) (omega arith), e, m)

capped : (n : ℕ) → min (min (n / 10) 65535 * 10 + (48 + n % 10 - 48)) 65535 ≡ min n 65535
capped n = omega arith

-- a number above 0 begins with these digits
abbrev Begins : ℕ → List ℕ → Type 0
Begins n ds = (rest : List ℕ) → 0 < n → number_at (ds ++ rest) ≡ Some (digits_on (min n 65535) rest)

begins_more : (n : ℕ) (ds : List ℕ) → 10 ≤ n → Begins (n / 10) ds → Begins n (ds ++ ((48 + n % 10) ∷ []))
begins_more n ds h b rest p =
    let d : n % 10 < 10 = omega arith in
    let q : 0 < n / 10 = omega arith in
    let e : (ds ++ ((48 + n % 10) ∷ [])) ++ rest ≡ ds ++ ((48 + n % 10) ∷ rest) = append_assoc ds ((48 + n % 10) ∷ []) rest in
    let f = b ((48 + n % 10) ∷ rest) q in
    let g = digits_more (min (n / 10) 65535) (48 + n % 10) rest (digit_is (48 + n % 10) (omega arith) (omega arith)) in
    let c = capped n in
    cc

begins : (n : ℕ) → n < 2 ^ 64 → Begins n (decimal n)
begins n h = decimal_by_steps Begins (λ m k rest p. number_first m rest p k) begins_more n h

zero_text : (rest : List ℕ) → number_at (48 ∷ rest) ≡ Some (0, rest)
unfolding number_at
zero_text rest = refl

number_zero_text : (n : ℕ) (rest : List ℕ) → n ≡ 0 → number_at (decimal n ++ rest) ≡ Some (min n 65535, rest)
number_zero_text n rest e =
    let f : decimal n ≡ (48 + n) ∷ [] = decimal_digit n (omega arith) in
    let g : 48 + n ≡ 48 = omega arith in
    let z : min n 65535 ≡ 0 = omega arith in
    rw (f, g, z) (zero_text rest)

zero_or : (n : ℕ) → (n ≡ 0) ⊎ (0 < n)
zero_or zero = inl refl
zero_or (suc n) = inr (omega arith)

number_text : (n c : ℕ) (rest : List ℕ) → n < 2 ^ 64 → is_digit c ≡ false → number_at (decimal n ++ (c ∷ rest)) ≡ Some (min n 65535, c ∷ rest)
number_text n c rest h s =
    elim (zero_or n) [
      | inl e ↦ number_zero_text n (c ∷ rest) e
      | inr p ↦ begins n h (c ∷ rest) p ∙ ap Some (digits_stop (min n 65535) c rest s)
    ]

number_then_text : (n c : ℕ) (rest : List ℕ) → n < 2 ^ 64 → is_digit c ≡ false → number_then c (decimal n ++ (c ∷ rest)) ≡ Some (min n 65535, rest)
number_then_text n c rest h s = rw (number_text n c rest h s, past_that c rest)

range_capped : (v p e : ℕ) → in_range (min v 65535) (min p 65535) (min e 65535) ≡ in_range v p e
range_capped v p e = grind (arith, nat_tests)

pub reads_back : (v p e : ℕ) → v < 2 ^ 64 → p < 2 ^ 64 → e < 2 ^ 64 → read_line (line_text v p e) ≡ in_range v p e
reads_back v p e hv hp he =
    rw (
      number_then_text v 32 (decimal p ++ (32 ∷ (decimal e ++ (10 ∷ [])))) hv refl,
      number_then_text p 32 (decimal e ++ (10 ∷ [])) hp refl,
      number_then_text e 10 [] he refl,
    )
    (range_capped v p e)

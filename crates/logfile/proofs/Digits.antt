-- One step of reading a number or a byte at a slice, as the code takes it.
use Rattle.std.proofs.Common.{◌≡◌, ℕ, ◌+◌, ◌-◌, ◌*◌, ◌<◌, ◌≤◌, min, true, false, List, [], ◌∷◌, length, get_or, take, drop, Some, None, Option, ◌++◌, ◌≢◌, MatchOption, Bor, nat_eq, sym, refl, ap, ◌∙◌, arith}
use Rattle.std.specs.Option.{option_map}
use lib.Pointwise.{pointwise}
use Rattle.std.proofs.lemmas.Slice.Eq.{strip_prefix_is}
use Rattle.std.proofs.lemmas.List.{take_rest}
use Rattle.std.proofs.lemmas.Bool.{eq-eqb, ne_eqb}
use Rattle.std.proofs.lemmas.Bool.Decides.{nat_tests, Decides-eqb}
use Rattle.logfile.specs.FirstLine.{digits_on, is_digit, number_at, past_byte}

pub digits_more : (n : ℕ) (c : ℕ) (cs : List ℕ) → is_digit c ≡ true → digits_on n (c ∷ cs) ≡ digits_on (min (n * 10 + (c - 48)) 65535) cs
unfolding digits_on
digits_more n c cs h = rw h

pub digits_stop : (n : ℕ) (c : ℕ) (cs : List ℕ) → is_digit c ≡ false → digits_on n (c ∷ cs) ≡ (n, c ∷ cs)
unfolding digits_on
digits_stop n c cs h = rw h

pub digits_end : (n : ℕ) → digits_on n [] ≡ (n, [])
unfolding digits_on
digits_end n = refl

pub digit_is : (c : ℕ) → 48 ≤ c → c ≤ 57 → is_digit c ≡ true
digit_is c lo hi = grind (arith, nat_tests)

pub low_is_none : (c : ℕ) → c < 48 → is_digit c ≡ false
low_is_none c h = grind (arith, nat_tests)

pub high_is_none : (c : ℕ) → 57 < c → is_digit c ≡ false
high_is_none c h = grind (arith, nat_tests)

pub turn : (n m : ℕ) (xs : List ℕ) (z : ℕ × List ℕ) → 1 ≤ length xs → 48 ≤ get_or xs 0 0 → get_or xs 0 0 ≤ 57 → m ≡ min (n * 10 + (get_or xs 0 0 - 48)) 65535 → digits_on n xs ≡ z → digits_on m (take (length xs - 1) (drop 1 xs)) ≡ z
turn n m [] z h lo hi e g = absurd (omega arith)
turn n m (x ∷ xs) z h lo hi e g = rw (take_rest (x ∷ xs) 1, e) (sym (digits_more n x xs (digit_is x lo hi)) ∙ g)

pub over : (n : ℕ) (xs : List ℕ) → length xs < 1 → digits_on n xs ≡ (n, xs)
over n [] h = digits_end n
over n (x ∷ xs) h = absurd (omega arith)

pub halt_low : (n : ℕ) (xs : List ℕ) → 1 ≤ length xs → get_or xs 0 0 < 48 → digits_on n xs ≡ (n, xs)
halt_low n [] h d = absurd (omega arith)
halt_low n (x ∷ xs) h d = digits_stop n x xs (low_is_none x d)

pub halt_high : (n : ℕ) (xs : List ℕ) → 1 ≤ length xs → 57 < get_or xs 0 0 → digits_on n xs ≡ (n, xs)
halt_high n [] h d = absurd (omega arith)
halt_high n (x ∷ xs) h d = digits_stop n x xs (high_is_none x d)

pub number_none : (xs : List ℕ) → length xs < 1 → None ≡ number_at xs
unfolding number_at
number_none [] h = refl
number_none (x ∷ xs) h = absurd (omega arith)

pub number_zero : (xs : List ℕ) → 1 ≤ length xs → get_or xs 0 0 ≡ 48 → Some (0, take (length xs - 1) (drop 1 xs)) ≡ number_at xs
unfolding number_at
number_zero [] h e = absurd (omega arith)
number_zero (x ∷ xs) h e = rw (eq-eqb x 48 e, take_rest (x ∷ xs) 1)

number_other : (x : ℕ) (xs : List ℕ) → (x ≡ 48 → ⊥) → is_digit x ≡ false → None ≡ number_at (x ∷ xs)
unfolding number_at
number_other x xs n d = rw (ne_eqb x 48 n, d)

pub number_low : (xs : List ℕ) → 1 ≤ length xs → get_or xs 0 0 < 48 → None ≡ number_at xs
number_low [] h d = absurd (omega arith)
number_low (x ∷ xs) h d = number_other x xs (λ q. omega arith) (low_is_none x d)

pub number_high : (xs : List ℕ) → 1 ≤ length xs → 57 < get_or xs 0 0 → None ≡ number_at xs
number_high [] h d = absurd (omega arith)
number_high (x ∷ xs) h d = number_other x xs (λ q. omega arith) (high_is_none x d)

number_first : (x : ℕ) (xs : List ℕ) → 49 ≤ x → x ≤ 57 → Some (digits_on (x - 48) xs) ≡ number_at (x ∷ xs)
unfolding number_at
number_first x xs lo hi =
    let n : x ≡ 48 → ⊥ = λ q. omega arith in
    rw (ne_eqb x 48 n, digit_is x (omega arith) hi)

pub number_digits : (xs : List ℕ) (z : ℕ × List ℕ) → 1 ≤ length xs → 49 ≤ get_or xs 0 0 → get_or xs 0 0 ≤ 57 → z ≡ digits_on (get_or xs 0 0 - 48) (take (length xs - 1) (drop 1 xs)) → Some z ≡ number_at xs
number_digits [] z h lo hi e = absurd (omega arith)
number_digits (x ∷ xs) z h lo hi e = ap Some (e ∙ ap (digits_on (x - 48)) (take_rest (x ∷ xs) 1)) ∙ number_first x xs lo hi

past_end : (b : ℕ) → None ≡ past_byte b []
unfolding past_byte
past_end b = refl

past_other : (b c : ℕ) (cs : List ℕ) → (c ≡ b → ⊥) → None ≡ past_byte b (c ∷ cs)
unfolding past_byte
past_other b c cs n = rw (ne_eqb c b n)

pub past_that : (b : ℕ) (rest : List ℕ) → past_byte b (b ∷ rest) ≡ Some rest
unfolding past_byte
past_that b rest = rw (eq-eqb b b refl)

past_after : (b : ℕ) (xs : List ℕ) (r : Option (Bor (List ℕ))) → MatchOption r ((rest : List ℕ) → xs ≢ (b ∷ []) ++ rest) (λ x. xs ≡ (b ∷ []) ++ x.now) → option_map (λ x. x.now) r ≡ past_byte b xs
past_after b xs (Some x) h = sym (ap (past_byte b) h ∙ past_that b x.now)
past_after b [] None h = past_end b
past_after b (c ∷ cs) None h = past_other b c cs (λ e. h cs (ap (λ k. k ∷ cs) e))

pub past_stripped : (b : ℕ) (xs : List ℕ) (r : Option (Bor (List ℕ)))
    → MatchOption r (pointwise nat_eq (take 1 xs) (b ∷ []) ≡ false) (λ x. (pointwise nat_eq (take 1 xs) (b ∷ []) ≡ true) × (x.now ≡ drop 1 xs) × (length x.now + 1 ≡ length xs)) → option_map (λ x. x.now) r ≡ past_byte b xs
past_stripped b xs r h = past_after b xs r (strip_prefix_is Decides-eqb xs (b ∷ []) r h)

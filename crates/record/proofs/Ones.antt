-- Lists of bits: what are-bits says of their parts, and its test by the greatest.
use Rattle.std.proofs.Common.{◌≡◌, ℕ, zero, suc, ◌<◌, ◌≤◌, max, Bool, true, false, ◌&&◌, ltb, ◌⊎◌, List, [], ◌∷◌, ◌++◌, get_or, take, drop, replicate, refl, ap, ◌∙◌, inl, inr, arith}
use Rattle.std.specs.List.{fold}
use Rattle.std.proofs.lemmas.Bool.{ltb-true, lt-ltb, le-ltb, and_parts, and_from, cases_lt}
use Rattle.model.specs.Monitor.{are_bits}

pub take_bits : (n : ℕ) (xs : List ℕ) → are_bits xs ≡ true → are_bits (take n xs) ≡ true
unfolding are_bits
take_bits zero xs h = refl
take_bits (suc n) [] h = refl
take_bits (suc n) (x ∷ xs) h =
    let p = and_parts (ltb x 2) (are_bits xs) h in
    and_from (ltb x 2) (are_bits (take n xs)) p.0 (take_bits n xs p.1)

pub drop_bits : (n : ℕ) (xs : List ℕ) → are_bits xs ≡ true → are_bits (drop n xs) ≡ true
unfolding are_bits
drop_bits zero xs h = h
drop_bits (suc n) [] h = refl
drop_bits (suc n) (x ∷ xs) h = drop_bits n xs (and_parts (ltb x 2) (are_bits xs) h).1

pub append_bits : (xs ys : List ℕ) → are_bits xs ≡ true → are_bits ys ≡ true → are_bits (xs ++ ys) ≡ true
unfolding are_bits
append_bits [] ys h k = k
append_bits (x ∷ xs) ys h k =
    let p = and_parts (ltb x 2) (are_bits xs) h in
    and_from (ltb x 2) (are_bits (xs ++ ys)) p.0 (append_bits xs ys p.1 k)

pub zero_bits : (n : ℕ) → are_bits (replicate n 0) ≡ true
unfolding are_bits
zero_bits zero = refl
zero_bits (suc n) = zero_bits n

pub bit_at : (xs : List ℕ) (i : ℕ) → are_bits xs ≡ true → get_or xs i 0 < 2
unfolding are_bits
bit_at [] i h = omega arith
bit_at (x ∷ xs) zero h = ltb-true x 2 (and_parts (ltb x 2) (are_bits xs) h).0
bit_at (x ∷ xs) (suc i) h = bit_at xs i (and_parts (ltb x 2) (are_bits xs) h).1

-- the greatest tells
greatest_from : (xs : List ℕ) (most : ℕ) → ltb (fold max most xs) 2 ≡ (ltb most 2 && are_bits xs)
unfolding are_bits
greatest_from [] most = and_true (ltb most 2)
  where
    and_true : (b : Bool) → b ≡ (b && true)
    and_true true = refl
    and_true false = refl
greatest_from (x ∷ xs) most = greatest_from xs (max most x) ∙ (ap (λ (b : Bool). b && are_bits xs) (go (cases_lt most 2) (cases_lt x 2)) ∙ regroup (ltb most 2) (ltb x 2) (are_bits xs))
  where
    regroup : (a b c : Bool) → ((a && b) && c) ≡ (a && (b && c))
    regroup true b c = refl
    regroup false b c = refl

    go : (most < 2) ⊎ (2 ≤ most) → (x < 2) ⊎ (2 ≤ x) → ltb (max most x) 2 ≡ (ltb most 2 && ltb x 2)
    go (inl a) (inl b) = rw (lt-ltb (max most x) 2 (omega arith), lt-ltb most 2 a, lt-ltb x 2 b) refl
    go (inl a) (inr b) = rw (le-ltb (max most x) 2 (omega arith), lt-ltb most 2 a, le-ltb x 2 b) refl
    go (inr a) b = rw (le-ltb (max most x) 2 (omega arith), le-ltb most 2 a) refl

pub greatest_tells : (xs : List ℕ) → ltb (fold max 0 xs) 2 ≡ are_bits xs
greatest_tells xs = greatest_from xs 0

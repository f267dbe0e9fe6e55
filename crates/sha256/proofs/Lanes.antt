-- Vectors of four words, lane by lane.
use Rattle.std.proofs.Common.{◌≡◌, ℕ, ◌+◌, ◌-◌, ◌*◌, ◌/◌, ◌%◌, ◌^◌, ◌<◌, List, [], ◌∷◌, ◌++◌, map, length, take, drop, sym, refl, ap, ◌∙◌, subst, ap₂, arith, w32, Fits}
use lib.Bits.{bit_or, bit_xor}
use lib.Lanes.{Each1, chunk, pick_l, zip2}
use Rattle.std.proofs.lemmas.List.{drop-drop, length-drop, take_all}
use Rattle.model.specs.Sha256.{add_32, extend_schedule, rotr, shr}
use Rattle.sha256.specs.Parts.{add_words, small_sigma_0, small_sigma_1}
use Rattle.sha256.proofs.Bits.{lxor_three, rotr_is}

-- what holds of four words holds of a vector of them
pub by_four : (P : List ℕ → Type 0) → ((p q r s : ℕ) → P (p ∷ (q ∷ (r ∷ (s ∷ []))))) → (xs : List ℕ) → length xs ≡ 4 → P xs
by_four P f [] e = absurd (omega arith)
by_four P f (p ∷ []) e = absurd (omega arith)
by_four P f (p ∷ (q ∷ [])) e = absurd (omega arith)
by_four P f (p ∷ (q ∷ (r ∷ []))) e = absurd (omega arith)
by_four P f (p ∷ (q ∷ (r ∷ (s ∷ [])))) e = f p q r s
by_four P f (p ∷ (q ∷ (r ∷ (s ∷ (t ∷ xs))))) e = absurd (omega arith)

four_same : {p q r s p' q' r' s' : ℕ} → p ≡ p' → q ≡ q' → r ≡ r' → s ≡ s' → p ∷ (q ∷ (r ∷ (s ∷ []))) ≡ p' ∷ (q' ∷ (r' ∷ (s' ∷ [])))
four_same p q r s = λ i. p i ∷ (q i ∷ (r i ∷ (s i ∷ [])))

abbrev pub Fit : List ℕ → Type 0
Fit xs = Each1 (Fits w32) xs

rotate_is : (n x : ℕ) → n < 32 → x < 2 ^ 32 → bit_or (x / 2 ^ n) (x * 2 ^ (32 - n) % 2 ^ 32) ≡ rotr n x
rotate_is n x h l =
    let e : 32 - n + n ≡ 32 = omega arith in
    let f : n + (32 - n) ≡ 32 = omega arith in
    subst (λ (k : ℕ). bit_or (x / 2 ^ n) (x * 2 ^ (32 - n) % 2 ^ k) ≡ rotr n x) f
    (rotr_is n (32 - n) x (subst (λ (k : ℕ). x < 2 ^ k) (sym e) l))

pub rotate_lanes_is : (n : ℕ) → n < 32 → (xs : List ℕ) → length xs ≡ 4 → Fit xs
    → zip2 bit_or (zip2 (λ (a k : ℕ). a / 2 ^ k) xs (n ∷ (n ∷ (n ∷ (n ∷ [])))))
    (zip2 (λ (a k : ℕ). a * 2 ^ k % 2 ^ 32) xs ((32 - n) ∷ ((32 - n) ∷ ((32 - n) ∷ ((32 - n) ∷ []))))) ≡ map (rotr n) xs
rotate_lanes_is n h =
    by_four
    (λ (xs : List ℕ). Fit xs
    → zip2 bit_or (zip2 (λ (a k : ℕ). a / 2 ^ k) xs (n ∷ (n ∷ (n ∷ (n ∷ [])))))
    (zip2 (λ (a k : ℕ). a * 2 ^ k % 2 ^ 32) xs ((32 - n) ∷ ((32 - n) ∷ ((32 - n) ∷ ((32 - n) ∷ []))))) ≡ map (rotr n) xs)
    (λ p q r s fit. four_same (rotate_is n p h fit.0.fits) (rotate_is n q h fit.1.0.fits) (rotate_is n r h fit.1.1.0.fits) (rotate_is n s h fit.1.1.1.0.fits))

as_many : (ks ws : List ℕ) → zip2 (λ (a b : ℕ). add_32 a b) (take (length ws) ks) ws ≡ add_words ks ws
unfolding add_words
as_many [] [] = refl
as_many [] (w ∷ ws) = refl
as_many (k ∷ ks) [] = refl
as_many (k ∷ ks) (w ∷ ws) = ap (λ (xs : List ℕ). add_32 k w ∷ xs) (as_many ks ws)

-- the constants from t on, as from_slice takes four of them
pub add_four_is : (t : ℕ) (ks ws : List ℕ) → length ws ≡ 4
    → zip2 (λ (a b : ℕ). add_32 a b) (chunk 0 4 (take (length ks - t) (drop t ks))) ws ≡ add_words (drop t ks) ws
add_four_is t ks ws l =
    let n = length-drop t ks in
    ap (λ (xs : List ℕ). zip2 (λ (a b : ℕ). add_32 a b) (take 4 xs) ws) (take_all (length ks - t) (drop t ks) (omega arith))
    ∙ ap (λ (k : ℕ). zip2 (λ (a b : ℕ). add_32 a b) (take k (drop t ks)) ws) (sym l) ∙ as_many (drop t ks) ws

-- constants and words, in two parts
pub add_words_front : (ks xs ys : List ℕ) → add_words ks (xs ++ ys) ≡ add_words ks xs ++ add_words (drop (length xs) ks) ys
unfolding add_words
add_words_front [] [] ys = refl
add_words_front (k ∷ ks) [] ys = refl
add_words_front [] (x ∷ xs) ys = refl
add_words_front (k ∷ ks) (x ∷ xs) ys = ap (λ (zs : List ℕ). add_32 k x ∷ zs) (add_words_front ks xs ys)

pub add_sixteen_is : (t : ℕ) (ks a b c d p q u v : List ℕ) → length a ≡ 4 → length b ≡ 4 → length c ≡ 4
    → p ≡ add_words (drop t ks) a → q ≡ add_words (drop (t + 4) ks) b → u ≡ add_words (drop (t + 8) ks) c → v ≡ add_words (drop (t + 12) ks) d
    → p ++ (q ++ (u ++ v)) ≡ add_words (drop t ks) (a ++ (b ++ (c ++ d)))
add_sixteen_is t ks a b c d p q u v la lb lc e f g h =
    let ea = add_words_front (drop t ks) a (b ++ (c ++ d)) in
    let eb = add_words_front (drop (t + 4) ks) b (c ++ d) in
    let ec = add_words_front (drop (t + 8) ks) c d in
    let da = drop-drop 4 t ks in
    let db = drop-drop 4 (t + 4) ks in
    let dc = drop-drop 4 (t + 8) ks in
    let n8 : t + 4 + 4 ≡ t + 8 = omega arith in
    let n12 : t + 8 + 4 ≡ t + 12 = omega arith in
    cc

-- ---- the functions of the schedule

pub lanes_sigma : (m n k : ℕ) (f : ℕ → ℕ) → ((x : ℕ) → x < 2 ^ 32 → bit_xor (bit_xor (rotr m x) (rotr n x)) (shr k x) ≡ f x)
    → (xs ys zs : List ℕ) → length xs ≡ 4 → Fit xs → ys ≡ map (rotr m) xs → zs ≡ map (rotr n) xs
    → zip2 bit_xor (zip2 bit_xor ys zs) (zip2 (λ (a i : ℕ). a / 2 ^ i) xs (k ∷ (k ∷ (k ∷ (k ∷ []))))) ≡ map f xs
lanes_sigma m n k f is xs ys zs l fits e g =
    ap₂ (λ (us vs : List ℕ). zip2 bit_xor (zip2 bit_xor us vs) (zip2 (λ (a i : ℕ). a / 2 ^ i) xs (k ∷ (k ∷ (k ∷ (k ∷ [])))))) e g
    ∙ by_four
    (λ (xs : List ℕ). Fit xs
    → zip2 bit_xor (zip2 bit_xor (map (rotr m) xs) (map (rotr n) xs)) (zip2 (λ (a i : ℕ). a / 2 ^ i) xs (k ∷ (k ∷ (k ∷ (k ∷ []))))) ≡ map f xs)
    (λ p q r s fit. four_same (is p fit.0.fits) (is q fit.1.0.fits) (is r fit.1.1.0.fits) (is s fit.1.1.1.0.fits)) xs l fits

pub small_sigma_0_is : (x : ℕ) → x < 2 ^ 32 → bit_xor (bit_xor (rotr 7 x) (rotr 18 x)) (shr 3 x) ≡ small_sigma_0 x
unfolding small_sigma_0
small_sigma_0_is x h = lxor_three {p = rotr 7 x} {q = rotr 18 x} {r = shr 3 x} (omega arith) (omega arith) (omega arith) refl refl refl

pub small_sigma_1_is : (x : ℕ) → x < 2 ^ 32 → bit_xor (bit_xor (rotr 17 x) (rotr 19 x)) (shr 10 x) ≡ small_sigma_1 x
unfolding small_sigma_1
small_sigma_1_is x h = lxor_three {p = rotr 17 x} {q = rotr 19 x} {r = shr 10 x} (omega arith) (omega arith) (omega arith) refl refl refl

-- ---- the four words that follow sixteen

abbrev add_lanes : List ℕ → List ℕ → List ℕ
add_lanes xs ys = zip2 (λ (x y : ℕ). add_32 x y) xs ys

add_lanes_assoc : (xs ys zs : List ℕ) → add_lanes (add_lanes xs ys) zs ≡ add_lanes xs (add_lanes ys zs)
add_lanes_assoc [] ys zs = refl
add_lanes_assoc (x ∷ xs) [] zs = refl
add_lanes_assoc (x ∷ xs) (y ∷ ys) [] = refl
add_lanes_assoc (x ∷ xs) (y ∷ ys) (z ∷ zs) =
    let e : add_32 (add_32 x y) z ≡ add_32 x (add_32 y z) = omega arith in
    ap₂ (λ (n : ℕ) (ns : List ℕ). n ∷ ns) e (add_lanes_assoc xs ys zs)

-- the sums of the code and of the model, where x has the small-sigma-1 of each lane, and y the small-sigma-0
abbrev pub four_sums : List ℕ → List ℕ → List ℕ → List ℕ → List ℕ → List ℕ
four_sums a c d x y = add_lanes x (add_lanes (pick_l 0 (c ++ d) (1 ∷ (2 ∷ (3 ∷ (4 ∷ []))))) (add_lanes y a))

abbrev model_sums : List ℕ → List ℕ → List ℕ → List ℕ → List ℕ → List ℕ
model_sums a c d x y = add_lanes (add_lanes x (pick_l 0 (c ++ d) (1 ∷ (2 ∷ (3 ∷ (4 ∷ [])))))) (add_lanes y a)

abbrev pub two_and_two : List ℕ → List ℕ → List ℕ
two_and_two low high = pick_l 0 (low ++ high) (0 ∷ (1 ∷ (6 ∷ (7 ∷ []))))

abbrev sigma_high : List ℕ → List ℕ
sigma_high d = map small_sigma_1 (pick_l 0 (d ++ d) (2 ∷ (3 ∷ (2 ∷ (3 ∷ [])))))

abbrev sigma_low : List ℕ → List ℕ
sigma_low x = map small_sigma_1 (pick_l 0 (x ++ x) (0 ∷ (1 ∷ (0 ∷ (1 ∷ [])))))

abbrev sigma_back : List ℕ → List ℕ → List ℕ
sigma_back a b = map small_sigma_0 (pick_l 0 (a ++ b) (1 ∷ (2 ∷ (3 ∷ (4 ∷ [])))))

abbrev made : List ℕ → List ℕ → List ℕ → List ℕ → List ℕ
made a b c d =
    let low : List ℕ = model_sums a c d (sigma_high d) (sigma_back a b) in
    two_and_two low (model_sums a c d (sigma_low low) (sigma_back a b))

abbrev Made : List ℕ → List ℕ → List ℕ → List ℕ → Type 0
Made a b c d = extend_schedule 4 (a ++ (b ++ (c ++ d))) ≡ (a ++ (b ++ (c ++ d))) ++ made a b c d

made_lanes : (a0 a1 a2 a3 b0 b1 b2 b3 c0 c1 c2 c3 d0 d1 d2 d3 : ℕ)
    → Made (a0 ∷ (a1 ∷ (a2 ∷ (a3 ∷ [])))) (b0 ∷ (b1 ∷ (b2 ∷ (b3 ∷ [])))) (c0 ∷ (c1 ∷ (c2 ∷ (c3 ∷ [])))) (d0 ∷ (d1 ∷ (d2 ∷ (d3 ∷ []))))
unfolding extend_schedule small_sigma_0 small_sigma_1
made_lanes a0 a1 a2 a3 b0 b1 b2 b3 c0 c1 c2 c3 d0 d1 d2 d3 = refl

made_is : (a b c d : List ℕ) → length a ≡ 4 → length b ≡ 4 → length c ≡ 4 → length d ≡ 4 → Made a b c d
made_is a b c d la lb lc ld =
    by_four (λ (a : List ℕ). Made a b c d)
    (λ a0 a1 a2 a3. by_four (λ (b : List ℕ). Made (a0 ∷ (a1 ∷ (a2 ∷ (a3 ∷ [])))) b c d)
    (λ b0 b1 b2 b3. by_four (λ (c : List ℕ). Made (a0 ∷ (a1 ∷ (a2 ∷ (a3 ∷ [])))) (b0 ∷ (b1 ∷ (b2 ∷ (b3 ∷ [])))) c d)
    (λ c0 c1 c2 c3. by_four (λ (d : List ℕ). Made (a0 ∷ (a1 ∷ (a2 ∷ (a3 ∷ [])))) (b0 ∷ (b1 ∷ (b2 ∷ (b3 ∷ [])))) (c0 ∷ (c1 ∷ (c2 ∷ (c3 ∷ [])))) d)
    (made_lanes a0 a1 a2 a3 b0 b1 b2 b3 c0 c1 c2 c3) d ld) c lc) b lb) a la

pub next_words_is : (a b c d x y z : List ℕ) → length a ≡ 4 → length b ≡ 4 → length c ≡ 4 → length d ≡ 4
    → y ≡ sigma_back a b → x ≡ sigma_high d → z ≡ sigma_low (four_sums a c d x y)
    → extend_schedule 4 (a ++ (b ++ (c ++ d))) ≡ (a ++ (b ++ (c ++ d))) ++ two_and_two (four_sums a c d x y) (four_sums a c d z y)
next_words_is a b c d x y z la lb lc ld e f g =
    let low : List ℕ = model_sums a c d (sigma_high d) (sigma_back a b) in
    let same : (u v : List ℕ) → four_sums a c d u v ≡ model_sums a c d u v =
    λ u v. sym (add_lanes_assoc u (pick_l 0 (c ++ d) (1 ∷ (2 ∷ (3 ∷ (4 ∷ []))))) (add_lanes v a)) in
    let l : four_sums a c d x y ≡ low = ap₂ (four_sums a c d) f e ∙ same (sigma_high d) (sigma_back a b) in
    let h : four_sums a c d z y ≡ model_sums a c d (sigma_low low) (sigma_back a b) =
    ap₂ (four_sums a c d) (g ∙ ap sigma_low l) e ∙ same (sigma_low low) (sigma_back a b) in
    made_is a b c d la lb lc ld ∙ ap (λ (r : List ℕ). (a ++ (b ++ (c ++ d))) ++ r) (sym (ap₂ two_and_two l h))

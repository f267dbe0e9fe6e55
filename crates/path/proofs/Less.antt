-- The order of packed paths is that of their words as numbers, and then of their lengths.
use Rattle.std.proofs.Common.{◌≡◌, ℕ, zero, suc, ◌+◌, ◌-◌, ◌*◌, ◌/◌, ◌%◌, ◌^◌, ◌<◌, ◌≤◌, Bool, true, false, ◌&&◌, ◌||◌, eqb, ltb, ◌⊎◌, List, [], ◌∷◌, ◌++◌, length, take, replicate, sym, refl, ap, ◌∙◌, subst, ap₂, inl, inr, append_assoc, pow-suc, arith}
use Rattle.std.proofs.lemmas.List.{take-append-drop, length-append, length-replicate, ext_get_or}
use Rattle.std.proofs.lemmas.Bool.{eq-eqb, ne_eqb, lt-ltb, le-ltb, cases_lt}
use Rattle.std.specs.Ordering.{nat_cmp, is_lt, is_some_and, partial_ordering_then}
use Rattle.std.specs.declared.cmp.Ordering.{Ordering}
use Rattle.std.specs.declared.cmp.Ordering.TheVariants.{Less, Equal, Greater}
use Rattle.std.specs.Cmp.Lexicographic.{slice_partial_cmp}
use Rattle.std.specs.Prelude.{Some, Option, cond}
use Rattle.model.specs.Records.{same_bytes, less_bytes, bits}
use Rattle.path.specs.Packs.{word_bits, path_in, Packs, Fit}
use Rattle.path.proofs.Same.{same_refl, same_true, same_is}
use Rattle.path.proofs.Words.{length_path, begin_alike}

-- ---- lists of numbers

less_same : (zs u v : List ℕ) → less_bytes (zs ++ u) (zs ++ v) ≡ less_bytes u v
unfolding less_bytes
less_same [] u v = refl
less_same (z ∷ zs) u v = rw (le-ltb z z (omega arith), eq-eqb z z refl) (less_same zs u v)

less_self : (xs : List ℕ) → less_bytes xs xs ≡ false
unfolding less_bytes
less_self [] = refl
less_self (x ∷ xs) = rw (le-ltb x x (omega arith), eq-eqb x x refl) (less_self xs)

or_true : (b : Bool) → (b || true) ≡ true
or_true true = refl
or_true false = refl

-- zeros are least
zeros_least : (xs : List ℕ) → (less_bytes (replicate (length xs) 0) xs || same_bytes (replicate (length xs) 0) xs) ≡ true
unfolding less_bytes same_bytes
zeros_least [] = refl
zeros_least (zero ∷ xs) = zeros_least xs
zeros_least (suc x ∷ xs) = rw (lt-ltb 0 (suc x) (omega arith)) refl

nothing_less : (xs : List ℕ) → less_bytes xs (replicate (length xs) 0) ≡ false
unfolding less_bytes
nothing_less [] = refl
nothing_less (zero ∷ xs) = nothing_less xs
nothing_less (suc x ∷ xs) = rw (le-ltb (suc x) 0 (omega arith), ne_eqb (suc x) 0 (λ e. omega arith)) refl

-- two lists filled up with zeros to one length
pub less_padded : (p q : List ℕ) (a b : ℕ) → length p + a ≡ length q + b →
    less_bytes p q ≡ (less_bytes (p ++ replicate a 0) (q ++ replicate b 0) || (same_bytes (p ++ replicate a 0) (q ++ replicate b 0) && ltb (length p) (length q)))
unfolding less_bytes same_bytes
less_padded [] [] a b h = sym (let e : a ≡ b = omega arith in rw (e, less_self (replicate b 0), le-ltb 0 0 (omega arith)) (and_no (same_bytes (replicate b 0) (replicate b 0))))
  where
    and_no : (x : Bool) → (x && false) ≡ false
    and_no true = refl
    and_no false = refl
less_padded [] (y ∷ q) a b h =
    rw (lt-ltb 0 (suc (length q)) (omega arith))
    (sym (subst (λ (n : ℕ). (less_bytes (replicate n 0) (y ∷ (q ++ replicate b 0)) || (same_bytes (replicate n 0) (y ∷ (q ++ replicate b 0)) && true)) ≡ true) (sym len)
    (and_yes (less_bytes (replicate (length (y ∷ (q ++ replicate b 0))) 0) (y ∷ (q ++ replicate b 0))) (same_bytes (replicate (length (y ∷ (q ++ replicate b 0))) 0) (y ∷ (q ++ replicate b 0))) (zeros_least (y ∷ (q ++ replicate b 0))))))
  where
    len : a ≡ length (y ∷ (q ++ replicate b 0))
    len = let l = length-append q (replicate b 0) in let r : length (replicate {A = ℕ} b 0) ≡ b = length-replicate b 0 in omega arith

    and_yes : (x z : Bool) → (x || z) ≡ true → (x || (z && true)) ≡ true
    and_yes true z e = refl
    and_yes false true e = refl
    and_yes false false e = e
less_padded (x ∷ p) [] a b h =
    rw (le-ltb (suc (length p)) 0 (omega arith))
    (sym (subst (λ (n : ℕ). (less_bytes (x ∷ (p ++ replicate a 0)) (replicate n 0) || (same_bytes (x ∷ (p ++ replicate a 0)) (replicate n 0) && false)) ≡ false) (sym len)
    (rw (nothing_less (x ∷ (p ++ replicate a 0))) (and_no (same_bytes (x ∷ (p ++ replicate a 0)) (replicate (length (x ∷ (p ++ replicate a 0))) 0))))))
  where
    len : b ≡ length (x ∷ (p ++ replicate a 0))
    len = let l = length-append p (replicate a 0) in let r : length (replicate {A = ℕ} a 0) ≡ a = length-replicate a 0 in omega arith

    and_no : (x : Bool) → (x && false) ≡ false
    and_no true = refl
    and_no false = refl
less_padded (x ∷ p) (y ∷ q) a b h = go (ltb x y) (eqb x y) (less_padded p q a b (omega arith))
  where
    P : List ℕ
    P = p ++ replicate a 0

    Q : List ℕ
    Q = q ++ replicate b 0

    lengths : (length p < length q) ⊎ (length q ≤ length p) → ltb (suc (length p)) (suc (length q)) ≡ ltb (length p) (length q)
    lengths (inl i) = lt-ltb (suc (length p)) (suc (length q)) (omega arith) ∙ sym (lt-ltb (length p) (length q) i)
    lengths (inr i) = le-ltb (suc (length p)) (suc (length q)) (omega arith) ∙ sym (le-ltb (length p) (length q) i)

    go : (l e : Bool) → less_bytes p q ≡ (less_bytes P Q || (same_bytes P Q && ltb (length p) (length q))) →
        (l || (e && less_bytes p q)) ≡ ((l || (e && less_bytes P Q)) || ((e && same_bytes P Q) && ltb (length (x ∷ p)) (length (y ∷ q))))
    go true e ih = refl
    go false true ih = rw (lengths (cases_lt (length p) (length q))) ih
    go false false ih = refl

less_head : (x y : ℕ) (u v : List ℕ) → x < y → less_bytes (x ∷ u) (y ∷ v) ≡ true
unfolding less_bytes
less_head x y u v h = rw (lt-ltb x y h) refl

not_head : (x y : ℕ) (u v : List ℕ) → y < x → less_bytes (x ∷ u) (y ∷ v) ≡ false
unfolding less_bytes
not_head x y u v h = rw (le-ltb x y (omega arith), ne_eqb x y (λ e. omega arith)) refl

pub same_same : (zs u v : List ℕ) → same_bytes (zs ++ u) (zs ++ v) ≡ same_bytes u v
unfolding same_bytes
same_same [] u v = refl
same_same (z ∷ zs) u v = rw (eq-eqb z z refl) (same_same zs u v)

-- ---- words

less_bits : (n a b : ℕ) (u v : List ℕ) → a < b → b < 2 ^ n → less_bytes (bits n a ++ u) (bits n b ++ v) ≡ true
unfolding bits
less_bits zero a b u v h k = absurd (omega arith)
less_bits (suc n) a b u v h k =
    let d : 2 ^ suc n ≡ 2 ^ n * 2 = pow-suc 2 n in
    ap₂ less_bytes (append_assoc (bits n (a / 2)) (a % 2 ∷ []) u) (append_assoc (bits n (b / 2)) (b % 2 ∷ []) v)
    ∙ go (λ i. less_bits n (a / 2) (b / 2) (a % 2 ∷ u) (b % 2 ∷ v) i (omega arith)) (cases_lt (a / 2) (b / 2))
  where
    last : a % 2 < b % 2 → less_bytes (a % 2 ∷ u) (b % 2 ∷ v) ≡ true
    last i = less_head (a % 2) (b % 2) u v i

    go : (a / 2 < b / 2 → less_bytes (bits n (a / 2) ++ (a % 2 ∷ u)) (bits n (b / 2) ++ (b % 2 ∷ v)) ≡ true) → (a / 2 < b / 2) ⊎ (b / 2 ≤ a / 2) →
        less_bytes (bits n (a / 2) ++ (a % 2 ∷ u)) (bits n (b / 2) ++ (b % 2 ∷ v)) ≡ true
    go ih (inl i) = ih i
    go ih (inr i) =
        let e : a / 2 ≡ b / 2 = omega arith in
        ap (λ (x : ℕ). less_bytes (bits n x ++ (a % 2 ∷ u)) (bits n (b / 2) ++ (b % 2 ∷ v))) e ∙ (less_same (bits n (b / 2)) (a % 2 ∷ u) (b % 2 ∷ v) ∙ last (omega arith))

less_not : (n a b : ℕ) (u v : List ℕ) → b < a → a < 2 ^ n → less_bytes (bits n a ++ u) (bits n b ++ v) ≡ false
unfolding bits
less_not zero a b u v h k = absurd (omega arith)
less_not (suc n) a b u v h k =
    let d : 2 ^ suc n ≡ 2 ^ n * 2 = pow-suc 2 n in
    ap₂ less_bytes (append_assoc (bits n (a / 2)) (a % 2 ∷ []) u) (append_assoc (bits n (b / 2)) (b % 2 ∷ []) v)
    ∙ go (λ i. less_not n (a / 2) (b / 2) (a % 2 ∷ u) (b % 2 ∷ v) i (omega arith)) (cases_lt (b / 2) (a / 2))
  where
    go : (b / 2 < a / 2 → less_bytes (bits n (a / 2) ++ (a % 2 ∷ u)) (bits n (b / 2) ++ (b % 2 ∷ v)) ≡ false) → (b / 2 < a / 2) ⊎ (a / 2 ≤ b / 2) →
        less_bytes (bits n (a / 2) ++ (a % 2 ∷ u)) (bits n (b / 2) ++ (b % 2 ∷ v)) ≡ false
    go ih (inl i) = ih i
    go ih (inr i) =
        let e : a / 2 ≡ b / 2 = omega arith in
        ap (λ (x : ℕ). less_bytes (bits n x ++ (a % 2 ∷ u)) (bits n (b / 2) ++ (b % 2 ∷ v))) e ∙ (less_same (bits n (b / 2)) (a % 2 ∷ u) (b % 2 ∷ v) ∙ not_head (a % 2) (b % 2) u v (omega arith))

is_lt-nat_cmp : (n m : ℕ) → is_lt (nat_cmp n m) ≡ ltb n m
is_lt-nat_cmp n m = go (ltb n m) (eqb n m)
  where
    go : (l e : Bool) → is_lt (cond l Less (cond e Equal Greater)) ≡ l
    go true e = refl
    go false true = refl
    go false false = refl

-- the library's order, on words and then on lengths
pub then_less : (ws vs : List ℕ) (n m : ℕ) (r : Bool) → r ≡ is_some_and is_lt (partial_ordering_then (slice_partial_cmp (λ x y. Some (nat_cmp x y)) ws vs) (Some (nat_cmp n m))) →
    r ≡ (less_bytes ws vs || (same_bytes ws vs && ltb n m))
unfolding less_bytes same_bytes
then_less [] [] n m r h = h ∙ is_lt-nat_cmp n m
then_less [] (v ∷ vs) n m r h = h
then_less (w ∷ ws) [] n m r h = h
then_less (w ∷ ws) (v ∷ vs) n m r h = go (ltb w v) (eqb w v) (then_less ws vs n m r) h
  where
    rest : Option Ordering
    rest = slice_partial_cmp (λ x y. Some (nat_cmp x y)) ws vs

    go : (l e : Bool) → (r ≡ is_some_and is_lt (partial_ordering_then rest (Some (nat_cmp n m))) → r ≡ (less_bytes ws vs || (same_bytes ws vs && ltb n m))) →
        r ≡ is_some_and is_lt (partial_ordering_then (partial_ordering_then (Some (cond l Less (cond e Equal Greater))) rest) (Some (nat_cmp n m))) →
        r ≡ ((l || (e && less_bytes ws vs)) || ((e && same_bytes ws vs) && ltb n m))
    go true e ih k = k
    go false true ih k = ih k
    go false false ih k = k

-- the first word that differs decides
less_word_bits : (ws vs : List ℕ) → length ws ≡ length vs → Fit ws → Fit vs → less_bytes (word_bits ws) (word_bits vs) ≡ less_bytes ws vs
unfolding word_bits less_bytes
less_word_bits [] [] l f g = refl
less_word_bits [] (v ∷ vs) l f g = absurd (omega arith)
less_word_bits (w ∷ ws) [] l f g = absurd (omega arith)
less_word_bits (w ∷ ws) (v ∷ vs) l f g = elim (cases_lt w v) [ inl i ↦ first i | inr i ↦ elim (cases_lt v w) [ inl j ↦ last j | inr j ↦ rest (less_word_bits ws vs (omega arith) (λ i. f (suc i)) (λ i. g (suc i))) (omega arith) ] ]
  where
    first : w < v → less_bytes (bits 64 w ++ word_bits ws) (bits 64 v ++ word_bits vs) ≡ (ltb w v || (eqb w v && less_bytes ws vs))
    first i = less_bits 64 w v (word_bits ws) (word_bits vs) i (g 0) ∙ sym (rw (lt-ltb w v i) refl)

    last : v < w → less_bytes (bits 64 w ++ word_bits ws) (bits 64 v ++ word_bits vs) ≡ (ltb w v || (eqb w v && less_bytes ws vs))
    last i = less_not 64 w v (word_bits ws) (word_bits vs) i (f 0) ∙ sym (rw (le-ltb w v (omega arith), ne_eqb w v (λ e. omega arith)) refl)

    rest : less_bytes (word_bits ws) (word_bits vs) ≡ less_bytes ws vs → w ≡ v → less_bytes (bits 64 w ++ word_bits ws) (bits 64 v ++ word_bits vs) ≡ (ltb w v || (eqb w v && less_bytes ws vs))
    rest ih e =
        ap (λ (x : ℕ). less_bytes (bits 64 x ++ word_bits ws) (bits 64 v ++ word_bits vs)) e ∙ less_same (bits 64 v) (word_bits ws) (word_bits vs)
        ∙ ih ∙ sym (rw (le-ltb w v (omega arith), eq-eqb w v e) refl)

-- a path and the zeros past it are its words
whole : (n : ℕ) (ws : List ℕ) → Packs n ws → path_in n ws ++ replicate (64 * length ws - n) 0 ≡ word_bits ws
whole n ws p = ap (λ (l : List ℕ). path_in n ws ++ l) (sym p.1) ∙ take-append-drop n (word_bits ws)

less_path : (n m : ℕ) (ws vs : List ℕ) → length ws ≡ length vs → Packs n ws → Packs m vs →
    less_bytes (path_in n ws) (path_in m vs) ≡ (less_bytes (word_bits ws) (word_bits vs) || (same_bytes (word_bits ws) (word_bits vs) && ltb n m))
less_path n m ws vs l p q =
    let a = length_path n ws p.0 in
    let b = length_path m vs q.0 in
    let pn = p.0 in
    let qm = q.0 in
    less_padded (path_in n ws) (path_in m vs) (64 * length ws - n) (64 * length vs - m) (omega arith)
    ∙ (ap₂ (λ x y. less_bytes x y || (same_bytes x y && ltb (length (path_in n ws)) (length (path_in m vs)))) (whole n ws p) (whole m vs q)
    ∙ ap₂ (λ x y. less_bytes (word_bits ws) (word_bits vs) || (same_bytes (word_bits ws) (word_bits vs) && ltb x y)) a b)

-- ---- paths that are the same

-- equal bits are equal words
pub words_same : (ws vs : List ℕ) → length ws ≡ length vs → Fit ws → Fit vs → word_bits ws ≡ word_bits vs → ws ≡ vs
words_same ws vs l f g e =
    let n : ℕ = 64 * length ws in
    let a = begin_alike n ws vs l (omega arith) f g (ap (take n) e) in
    ext_get_or 0 ws vs l (λ i h. a.0 i (omega arith))

same_word_bits : (ws vs : List ℕ) → length ws ≡ length vs → Fit ws → Fit vs → same_bytes ws vs ≡ same_bytes (word_bits ws) (word_bits vs)
same_word_bits ws vs l f g =
    same_is (word_bits ws) (word_bits vs) (same_bytes ws vs) (λ e. ap word_bits (same_true ws vs e)) (λ e. ap (λ (x : List ℕ). same_bytes x vs) (words_same ws vs l f g e) ∙ same_refl vs)

pub less_packed : (n m : ℕ) (ws vs : List ℕ) → length ws ≡ length vs → Packs n ws → Packs m vs → Fit ws → Fit vs →
    less_bytes (path_in n ws) (path_in m vs) ≡ (less_bytes ws vs || (same_bytes ws vs && ltb n m))
less_packed n m ws vs l p q f g =
    less_path n m ws vs l p q ∙ ap₂ (λ x y. x || (y && ltb n m)) (less_word_bits ws vs l f g) (sym (same_word_bits ws vs l f g))

-- two paths of one length in words of one number
pub same_packed : (n : ℕ) (ws vs : List ℕ) → length ws ≡ length vs → Packs n ws → Packs n vs → Fit ws → Fit vs →
    same_bytes ws vs ≡ same_bytes (path_in n ws) (path_in n vs)
same_packed n ws vs l p q f g = same_is (path_in n ws) (path_in n vs) (same_bytes ws vs) (λ e. ap (path_in n) (same_true ws vs e)) back
  where
    back : path_in n ws ≡ path_in n vs → same_bytes ws vs ≡ true
    back e =
        let z : word_bits ws ≡ word_bits vs =
        sym (whole n ws p) ∙ (ap₂ (λ (x : List ℕ) (k : ℕ). x ++ replicate (64 * k - n) 0) e l ∙ whole n vs q) in
        ap (λ (x : List ℕ). same_bytes x vs) (words_same ws vs l f g z) ∙ same_refl vs

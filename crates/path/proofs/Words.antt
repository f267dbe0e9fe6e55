-- What the words of a packed path say of its bits.
use Rattle.std.proofs.Common.{◌≡◌, ℕ, zero, suc, ◌+◌, ◌-◌, ◌*◌, ◌/◌, ◌%◌, ◌^◌, ◌<◌, ◌≤◌, ◌⊎◌, List, [], ◌∷◌, ◌++◌, length, get_or, take, drop, sym, refl, ap, ◌∙◌, subst, ap₂, inl, inr, pow-suc, zero-add, div-one, arith, length-append, length-take}
use Rattle.std.proofs.lemmas.List.{take_all, take-append-le, get_or_append_left, get_or-append_right, get_or_push, length_push, get_or-take, get_or-drop, get_or_past, get_or-replicate, same_from_push, take_at, drop_at}
use Rattle.std.proofs.lemmas.Bool.{cases_lt}
use Rattle.std.proofs.lemmas.Nat.{shr-shr, shr_below}
use Rattle.model.specs.Records.{bits}
use Rattle.path.specs.Packs.{word_bits, path_in, Packs, Fit}

-- ---- one word

pub length_bits : (n b : ℕ) → length (bits n b) ≡ n
unfolding bits
length_bits zero b = refl
length_bits (suc n) b = length_push (bits n (b / 2)) (b % 2) ∙ (let e = length_bits n (b / 2) in omega arith)

pub bits_same : (n a b : ℕ) → a < 2 ^ n → b < 2 ^ n → bits n a ≡ bits n b → a ≡ b
unfolding bits
bits_same zero a b h k e = omega arith
bits_same (suc n) a b h k e =
    let p = same_from_push (bits n (a / 2)) (bits n (b / 2)) (a % 2) (b % 2) e in
    let d : 2 ^ suc n ≡ 2 ^ n * 2 = pow-suc 2 n in
    let q = bits_same n (a / 2) (b / 2) (omega arith) (omega arith) p.0 in
    let r = p.1 in
    omega arith

-- the bits that a word begins with are those of the word shifted
pub bits_begin : (m k w : ℕ) → take m (bits (k + m) w) ≡ bits m (w / 2 ^ k)
unfolding bits
bits_begin m zero w = rw (div-one w, zero-add m) (take_all m (bits m w) (let l = length_bits m w in omega arith))
bits_begin m (suc k) w =
    let l = length_bits (k + m) (w / 2) in
    let e : suc k + m ≡ suc (k + m) = omega arith in
    ap (λ (n : ℕ). take m (bits n w)) e
    ∙ (take-append-le m (bits (k + m) (w / 2)) (w % 2 ∷ []) (omega arith)
    ∙ (bits_begin m k (w / 2) ∙ ap (bits m) (shr-shr w 1 k ∙ ap (λ (n : ℕ). w / 2 ^ n) (let f : 1 + k ≡ suc k = omega arith in f))))

pub word_begin : (m w : ℕ) → m ≤ 64 → take m (bits 64 w) ≡ bits m (w / 2 ^ (64 - m))
word_begin m w h = let e : (64 - m) + m ≡ 64 = omega arith in subst (λ (n : ℕ). take m (bits n w) ≡ bits m (w / 2 ^ (64 - m))) e (bits_begin m (64 - m) w)

pub get_d_bits : (n b i : ℕ) → i < n → get_or (bits n b) i 0 ≡ b / 2 ^ (n - 1 - i) % 2
unfolding bits
get_d_bits zero b i h = absurd (omega arith)
get_d_bits (suc n) b i h = go (get_d_bits n (b / 2) i) (cases_lt i n)
  where
    len : length (bits n (b / 2)) ≡ n
    len = length_bits n (b / 2)

    go : (i < n → get_or (bits n (b / 2)) i 0 ≡ b / 2 / 2 ^ (n - 1 - i) % 2) → (i < n) ⊎ (n ≤ i) → get_or (bits n (b / 2) ++ (b % 2 ∷ [])) i 0 ≡ b / 2 ^ (suc n - 1 - i) % 2
    go ih (inl lt) =
        let q : suc n - 1 - i ≡ 1 + (n - 1 - i) = omega arith in
        get_or_append_left (bits n (b / 2)) (b % 2 ∷ []) 0 i (omega (arith, len))
        ∙ (ih lt ∙ (ap (λ (x : ℕ). x % 2) (shr-shr b 1 (n - 1 - i)) ∙ ap (λ (x : ℕ). b / 2 ^ x % 2) (sym q)))
    go ih (inr ge) =
        let q : suc n - 1 - i ≡ 0 = omega arith in
        get_or_push (bits n (b / 2)) (b % 2) 0 i (omega (arith, len)) ∙ (ap (λ (x : ℕ). x % 2) (sym (div-one b)) ∙ ap (λ (x : ℕ). b / 2 ^ x % 2) (sym q))

-- ---- words one after the other

pub length_word_bits : (ws : List ℕ) → length (word_bits ws) ≡ 64 * length ws
unfolding word_bits
length_word_bits [] = refl
length_word_bits (w ∷ ws) =
    let a = length-append (bits 64 w) (word_bits ws) in
    let b = length_bits 64 w in
    let d = length_word_bits ws in
    omega arith

pub get_or_word_bits : (ws : List ℕ) (i : ℕ) → i < 64 * length ws → get_or (word_bits ws) i 0 ≡ get_or ws (i / 64) 0 / 2 ^ (63 - i % 64) % 2
unfolding word_bits
get_or_word_bits [] i h = absurd (omega arith)
get_or_word_bits (w ∷ ws) i h = go (get_or_word_bits ws (i - 64)) (cases_lt i 64)
  where
    len : length (bits 64 w) ≡ 64
    len = length_bits 64 w

    go : (i - 64 < 64 * length ws → get_or (word_bits ws) (i - 64) 0 ≡ get_or ws ((i - 64) / 64) 0 / 2 ^ (63 - (i - 64) % 64) % 2) → (i < 64) ⊎ (64 ≤ i) → get_or (bits 64 w ++ word_bits ws) i 0 ≡ get_or (w ∷ ws) (i / 64) 0 / 2 ^ (63 - i % 64) % 2
    go ih (inl lt) =
        let q : i / 64 ≡ 0 = omega arith in
        let r : i % 64 ≡ i = omega arith in
        get_or_append_left (bits 64 w) (word_bits ws) 0 i (omega (arith, len)) ∙ (get_d_bits 64 w i lt ∙ rw (q, r) refl)
    go ih (inr ge) =
        let q : i / 64 ≡ suc ((i - 64) / 64) = omega arith in
        let r : i % 64 ≡ (i - 64) % 64 = omega arith in
        get_or-append_right (bits 64 w) (word_bits ws) 64 i 0 len ge ∙ (ih (omega arith) ∙ rw (q, r) refl)

pub length_path : (n : ℕ) (ws : List ℕ) → n ≤ 64 * length ws → length (path_in n ws) ≡ n
length_path n ws h = let l = length_word_bits ws in simp length-take (omega arith)

pub get_or_path : (n : ℕ) (ws : List ℕ) (i : ℕ) → i < n → get_or (path_in n ws) i 0 ≡ get_or (word_bits ws) i 0
get_or_path n ws i h = get_or-take n (word_bits ws) i 0 h

-- past a packed path there are zeros
pub get_or_packed : (n : ℕ) (ws : List ℕ) (i : ℕ) → Packs n ws → i < 64 * length ws → get_or (word_bits ws) i 0 ≡ get_or (path_in n ws) i 0
get_or_packed n ws i p h = go (cases_lt i n)
  where
    go : (i < n) ⊎ (n ≤ i) → get_or (word_bits ws) i 0 ≡ get_or (path_in n ws) i 0
    go (inl l) = sym (get_or_path n ws i l)
    go (inr g) =
        let l = length_path n ws p.0 in
        let e : n + (i - n) ≡ i = omega arith in
        ap (λ (k : ℕ). get_or (word_bits ws) k 0) (sym e)
        ∙ (sym (get_or-drop n (word_bits ws) (i - n) 0)
        ∙ (ap (λ (xs : List ℕ). get_or xs (i - n) 0) p.1
        ∙ (get_or-replicate (64 * length ws - n) (i - n) 0 0 (omega arith) ∙ sym (get_or_past (path_in n ws) i 0 (omega arith)))))

-- ---- paths that begin alike

take_split : (m : ℕ) (w : ℕ) (ws : List ℕ) → 64 ≤ m → take m (bits 64 w ++ word_bits ws) ≡ bits 64 w ++ take (m - 64) (word_bits ws)
take_split m w ws h = let e : 64 + (m - 64) ≡ m = omega arith in subst (λ (n : ℕ). take n (bits 64 w ++ word_bits ws) ≡ bits 64 w ++ take (m - 64) (word_bits ws)) e (take_over (bits 64 w) (word_bits ws) (length_bits 64 w))
  where
    take_over : (xs ys : List ℕ) → length xs ≡ 64 → take (64 + (m - 64)) (xs ++ ys) ≡ xs ++ take (m - 64) ys
    take_over xs ys l = subst (λ (n : ℕ). take (n + (m - 64)) (xs ++ ys) ≡ xs ++ take (m - 64) ys) l (over xs)
      where
        over : (zs : List ℕ) → take (length zs + (m - 64)) (zs ++ ys) ≡ zs ++ take (m - 64) ys
        over [] = ap (λ (n : ℕ). take n ys) (let e : 0 + (m - 64) ≡ m - 64 = omega arith in e)
        over (z ∷ zs) = let e : suc (length zs) + (m - 64) ≡ suc (length zs + (m - 64)) = omega arith in rw e (ap (λ l. z ∷ l) (over zs))

-- the words say where two paths begin alike: whole words, and the bits of the last
abbrev pub Alike : ℕ → List ℕ → List ℕ → Type 0
Alike m ws vs = ((k : ℕ) → k < m / 64 → get_or ws k 0 ≡ get_or vs k 0) × (get_or ws (m / 64) 0 / 2 ^ (64 - m % 64) ≡ get_or vs (m / 64) 0 / 2 ^ (64 - m % 64))

pub alike_begin : (m : ℕ) (ws vs : List ℕ) → length ws ≡ length vs → m ≤ 64 * length ws → Alike m ws vs → path_in m ws ≡ path_in m vs
unfolding word_bits
alike_begin m [] [] l h a = refl
alike_begin m [] (v ∷ vs) l h a = absurd (omega arith)
alike_begin m (w ∷ ws) [] l h a = absurd (omega arith)
alike_begin m (w ∷ ws) (v ∷ vs) l h a = go (alike_begin (m - 64) ws vs) (cases_lt m 64)
  where
    go : (length ws ≡ length vs → m - 64 ≤ 64 * length ws → Alike (m - 64) ws vs → path_in (m - 64) ws ≡ path_in (m - 64) vs) → (m < 64) ⊎ (64 ≤ m) → take m (bits 64 w ++ word_bits ws) ≡ take m (bits 64 v ++ word_bits vs)
    go ih (inl lt) =
        let q : m / 64 ≡ 0 = omega arith in
        let r : m % 64 ≡ m = omega arith in
        let x = length_bits 64 w in
        let y = length_bits 64 v in
        let b : w / 2 ^ (64 - m) ≡ v / 2 ^ (64 - m) = rw (q, r) at a.1 in
        take-append-le m (bits 64 w) (word_bits ws) (omega arith)
        ∙ (word_begin m w (omega arith) ∙ (ap (bits m) b ∙ sym (take-append-le m (bits 64 v) (word_bits vs) (omega arith) ∙ word_begin m v (omega arith))))
    go ih (inr ge) =
        let q : m / 64 ≡ suc ((m - 64) / 64) = omega arith in
        let r : m % 64 ≡ (m - 64) % 64 = omega arith in
        let b : w ≡ v = a.0 0 (omega arith) in
        let c : Alike (m - 64) ws vs = (λ k i. a.0 (suc k) (omega arith), rw (q, r) at a.1) in
        take_split m w ws ge ∙ (ap₂ (λ x y. bits 64 x ++ y) b (ih (omega arith) (omega arith) c) ∙ sym (take_split m v vs ge))

pub begin_alike : (m : ℕ) (ws vs : List ℕ) → length ws ≡ length vs → m ≤ 64 * length ws → Fit ws → Fit vs → path_in m ws ≡ path_in m vs → Alike m ws vs
unfolding word_bits
begin_alike m [] [] l h f g e = (λ k i. refl, refl)
begin_alike m [] (v ∷ vs) l h f g e = absurd (omega arith)
begin_alike m (w ∷ ws) [] l h f g e = absurd (omega arith)
begin_alike m (w ∷ ws) (v ∷ vs) l h f g e = go (begin_alike (m - 64) ws vs) (cases_lt m 64)
  where
    fw : w < 2 ^ 64
    fw = f 0

    fv : v < 2 ^ 64
    fv = g 0

    x : length (bits 64 w) ≡ 64
    x = length_bits 64 w

    y : length (bits 64 v) ≡ 64
    y = length_bits 64 v

    go : (length ws ≡ length vs → m - 64 ≤ 64 * length ws → Fit ws → Fit vs → path_in (m - 64) ws ≡ path_in (m - 64) vs → Alike (m - 64) ws vs) → (m < 64) ⊎ (64 ≤ m) → Alike m (w ∷ ws) (v ∷ vs)
    go ih (inl lt) =
        let q : m / 64 ≡ 0 = omega arith in
        let r : m % 64 ≡ m = omega arith in
        let b : bits m (w / 2 ^ (64 - m)) ≡ bits m (v / 2 ^ (64 - m)) =
        sym (take-append-le m (bits 64 w) (word_bits ws) (omega (arith, x)) ∙ word_begin m w (omega arith))
        ∙ (e ∙ (take-append-le m (bits 64 v) (word_bits vs) (omega (arith, y)) ∙ word_begin m v (omega arith))) in
        let j : 64 ≡ m + (64 - m) = omega arith in
        let c : w / 2 ^ (64 - m) ≡ v / 2 ^ (64 - m) = bits_same m (w / 2 ^ (64 - m)) (v / 2 ^ (64 - m)) (shr_below w m (64 - m) (subst (λ (n : ℕ). w < 2 ^ n) j fw)) (shr_below v m (64 - m) (subst (λ (n : ℕ). v < 2 ^ n) j fv)) b in
        (λ k i. absurd (omega arith), rw (q, r) c)
    go ih (inr ge) =
        let q : m / 64 ≡ suc ((m - 64) / 64) = omega arith in
        let r : m % 64 ≡ (m - 64) % 64 = omega arith in
        let s : bits 64 w ++ take (m - 64) (word_bits ws) ≡ bits 64 v ++ take (m - 64) (word_bits vs) = sym (take_split m w ws ge) ∙ (e ∙ take_split m v vs ge) in
        let hd : bits 64 w ≡ bits 64 v = sym (take_at (bits 64 w) _ 64 x) ∙ (ap (take 64) s ∙ take_at (bits 64 v) _ 64 y) in
        let tl : path_in (m - 64) ws ≡ path_in (m - 64) vs = sym (drop_at (bits 64 w) _ 64 x) ∙ (ap (drop 64) s ∙ drop_at (bits 64 v) _ 64 y) in
        let b : w ≡ v = bits_same 64 w v fw fv hd in
        let c = ih (omega arith) (omega arith) (λ i. f (suc i)) (λ i. g (suc i)) tl in
        (λ k i. each k i b c.0, rw (q, r) c.1)
      where
        each : (k : ℕ) → k < m / 64 → w ≡ v → ((j : ℕ) → j < (m - 64) / 64 → get_or ws j 0 ≡ get_or vs j 0) → get_or (w ∷ ws) k 0 ≡ get_or (v ∷ vs) k 0
        each zero i b c = b
        each (suc k) i b c = c k (omega arith)

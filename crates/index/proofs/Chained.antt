-- The steps along a chain, and what a write leaves of it.
use Rattle.std.proofs.Common.{◌≡◌, ℕ, zero, suc, ◌+◌, ◌-◌, ◌<◌, ◌≤◌, true, false, ◌||◌, eqb, List, [], ◌∷◌, ◌++◌, length, get_or, drop, set, sym, refl, ap, ◌∙◌, subst, add-zero, arith, length-drop, get_or-drop, get_or-set_other}
use Rattle.std.proofs.lemmas.Bool.{or_parts, or_left, or_right, eq-eqb, eqb-false}
use Rattle.index.specs.Chains.{Chain, link_after, has}

pub chain_zero : (n : ℕ) (m : List ℕ) (h : ℕ) (xs : List ℕ) → Chain n m h xs → h ≡ 0 → xs ≡ []
unfolding Chain
chain_zero n m h [] c z = refl
chain_zero n m h (i ∷ is) c z = let e = c.0 in absurd (omega arith)

pub chain_over : (n : ℕ) (m : List ℕ) (h : ℕ) (xs : List ℕ) → Chain n m h xs → n < h → ⊥
unfolding Chain
chain_over n m h [] c l = let e : h ≡ 0 = c in omega arith
chain_over n m h (i ∷ is) c l = let e = c.0 in let f = c.1 in omega arith

pub chain_step : (n : ℕ) (m : List ℕ) (h : ℕ) (xs : List ℕ) → Chain n m h xs → (h ≡ 0 → ⊥) → (xs ≡ (h - 1) ∷ drop 1 xs) × Chain n m (get_or m (n + (h - 1)) 0) (drop 1 xs)
unfolding Chain
chain_step n m h [] c z = absurd (z c)
chain_step n m h (i ∷ is) c z =
    let e : i ≡ h - 1 = omega (arith, c.0) in
    (ap (λ (x : ℕ). x ∷ is) e, subst (λ (x : ℕ). Chain n m (get_or m (n + x) 0) is) e c.2)

pub drop_head : (xs : List ℕ) (k y : ℕ) (ys : List ℕ) (d : ℕ) → drop k xs ≡ y ∷ ys → (k < length xs) × (get_or xs k d ≡ y)
drop_head xs k y ys d e =
    let l : length (drop k xs) ≡ suc (length ys) = ap length e in
    let m = length-drop k xs in
    (omega arith, ap (λ (x : ℕ). get_or xs x d) (sym (add-zero k)) ∙ sym (get_or-drop k xs 0 d) ∙ ap (λ (l : List ℕ). get_or l 0 d) e)

-- a write to a word that no link of the chain is in
pub chain_same : (n : ℕ) (m : List ℕ) (h a v : ℕ) (xs : List ℕ) → ((i : ℕ) → has i xs ≡ true → n + i ≡ a → ⊥) → Chain n m h xs → Chain n (set m a v) h xs
unfolding Chain has
chain_same n m h a v [] f c = c
chain_same n m h a v (i ∷ is) f c =
    let ne : n + i ≡ a → ⊥ = f i (first i is) in (
      c.0,
      c.1,
      subst (λ (x : ℕ). Chain n (set m a v) x is) (sym (get_or-set_other m a (n + i) v 0 ne))
          (chain_same n m (get_or m (n + i) 0) a v is (λ j t. f j (later i j is t)) c.2),
    )
  where
    first : (i : ℕ) (is : List ℕ) → (eqb i i || has i is) ≡ true
    first i is = or_left (eqb i i) (has i is) (eq-eqb i i refl)

    later : (i j : ℕ) (is : List ℕ) → has j is ≡ true → (eqb j i || has j is) ≡ true
    later i j is t = or_right (eqb j i) (has j is) t

-- a step that does not come to slot i yet
pub chain_cut : (n : ℕ) (m : List ℕ) (h i : ℕ) (ws ys : List ℕ) → Chain n m h (ws ++ i ∷ ys) → (h ≡ suc i → ⊥)
    → (ws ≡ (h - 1) ∷ drop 1 ws) × Chain n m (get_or m (n + (h - 1)) 0) (drop 1 ws ++ i ∷ ys)
unfolding Chain
chain_cut n m h i [] ys c z = absurd (z c.0)
chain_cut n m h i (w ∷ ws) ys c z =
    let e : w ≡ h - 1 = omega (arith, c.0) in
    (ap (λ (x : ℕ). x ∷ ws) e, subst (λ (x : ℕ). Chain n m (get_or m (n + x) 0) (ws ++ i ∷ ys)) e c.2)

pub link_after_push : (n b : ℕ) (xs : List ℕ) (x : ℕ) → link_after n b (xs ++ x ∷ []) ≡ n + x
unfolding link_after
link_after_push n b [] x = refl
link_after_push n b (y ∷ xs) x = link_after_push n (n + y) xs x

has_not : (i : ℕ) (xs : List ℕ) (k w : ℕ) (ws : List ℕ) → has i xs ≡ false → drop k xs ≡ w ∷ ws → i ≡ w → ⊥
unfolding has
has_not i [] zero w ws f e q = let z : ◌≡◌ {A = ℕ} 0 1 = cc in omega arith
has_not i [] (suc k) w ws f e q = let z : ◌≡◌ {A = ℕ} 0 1 = cc in omega arith
has_not i (x ∷ xs) zero w ws f e q =
    let a : x ≡ w = cc in
    eqb-false i x (or_parts (eqb i x) (has i xs) f).0 (q ∙ sym a)
has_not i (x ∷ xs) (suc k) w ws f e q = has_not i xs k w ws (or_parts (eqb i x) (has i xs) f).1 e q

first_link : (n : ℕ) (m : List ℕ) (h w : ℕ) (ws : List ℕ) → Chain n m h (w ∷ ws) → h ≡ suc w
unfolding Chain
first_link n m h w ws c = c.0

-- where the link is slot i, all before it is passed
passed_all : (n : ℕ) (m : List ℕ) (h i : ℕ) (xs ys : List ℕ) (k : ℕ) (ws : List ℕ) → drop k xs ≡ ws → Chain n m h (ws ++ i ∷ ys) → h ≡ i + 1 → has i xs ≡ false → length xs ≤ k
passed_all n m h i xs ys k [] q c e f = let l = length-drop k xs in let p : length (drop k xs) ≡ 0 = ap length q in omega arith
passed_all n m h i xs ys k (w ∷ ws) q c e f =
    let a = first_link n m h w (ws ++ i ∷ ys) c in
    let b : i ≡ w = omega arith in
    absurd (has_not i xs k w ws f q b)

pub chain_passed : (n : ℕ) (m : List ℕ) (h i : ℕ) (xs ys : List ℕ) (k : ℕ) → Chain n m h (drop k xs ++ i ∷ ys) → h ≡ i + 1 → has i xs ≡ false → length xs ≤ k
chain_passed n m h i xs ys k c e f = passed_all n m h i xs ys k (drop k xs) refl c e f

-- a chain that has a slot does not end here
pub chain_more : (n : ℕ) (m : List ℕ) (h i : ℕ) (ws ys : List ℕ) → Chain n m h (ws ++ i ∷ ys) → h ≡ 0 → ⊥
chain_more n m h i [] ys c z = let a = first_link n m h i ys c in omega arith
chain_more n m h i (w ∷ ws) ys c z = let a = first_link n m h w (ws ++ i ∷ ys) c in omega arith

-- from a link on there is one chain
pub chain_unique : (n : ℕ) (m : List ℕ) (h : ℕ) (xs ys : List ℕ) → Chain n m h xs → Chain n m h ys → xs ≡ ys
unfolding Chain
chain_unique n m h [] [] c d = refl
chain_unique n m h [] (y ∷ ys) c d = let e : h ≡ 0 = c in let f = d.0 in absurd (omega arith)
chain_unique n m h (x ∷ xs) [] c d = let e : h ≡ 0 = d in let f = c.0 in absurd (omega arith)
chain_unique n m h (x ∷ xs) (y ∷ ys) c d =
    let e : y ≡ x = omega (arith, c.0, d.0) in
    ap (λ (k : ℕ). k ∷ xs) (sym e) ∙ ap (λ (l : List ℕ). y ∷ l) (chain_unique n m (get_or m (n + x) 0) xs ys c.2 (subst (λ (k : ℕ). Chain n m (get_or m (n + k) 0) ys) e d.2))

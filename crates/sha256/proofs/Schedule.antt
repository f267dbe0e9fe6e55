-- The message schedule: more words, a few at a time.
use Rattle.std.proofs.Common.{◌≡◌, ℕ, zero, suc, ◌+◌, ◌-◌, ◌≤◌, List, [], ◌∷◌, ◌++◌, length, get_or, take, sym, refl, ap, ◌∙◌, append_assoc, suc-add, zero-add, arith}
use Rattle.std.proofs.lemmas.List.{get_or-append_right, length-append, length_push, take-append-le}
use Rattle.model.specs.Sha256.{extend_schedule}
use Rattle.sha256.specs.Parts.{next_word, small_sigma_0, small_sigma_1}

extend_suc : (n : ℕ) (w : List ℕ) → extend_schedule (suc n) w ≡ extend_schedule n (w ++ next_word w ∷ [])
unfolding extend_schedule next_word small_sigma_0 small_sigma_1
extend_suc n w = refl

pub extend_none : (w : List ℕ) → extend_schedule 0 w ≡ w
unfolding extend_schedule
extend_none w = refl

pub extend_add : (m n : ℕ) (w : List ℕ) → extend_schedule (m + n) w ≡ extend_schedule n (extend_schedule m w)
extend_add zero n w = ap (λ (k : ℕ). extend_schedule k w) (zero-add n) ∙ ap (extend_schedule n) (sym (extend_none w))
extend_add (suc m) n w =
    ap (λ (k : ℕ). extend_schedule k w) (suc-add m n) ∙ extend_suc (m + n) w ∙ extend_add m n (w ++ next_word w ∷ [])
    ∙ ap (extend_schedule n) (sym (extend_suc m w))

pub take_extend : (n k : ℕ) (w : List ℕ) → k ≤ length w → take k (extend_schedule n w) ≡ take k w
take_extend zero k w h = ap (take k) (extend_none w)
take_extend (suc n) k w h =
    let l : k ≤ length (w ++ next_word w ∷ []) = simp length_push (omega arith) in
    ap (take k) (extend_suc n w) ∙ take_extend n k (w ++ next_word w ∷ []) l ∙ take-append-le k w (next_word w ∷ []) h

-- a word comes from the sixteen before it
next_word_front : (p w : List ℕ) → 16 ≤ length w → next_word (p ++ w) ≡ next_word w
unfolding next_word
next_word_front p w h =
    let at : (k : ℕ) → 1 ≤ k → k ≤ 16 → get_or (p ++ w) (length (p ++ w) - k) 0 ≡ get_or w (length w - k) 0 =
    λ k l m.
    let n = length-append p w in
    let e : length (p ++ w) - k - length p ≡ length w - k = omega arith in
    get_or-append_right p w (length p) (length (p ++ w) - k) 0 refl (omega arith) ∙ ap (λ (i : ℕ). get_or w i 0) e in
    let e2 = at 2 (omega arith) (omega arith) in
    let e7 = at 7 (omega arith) (omega arith) in
    let e15 = at 15 (omega arith) (omega arith) in
    let e16 = at 16 (omega arith) (omega arith) in
    cc

pub extend_front : (n : ℕ) (p w : List ℕ) → 16 ≤ length w → extend_schedule n (p ++ w) ≡ p ++ extend_schedule n w
extend_front zero p w h = extend_none (p ++ w) ∙ ap (λ (x : List ℕ). p ++ x) (sym (extend_none w))
extend_front (suc n) p w h =
    let l : 16 ≤ length (w ++ next_word w ∷ []) = simp length_push (omega arith) in
    let e : (p ++ w) ++ next_word (p ++ w) ∷ [] ≡ p ++ (w ++ next_word w ∷ []) =
    ap (λ (x : ℕ). (p ++ w) ++ x ∷ []) (next_word_front p w h) ∙ append_assoc p w (next_word w ∷ []) in
    extend_suc n (p ++ w) ∙ ap (extend_schedule n) e ∙ extend_front n p (w ++ next_word w ∷ []) l ∙ ap (λ (x : List ℕ). p ++ x) (sym (extend_suc n w))

-- the words w after the four of a, and the next four
extend_four : (n : ℕ) (a w x : List ℕ) → extend_schedule 4 (a ++ w) ≡ (a ++ w) ++ x → length (w ++ x) ≡ 16
    → extend_schedule (4 + n) (a ++ w) ≡ a ++ extend_schedule n (w ++ x)
extend_four n a w x e h =
    extend_add 4 n (a ++ w) ∙ ap (extend_schedule n) (e ∙ append_assoc a w x) ∙ extend_front n a (w ++ x) (omega arith)

pub extend_sixteen : (a b c d e f g h : List ℕ)
    → length (b ++ (c ++ (d ++ e))) ≡ 16 → length (c ++ (d ++ (e ++ f))) ≡ 16 → length (d ++ (e ++ (f ++ g))) ≡ 16 → length (e ++ (f ++ (g ++ h))) ≡ 16
    → extend_schedule 4 (a ++ (b ++ (c ++ d))) ≡ (a ++ (b ++ (c ++ d))) ++ e
    → extend_schedule 4 (b ++ (c ++ (d ++ e))) ≡ (b ++ (c ++ (d ++ e))) ++ f
    → extend_schedule 4 (c ++ (d ++ (e ++ f))) ≡ (c ++ (d ++ (e ++ f))) ++ g
    → extend_schedule 4 (d ++ (e ++ (f ++ g))) ≡ (d ++ (e ++ (f ++ g))) ++ h
    → extend_schedule 16 (a ++ (b ++ (c ++ d))) ≡ (a ++ (b ++ (c ++ d))) ++ (e ++ (f ++ (g ++ h)))
extend_sixteen a b c d e f g h l m n o p q r s =
    let a1 : (b ++ (c ++ d)) ++ e ≡ b ++ (c ++ (d ++ e)) = simp append_assoc in
    let a2 : (c ++ (d ++ e)) ++ f ≡ c ++ (d ++ (e ++ f)) = simp append_assoc in
    let a3 : (d ++ (e ++ f)) ++ g ≡ d ++ (e ++ (f ++ g)) = simp append_assoc in
    let a4 : (e ++ (f ++ g)) ++ h ≡ e ++ (f ++ (g ++ h)) = simp append_assoc in
    let a5 : (a ++ (b ++ (c ++ d))) ++ (e ++ (f ++ (g ++ h))) ≡ a ++ (b ++ (c ++ (d ++ (e ++ (f ++ (g ++ h)))))) = simp append_assoc in
    let e1 = extend_four 12 a (b ++ (c ++ d)) e p (ap length a1 ∙ l) in
    let e2 = extend_four 8 b (c ++ (d ++ e)) f q (ap length a2 ∙ m) in
    let e3 = extend_four 4 c (d ++ (e ++ f)) g r (ap length a3 ∙ n) in
    let e4 = extend_four 0 d (e ++ (f ++ g)) h s (ap length a4 ∙ o) in
    let none = extend_none ((e ++ (f ++ g)) ++ h) in
    cc

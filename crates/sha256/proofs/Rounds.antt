-- Rounds over words with their constants added, and what of a block is left to do.
use Rattle.std.proofs.Common.{◌≡◌, ℕ, ◌+◌, ◌-◌, ◌*◌, ◌<◌, ◌≤◌, List, [], ◌∷◌, ◌++◌, length, get_or, drop, sym, refl, ap, ◌∙◌, arith}
use Rattle.std.proofs.lemmas.List.{append-nil, drop_at, drop-drop, take_all, take-append-drop}
use Rattle.model.specs.Sha256.{State, extend_schedule, rounds}
use Rattle.sha256.specs.Parts.{add_words, big_sigma_0, big_sigma_1, ch, maj, round, round_constants, rounds_on}
use Rattle.sha256.proofs.Lanes.{by_four, add_words_front}
use Rattle.sha256.proofs.Schedule.{extend_add, extend_front, take_extend}

rounds_on_is : (ks ws : List ℕ) (s : State) → rounds s ks ws ≡ rounds_on s (add_words ks ws)
unfolding rounds rounds_on add_words round big_sigma_0 big_sigma_1 ch maj
rounds_on_is [] ws s = refl
rounds_on_is (k ∷ ks) [] s = refl
rounds_on_is (k ∷ ks) (w ∷ ws) s = rounds_on_is ks ws _

rounds_on_append : (s : State) (xs ys : List ℕ) → rounds_on s (xs ++ ys) ≡ rounds_on (rounds_on s xs) ys
unfolding rounds_on
rounds_on_append s [] ys = refl
rounds_on_append s (x ∷ xs) ys = rounds_on_append (round s x) xs ys

pub four_rounds : (s p q r t : State) (xs : List ℕ) → length xs ≡ 4
    → p ≡ round s (get_or xs 0 0) → q ≡ round p (get_or xs 1 0) → r ≡ round q (get_or xs 2 0) → t ≡ round r (get_or xs 3 0)
    → t ≡ rounds_on s xs
unfolding rounds_on
four_rounds s p q r t xs l =
    by_four
    (λ (xs : List ℕ). p ≡ round s (get_or xs 0 0) → q ≡ round p (get_or xs 1 0) → r ≡ round q (get_or xs 2 0) → t ≡ round r (get_or xs 3 0)
    → t ≡ rounds_on s xs)
    (λ x0 x1 x2 x3 e f g h. cc) xs l

pub sixteen_rounds : (s p q r t : State) (a b c d : List ℕ) → p ≡ rounds_on s a → q ≡ rounds_on p b → r ≡ rounds_on q c → t ≡ rounds_on r d
    → t ≡ rounds_on s (a ++ (b ++ (c ++ d)))
sixteen_rounds s p q r t a b c d e f g h =
    let x = rounds_on_append s a (b ++ (c ++ d)) in
    let y = rounds_on_append p b (c ++ d) in
    let z = rounds_on_append q c d in
    cc

-- what is left of a block's rounds, where the rounds over the sums x come next, and the words w were the last sixteen made, before those for the round at 16 j
unfoldable pub left : ℕ → State → List ℕ → List ℕ → State
left j s x w = rounds_on s (x ++ add_words (drop (16 * j) round_constants) (drop 16 (extend_schedule (16 * (4 - j)) w)))

front_sixteen : (n : ℕ) (w : List ℕ) → length w ≡ 16 → (x : List ℕ) → extend_schedule 16 w ≡ w ++ x → length x ≡ 16
    → drop 16 (extend_schedule (16 + n) w) ≡ extend_schedule n x
front_sixteen n w l x e m =
    ap (drop 16) (extend_add 16 n w ∙ ap (extend_schedule n) e ∙ extend_front n w x (omega arith)) ∙ drop_at w (extend_schedule n x) 16 l

-- a schedule begins with its first words
schedule_front : (n : ℕ) (w : List ℕ) → length w ≡ 16 → extend_schedule n w ≡ w ++ drop 16 (extend_schedule n w)
schedule_front n w l =
    sym (take-append-drop 16 (extend_schedule n w))
    ∙ ap (λ (x : List ℕ). x ++ drop 16 (extend_schedule n w)) (take_extend n 16 w (omega arith) ∙ take_all 16 w (omega arith))

pub left_start : (s : State) (w x : List ℕ) → length w ≡ 16 → x ≡ add_words round_constants w
    → rounds s round_constants (extend_schedule 48 w) ≡ left 1 s x w
unfolding left
left_start s w x l e =
    let f = schedule_front 48 w l in
    let g = add_words_front round_constants w (drop 16 (extend_schedule 48 w)) in
    let r = rounds_on_is round_constants (extend_schedule 48 w) s in
    cc

pub left_next : (j : ℕ) (s r : State) (x y w v : List ℕ) → j < 4 → length w ≡ 16 → length v ≡ 16
    → r ≡ rounds_on s x → extend_schedule 16 w ≡ w ++ v → y ≡ add_words (drop (16 * j) round_constants) v
    → left j s x w ≡ left (j + 1) r y v
unfolding left
left_next j s r x y w v h l m e f g =
    let n : ℕ = 16 * (4 - (j + 1)) in
    let e1 : 16 * (4 - j) ≡ 16 + 16 * (4 - (j + 1)) = omega arith in
    let e2 : 16 * j + 16 ≡ 16 * (j + 1) = omega arith in
    let a = front_sixteen n w l v f m in
    let b = schedule_front n v m in
    let c = add_words_front (drop (16 * j) round_constants) v (drop 16 (extend_schedule n v)) in
    let d = drop-drop 16 (16 * j) round_constants in
    let o = rounds_on_append s x (y ++ add_words (drop (16 * (j + 1)) round_constants) (drop 16 (extend_schedule n v))) in
    cc

left_four : (s : State) (x w : List ℕ) → left 4 s x w ≡ rounds_on s x
unfolding left add_words round_constants
left_four s x w = ap (rounds_on s) (append-nil x)

pub left_end : (j : ℕ) (s : State) (x w : List ℕ) → 4 ≤ j → j ≤ 4 → left j s x w ≡ rounds_on s x
left_end j s x w h k =
    let e : j ≡ 4 = omega arith in
    ap (λ (i : ℕ). left i s x w) e ∙ left_four s x w

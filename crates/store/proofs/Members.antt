-- Members of chains, how many there are, and what the words of slots say.
use Rattle.std.proofs.Common.{◌≡◌, ℕ, zero, suc, ◌+◌, ◌-◌, ◌*◌, ◌<◌, ◌≤◌, Bool, true, false, ◌&&◌, List, [], ◌∷◌, ◌++◌, map, length, get_or, take, drop, set, sym, refl, ap, ◌∙◌, subst, ⊎_elim, arith, length-drop, length-take}
use Rattle.std.proofs.lemmas.Bool.{cases_lt, cases_Bool, both_ways, ne_eqb, eq-eqb, cases_eq}
use Rattle.model.specs.Records.{pick, same_bytes}
use Rattle.path.specs.Packs.{path_in, Packs, Fit}
use Rattle.model.specs.Verifier.{Stored, without}
use Rattle.path.proofs.Same.{same_refl, same_is, same_length, same_true}
use Rattle.path.proofs.Words.{length_path}
use Rattle.path.proofs.Less.{same_packed}
use Rattle.slot.specs.Parts.{part, put}
use Rattle.slot.specs.Layout.{stored_in, Slot, slot_path}
use Rattle.slot.specs.Finds.{position, is_at}
use Rattle.slot.proofs.Finding.{pick_true, pick_false}
use Rattle.index.specs.Chains.{Chain, has, says, Once}
use Rattle.index.proofs.Indexed.{has_first, has_later, has_cases, has_nil, chain_head, once_head, once_tail, in_middle}
use Rattle.slot.proofs.Parted.{part_before, part_after, part_part, get_d_part}
use Rattle.store.specs.Holding.{Packing, total, home, slot_home, slot_at}

pub position_same : (t u : ℕ → Bool) (is : List ℕ) → ((j : ℕ) → has j is ≡ true → t j ≡ u j) → position t is ≡ position u is
unfolding position
position_same t u [] h = refl
position_same t u (i ∷ is) h =
    ap (λ (b : Bool). pick b 0 (suc (position t is))) (h i (has_first i is)) ∙ ap (λ (n : ℕ). pick (u i) 0 (suc n)) (position_same t u is (λ j g. h j (has_later i j is g)))

pub position_map : (t : Stored → Bool) (f : ℕ → Stored) (is : List ℕ) → position t (map f is) ≡ position (λ j. t (f j)) is
unfolding position
position_map t f [] = refl
position_map t f (i ∷ is) = ap (λ (n : ℕ). pick (t (f i)) 0 (suc n)) (position_map t f is)

pub map_same : (f g : ℕ → Stored) (is : List ℕ) → ((j : ℕ) → f j ≡ g j) → map f is ≡ map g is
map_same f g [] h = refl
map_same f g (i ∷ is) h = ap (λ (x : Stored). x ∷ map f is) (h i) ∙ ap (λ (l : List Stored). g i ∷ l) (map_same f g is h)

pub members : (n : ℕ) (m : List ℕ) (h : ℕ) (is : List ℕ) → Chain n m h is → (j : ℕ) → has j is ≡ true → j < n
members n m h [] c j t = absurd (has_nil j t)
members n m h (i ∷ is) c j t =
    let d = chain_head n m h i is c in
    ⊎_elim (λ (e : j ≡ i). subst (λ (x : ℕ). x < n) (sym e) d.1) (λ (g : has j is ≡ true). members n m (get_or m (n + i) 0) is d.2 j g) (has_cases i j is t)

pub member_at : (is : List ℕ) (k d : ℕ) → k < length is → has (get_or is k d) is ≡ true
member_at [] k d h = absurd (omega arith)
member_at (i ∷ is) zero d h = has_first i is
member_at (i ∷ is) (suc k) d h = has_later i (get_or is k d) is (member_at is k d (omega arith))

pub length_total : (cs : List (List ℕ)) (b : ℕ) → b < length cs → length (get_or cs b []) ≤ total cs
unfolding total
length_total [] b h = absurd (omega arith)
length_total (c ∷ cs) zero h = omega arith
length_total (c ∷ cs) (suc b) h = let r = length_total cs b (omega arith) in omega arith

pub total_set : (cs : List (List ℕ)) (b : ℕ) (l : List ℕ) → b < length cs → total (set cs b l) + length (get_or cs b []) ≡ total cs + length l
unfolding total
total_set [] b l h = absurd (omega arith)
total_set (c ∷ cs) zero l h = omega arith
total_set (c ∷ cs) (suc b) l h = let r = total_set cs b l (omega arith) in omega arith

-- what the words of a slot say is what its record is
pub says_is : (k : ℕ) (ws w : List ℕ) → Packing k ws → Slot w → Fit (part 3 4 w) → says k ws w ≡ is_at (path_in k ws) (stored_in w)
says_is k ws w pk s f =
    let size = s.shaped.size in
    let four : length (part 3 4 w) ≡ 4 = simp (length-take, length-drop) (omega arith) in
    let packs = s.shaped.packs in
    let path : is_at (path_in k ws) (stored_in w) ≡ same_bytes (path_in k ws) (slot_path w) = ap (same_bytes (path_in k ws)) s.shaped.path in
    ⊎_elim
    (λ (e : get_or w 2 0 ≡ k).
    let pw : Packs k (part 3 4 w) = subst (λ (x : ℕ). Packs x (part 3 4 w)) e packs in
    ap (λ (b : Bool). b && same_bytes (part 3 4 w) ws) (eq-eqb (get_or w 2 0) k e)
    ∙ same_packed k (part 3 4 w) ws (four ∙ sym pk.four) pw pk.packs f pk.fit
    ∙ same_swap (path_in k (part 3 4 w)) (path_in k ws)
    ∙ ap (λ (x : ℕ). same_bytes (path_in k ws) (path_in x (part 3 4 w))) (sym e)
    ∙ sym path)
    (λ (ne : get_or w 2 0 ≡ k → ⊥).
    let a = length_path k ws pk.packs.0 in
    let b = length_path (get_or w 2 0) (part 3 4 w) packs.0 in
    ap (λ (x : Bool). x && same_bytes (part 3 4 w) ws) (ne_eqb (get_or w 2 0) k ne)
    ∙ sym (path ∙ same_length (path_in k ws) (slot_path w) (λ e. ne (omega arith))))
    (cases_eq (get_or w 2 0) k)
  where
    same_swap : (xs ys : List ℕ) → same_bytes xs ys ≡ same_bytes ys xs
    same_swap xs ys = same_is ys xs (same_bytes xs ys) (λ t. sym (same_true xs ys t)) (λ e. ap (same_bytes xs) e ∙ same_refl xs)

-- a path has one home
pub same_home : (n salt k l : ℕ) (ws vs : List ℕ) → Packing k ws → Packing l vs → path_in k ws ≡ path_in l vs → home n salt k ws ≡ home n salt l vs
same_home n salt k l ws vs p q e =
    let a = length_path k ws p.packs.0 in
    let b = length_path l vs q.packs.0 in
    let le = ap length e in
    let kl : l ≡ k = omega arith in
    let e' : path_in k vs ≡ path_in k ws = ap (λ (x : ℕ). path_in x vs) (sym kl) ∙ sym e in
    let w : ws ≡ vs =
    same_true ws vs
    (same_packed k ws vs (p.four ∙ sym q.four) p.packs (subst (λ (x : ℕ). Packs x vs) kl q.packs) p.fit q.fit
    ∙ ap (same_bytes (path_in k ws)) e' ∙ same_refl (path_in k ws)) in
    ap (home n salt k) w ∙ ap (λ (x : ℕ). home n salt x vs) (sym kl)

-- the first at a path is taken out
pub without_mid : (p : List ℕ) (f : ℕ → Stored) (is : List ℕ) (k : ℕ) → k ≡ position (λ j. is_at p (f j)) is → k < length is → without p (map f is) ≡ map f (take k is ++ drop (suc k) is)
unfolding position without
without_mid p f [] k e h = absurd (omega arith)
without_mid p f (i ∷ is) zero e h =
    ⊎_elim (λ (y : is_at p (f i) ≡ true). pick_true _ _ _ y)
    (λ (n : is_at p (f i) ≡ false). let z : zero ≡ suc (position (λ j. is_at p (f j)) is) = e ∙ pick_false (is_at p (f i)) 0 (suc (position (λ j. is_at p (f j)) is)) n in absurd (omega arith))
    (cases_Bool (is_at p (f i)))
without_mid p f (i ∷ is) (suc k) e h =
    ⊎_elim (λ (y : is_at p (f i) ≡ true). let z : suc k ≡ 0 = e ∙ pick_true (is_at p (f i)) 0 (suc (position (λ j. is_at p (f j)) is)) y in absurd (omega arith))
    (λ (n : is_at p (f i) ≡ false).
    let z : suc k ≡ suc (position (λ j. is_at p (f j)) is) = e ∙ pick_false (is_at p (f i)) 0 (suc (position (λ j. is_at p (f j)) is)) n in
    pick_false _ _ _ n ∙ ap (λ (l : List Stored). f i ∷ l) (without_mid p f is k (omega arith) (omega arith)))
    (cases_Bool (is_at p (f i)))

-- a slot that is once in a chain is in no other place of it
pub once_front : (i : ℕ) (xs ys : List ℕ) → Once (xs ++ i ∷ ys) → has i xs ≡ true → ⊥
once_front i [] ys o t = has_nil i t
once_front i (x ∷ xs) ys o t =
    ⊎_elim
    (λ (e : i ≡ x). both_ways (has x (xs ++ i ∷ ys)) (once_head x (xs ++ i ∷ ys) o) (subst (λ (k : ℕ). has k (xs ++ i ∷ ys) ≡ true) e (in_middle i xs ys)))
    (λ (g : has i xs ≡ true). once_front i xs ys (once_tail x (xs ++ i ∷ ys) o) g)
    (has_cases x i xs t)

pub once_out : (i : ℕ) (xs ys : List ℕ) → Once (xs ++ i ∷ ys) → has i (xs ++ ys) ≡ true → ⊥
once_out i [] ys o t = both_ways (has i ys) (once_head i ys o) t
once_out i (x ∷ xs) ys o t =
    ⊎_elim
    (λ (e : i ≡ x). both_ways (has x (xs ++ i ∷ ys)) (once_head x (xs ++ i ∷ ys) o) (subst (λ (k : ℕ). has k (xs ++ i ∷ ys) ≡ true) e (in_middle i xs ys)))
    (λ (g : has i (xs ++ ys) ≡ true). once_out i xs ys (once_tail x (xs ++ i ∷ ys) o) g)
    (has_cases x i (xs ++ ys) t)

pub map_same_in : (f g : ℕ → Stored) (is : List ℕ) → ((j : ℕ) → has j is ≡ true → f j ≡ g j) → map f is ≡ map g is
map_same_in f g [] h = refl
map_same_in f g (i ∷ is) h =
    ap (λ (x : Stored). x ∷ map f is) (h i (has_first i is)) ∙ ap (λ (l : List Stored). g i ∷ l) (map_same_in f g is (λ j t. h j (has_later i j is t)))

-- one of a chain is changed
pub map_put : (f g : ℕ → Stored) (is : List ℕ) (k d : ℕ) → k < length is → Once is → ((j : ℕ) → (j ≡ get_or is k d → ⊥) → g j ≡ f j) → map g is ≡ set (map f is) k (g (get_or is k d))
map_put f g [] k d h o n = absurd (omega arith)
map_put f g (i ∷ is) zero d h o n =
    ap (λ (l : List Stored). g i ∷ l) (map_same_in g f is (λ j t. n j (λ e. both_ways (has i is) (once_head i is o) (subst (λ (x : ℕ). has x is ≡ true) e t))))
map_put f g (i ∷ is) (suc k) d h o n =
    ap (λ (x : Stored). x ∷ map g is) (n i (λ e. both_ways (has i is) (once_head i is o) (subst (λ (x : ℕ). has x is ≡ true) (sym e) (member_at is k d (omega arith)))))
    ∙ ap (λ (l : List Stored). f i ∷ l) (map_put f g is k d (omega arith) (once_tail i is o) n)

-- a slot that is not written
pub other_slot : (n i j : ℕ) (m w : List ℕ) → 2 * n + i * 190 + 190 ≤ length m → length w ≡ 190 → (j ≡ i → ⊥) → slot_at n (put (2 * n + i * 190) 190 m w) j ≡ slot_at n m j
other_slot n i j m w l e ne =
    ⊎_elim
    (λ (lt : j < i). part_before (2 * n + i * 190) 190 m w l e (2 * n + j * 190) 190 (omega arith))
    (λ (ge : i ≤ j). let gt : i < j = omega (arith, ne) in part_after (2 * n + i * 190) 190 m w l e (2 * n + j * 190) 190 (omega arith))
    (cases_lt j i)

-- the path in a slot, by its words in memory
pub slot_bits : (n i : ℕ) (m : List ℕ) → part (2 * n + i * 190 + 3) (2 * n + i * 190 + 7 - (2 * n + i * 190 + 3)) m ≡ part 3 4 (slot_at n m i)
slot_bits n i m =
    let e : 2 * n + i * 190 + 7 - (2 * n + i * 190 + 3) ≡ 4 = omega arith in
    ap (λ (k : ℕ). part (2 * n + i * 190 + 3) k m) e ∙ sym (part_part 3 4 (2 * n + i * 190) 190 m (omega arith))

pub home_in_slot : (n salt i : ℕ) (m : List ℕ)
    → home n salt (get_or m (2 * n + i * 190 + 2) 0) (part (2 * n + i * 190 + 3) (2 * n + i * 190 + 7 - (2 * n + i * 190 + 3)) m) ≡ slot_home n salt (slot_at n m i)
home_in_slot n salt i m =
    ap (home n salt (get_or m (2 * n + i * 190 + 2) 0)) (slot_bits n i m)
    ∙ ap (λ (k : ℕ). home n salt k (part 3 4 (slot_at n m i))) (sym (get_d_part (2 * n + i * 190) 190 m 2 (omega arith)))

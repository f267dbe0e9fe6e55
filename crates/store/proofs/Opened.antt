-- The chains at the beginning.
use Rattle.std.proofs.Common.{◌≡◌, ℕ, zero, suc, ◌+◌, ◌-◌, ◌*◌, ◌<◌, ◌≤◌, true, false, List, [], ◌∷◌, map, length, get_or, set, replicate, sym, refl, ap, ◌∙◌, subst, ⊎_elim, add-one, arith, length-take, get_or-set_other, get_or-take, get_or-set_same, set-set}
use lib.ListN.{length-replicate}
use lib.Seq.{set-get_or}
use Rattle.std.proofs.lemmas.List.{get_or-replicate}
use Rattle.std.proofs.lemmas.Bool.{cases_eq, cases_Bool}
use Rattle.path.specs.Packs.{path_in}
use Rattle.slot.specs.Parts.{part}
use Rattle.slot.specs.Finds.{all_at}
use Rattle.index.specs.Chains.{Chain, Index, has, Once}
use Rattle.index.proofs.Indexed.{has_nil, has_cases}
use Rattle.store.specs.Holding.{home, stored_at, total, Held, slots_below, free_below}
use Rattle.store.proofs.Members.{total_set}
use Rattle.store.proofs.Held.{home_below}

none_in : (n c : ℕ) → c < n → get_or (replicate {A = List ℕ} n []) c [] ≡ []
none_in n c h = get_or-replicate {A = List ℕ} n c [] [] h

chain_nil : (n : ℕ) (m : List ℕ) (h : ℕ) → h ≡ 0 → Chain n m h []
unfolding Chain
chain_nil n m h e = e

once_nil : Once []
unfolding Once
once_nil = tt

-- no slot is in a chain
pub index_none : (n : ℕ) (m : List ℕ) → 2 ≤ n → 2 * n ≤ length m → ((k : ℕ) → k < n → get_or m k 0 ≡ 0) → Index n (part 0 (2 * n) m) (free_below n 0)
unfolding slots_below
index_none n m few room zeros =
    subst (Index n (part 0 (2 * n) m)) (sym (ap (set (replicate n []) (n - 1)) (sym (none_in n (n - 1) (omega arith))) ∙ set-get_or (replicate n []) (n - 1) []))
    (record {
      size = length-replicate n [];
      room = simp length-take (omega arith);
      chain = λ b lb. subst (Chain n (part 0 (2 * n) m) (get_or (part 0 (2 * n) m) b 0)) (sym (none_in n b lb)) (chain_nil n (part 0 (2 * n) m) _ (get_or-take (2 * n) m b 0 (omega arith) ∙ zeros b lb));
      once = λ b lb. subst Once (sym (none_in n b lb)) once_nil;
      apart = λ b c i lb lc t u. absurd (has_nil i (subst (λ (l : List ℕ). has i l ≡ true) (none_in n b lb) t));
    })

has_below : (i j : ℕ) → has j (slots_below i) ≡ true → j < i
unfolding slots_below
has_below zero j t = absurd (has_nil j t)
has_below (suc i) j t = ⊎_elim (λ (e : j ≡ i). omega arith) (λ (g : has j (slots_below i) ≡ true). let r = has_below i j g in omega arith) (has_cases i j (slots_below i) t)

at_free : (n i : ℕ) → 2 ≤ n → get_or (free_below n i) (n - 1) [] ≡ slots_below i
at_free n i few = get_or-set_same (replicate n []) (n - 1) (slots_below i) [] (let l : length (replicate {A = List ℕ} n []) ≡ n = length-replicate n [] in omega arith)

at_used : (n i c : ℕ) → c < n - 1 → get_or (free_below n i) c [] ≡ []
at_used n i c h = get_or-set_other (replicate n []) (n - 1) c (slots_below i) [] (λ e. omega arith) ∙ none_in n c (omega arith)

pub fresh_below : (n i : ℕ) → 2 ≤ n → (c : ℕ) → c < n → has i (get_or (free_below n i) c []) ≡ false
fresh_below n i few c lc =
    ⊎_elim
    (λ (t : has i (get_or (free_below n i) c []) ≡ true).
    ⊎_elim
    (λ (e : c ≡ n - 1). let b = has_below i i (subst (λ (l : List ℕ). has i l ≡ true) (ap (λ (k : ℕ). get_or (free_below n i) k []) e ∙ at_free n i few) t) in absurd (omega arith))
    (λ (ne : c ≡ n - 1 → ⊥). absurd (has_nil i (subst (λ (l : List ℕ). has i l ≡ true) (at_used n i c (omega (arith, ne))) t)))
    (cases_eq c (n - 1)))
    (λ (f : has i (get_or (free_below n i) c []) ≡ false). f)
    (cases_Bool (has i (get_or (free_below n i) c [])))

pub free_more : (n i : ℕ) → 2 ≤ n → set (free_below n i) (n - 1) (i ∷ get_or (free_below n i) (n - 1) []) ≡ free_below n (i + 1)
unfolding slots_below
free_more n i few =
    ap (λ (l : List ℕ). set (free_below n i) (n - 1) (i ∷ l)) (at_free n i few)
    ∙ set-set (replicate n []) (n - 1) (slots_below i) (i ∷ slots_below i)
    ∙ ap (λ (k : ℕ). set (replicate n []) (n - 1) (slots_below k)) (sym (add-one i))

length_below : (i : ℕ) → length (slots_below i) ≡ i
unfolding slots_below
length_below zero = refl
length_below (suc i) = ap suc (length_below i)

total_none : (n : ℕ) → total (replicate n []) ≡ 0
unfolding total
total_none zero = refl
total_none (suc n) = let r = total_none n in omega arith

pub held_none_yet : (n salt : ℕ) (m : List ℕ) → 2 ≤ n → Index n (part 0 (2 * n) m) (free_below n n) → Held n salt m (free_below n n) []
unfolding all_at
held_none_yet n salt m few ix = record {
  few = few;
  index = ix;
  whole =
      let l : length (replicate {A = List ℕ} n []) ≡ n = length-replicate n [] in
      let t = total_set (replicate n []) (n - 1) (slots_below n) (omega arith) in
      let z = total_none n in
      let b = length_below n in
      let e = ap length (none_in n (n - 1) (omega arith)) in
      omega arith;
  count = let a = ap length (at_free n n few) in let b = length_below n in omega arith;
  slots = λ c j lc t. absurd (has_nil j (subst (λ (l : List ℕ). has j l ≡ true) (at_used n n c lc) t));
  homes = λ c j lc t. absurd (has_nil j (subst (λ (l : List ℕ). has j l ≡ true) (at_used n n c lc) t));
  same = λ k ws pk. ap (λ (l : List ℕ). all_at (path_in k ws) (map (stored_at n m) l)) (at_used n n (home n salt k ws) (home_below n salt k ws few));
}

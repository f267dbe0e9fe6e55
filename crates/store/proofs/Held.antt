-- What is found, and what is held after a record was taken out, added or changed.
use Rattle.std.proofs.Common.{◌≡◌, ℕ, suc, ◌+◌, ◌-◌, ◌*◌, ◌<◌, ◌≤◌, true, false, ◌⊎◌, List, [], ◌∷◌, ◌++◌, map, length, get_or, take, drop, set, sym, refl, ap, ◌∙◌, subst, inl, inr, ⊎_elim, arith, length-append, length-drop, length-set, length-take, get_or-set_other, get_or-take, get_or-set_same}
use lib.Bits.{bit_or, bit_xor}
use lib.Seq.{split_at}
use Rattle.std.proofs.lemmas.List.{get_or_past, get_or-map, length-map}
use Rattle.std.proofs.lemmas.Bool.{cases_lt, cases_eq, cases_Bool}
use Rattle.std.proofs.lemmas.Nat.{mod_below}
use Rattle.model.specs.Records.{same_bytes, Path, pick, path_of, Record}
use Rattle.path.specs.Packs.{path_in, Fit}
use Rattle.model.specs.Verifier.{Stored, find, without, updated}
use Rattle.path.proofs.Same.{same_true}
use Rattle.slot.specs.Parts.{part, put}
use Rattle.slot.specs.Layout.{stored_in, Slot, rec_in}
use Rattle.slot.specs.Finds.{position, is_at, all_at}
use Rattle.slot.proofs.Finding.{find_all, find_position, find_none, all_without, without_other, without_none, pick_false, all_updated, updated_other, updated_position, length_updated, length_without}
use Rattle.index.specs.Chains.{Index, has, says, Once}
use Rattle.index.proofs.Chained.{chain_step}
use Rattle.index.proofs.Indexed.{more_before, in_middle, has_first, has_cases, once_head}
use Rattle.store.specs.Holding.{mixed, home, slot_home, slot_at, stored_at, total, Packing, Held, Holds, Found}
use Rattle.slot.proofs.Parted.{fit_part, part_put, part_before, at_before}
use Rattle.store.proofs.Members.{position_same, position_map, map_same, members, member_at, length_total, total_set, says_is, same_home, without_mid, once_front, once_out, map_same_in, map_put, other_slot}

pub home_below : (n salt k : ℕ) (ws : List ℕ) → 2 ≤ n → home n salt k ws < n - 1
unfolding home
home_below n salt k ws h = mod_below (mixed (bit_or salt 1) (bit_xor salt k) ws) (n - 1) (omega arith)

-- the chains without the K-th slot of chain b, and with it among those that are free
abbrev pub out1 : List (List ℕ) → ℕ → ℕ → List (List ℕ)
out1 cs b K = set cs b (take K (get_or cs b []) ++ drop (suc K) (get_or cs b []))

abbrev pub out2 : ℕ → List (List ℕ) → ℕ → ℕ → ℕ → List (List ℕ)
out2 n cs b K r = set (out1 cs b K) (n - 1) (r ∷ get_or (out1 cs b K) (n - 1) [])

module _ (n salt : ℕ) (m : List ℕ) (cs : List (List ℕ)) (ss : List Stored) (x : Held n salt m cs ss) (fit : Fit m) (k : ℕ) (ws : List ℕ) (pk : Packing k ws) where
  pub in_n : home n salt k ws < n
  in_n = let a = home_below n salt k ws x.few in let f = x.few in omega arith

  pub length_chain : length (get_or cs (home n salt k ws) []) ≤ n
  length_chain = let l = length_total cs (home n salt k ws) (let s = x.index.size in let h = in_n in omega arith) in let w = x.whole in omega arith

  pub position_is : position (λ i. says k ws (slot_at n m i)) (get_or cs (home n salt k ws) []) ≡ position (λ i. is_at (path_in k ws) (stored_at n m i)) (get_or cs (home n salt k ws) [])
  position_is =
      position_same (λ i. says k ws (slot_at n m i)) (λ i. is_at (path_in k ws) (stored_at n m i)) (get_or cs (home n salt k ws) [])
      (λ j t. says_is k ws (slot_at n m j) pk (x.slots (home n salt k ws) j (home_below n salt k ws x.few) t) (fit_part 3 4 (slot_at n m j) (fit_part (2 * n + j * 190) 190 m fit)))

  find_chain : find (path_in k ws) ss ≡ find (path_in k ws) (map (stored_at n m) (get_or cs (home n salt k ws) []))
  find_chain = find_all (path_in k ws) ss ∙ ap (take 1) (sym (x.same k ws pk)) ∙ sym (find_all (path_in k ws) (map (stored_at n m) (get_or cs (home n salt k ws) [])))

  -- the slot is found in its chain
  pub found_at : (r : ℕ) → r ≡ get_or (get_or cs (home n salt k ws) []) (position (λ i. says k ws (slot_at n m i)) (get_or cs (home n salt k ws) [])) n → r < n
      → position (λ i. says k ws (slot_at n m i)) (get_or cs (home n salt k ws) []) < length (get_or cs (home n salt k ws) [])
  found_at r e h =
      let is = get_or cs (home n salt k ws) [] in
      let pl = position (λ i. says k ws (slot_at n m i)) is in
      ⊎_elim (λ (lt : pl < length is). lt)
      (λ (ge : length is ≤ pl). let z = get_or_past is pl n ge in absurd (omega arith))
      (cases_lt pl (length is))

  pub found : (r : ℕ) → r ≡ get_or (get_or cs (home n salt k ws) []) (position (λ i. says k ws (slot_at n m i)) (get_or cs (home n salt k ws) [])) n → Found n m ss (path_in k ws) r
  found r e =
      let is = get_or cs (home n salt k ws) [] in
      let p = path_in k ws in
      let pl = position (λ i. says k ws (slot_at n m i)) is in
      let pm : pl ≡ position (is_at p) (map (stored_at n m) is) = position_is ∙ sym (position_map (is_at p) (stored_at n m) is) in
      let lm = length-map is (stored_at n m) in
      record {
        some = λ h.
            let lt = found_at r e h in
            find_chain ∙ find_position p (map (stored_at n m) is) pl (stored_at n m n) pm (omega arith)
            ∙ ap (λ (y : Stored). y ∷ []) (get_or-map (stored_at n m) is pl n (stored_at n m n) lt)
            ∙ ap (λ (j : ℕ). stored_at n m j ∷ []) (sym e);
        slot = λ h. x.slots (home n salt k ws) r (home_below n salt k ws x.few) (subst (λ (j : ℕ). has j is ≡ true) (sym e) (member_at is pl n (found_at r e h)));
        none = λ h.
            ⊎_elim
            (λ (lt : pl < length is).
            let b = members n (part 0 (2 * n) m) (get_or (part 0 (2 * n) m) (home n salt k ws) 0) is (x.index.chain (home n salt k ws) in_n) (get_or is pl n) (member_at is pl n lt) in
            absurd (omega arith))
            (λ (ge : length is ≤ pl). find_chain ∙ find_none p (map (stored_at n m) is) (omega arith))
            (cases_lt pl (length is));
      }

  -- slot r out of its chain, into the chain of those that are free
  module _ (m' : List ℕ) (r K : ℕ) (slot_same : (j : ℕ) → slot_at n m' j ≡ slot_at n m j)
      (K-is : K ≡ position (λ i. says k ws (slot_at n m i)) (get_or cs (home n salt k ws) [])) (K-in : K < length (get_or cs (home n salt k ws) [])) (r-is : r ≡ get_or (get_or cs (home n salt k ws) []) K n) where
    pub chain_parts : get_or cs (home n salt k ws) [] ≡ take K (get_or cs (home n salt k ws) []) ++ r ∷ drop (suc K) (get_or cs (home n salt k ws) [])
    chain_parts =
        split_at (get_or cs (home n salt k ws) []) K n K-in
        ∙ ap (λ (j : ℕ). take K (get_or cs (home n salt k ws) []) ++ j ∷ drop (suc K) (get_or cs (home n salt k ws) [])) (sym r-is)

    once_parts : Once (take K (get_or cs (home n salt k ws) []) ++ r ∷ drop (suc K) (get_or cs (home n salt k ws) []))
    once_parts = subst Once chain_parts (x.index.once (home n salt k ws) in_n)

    pub not_front : has r (take K (get_or cs (home n salt k ws) [])) ≡ false
    not_front =
        ⊎_elim (λ (t : has r (take K (get_or cs (home n salt k ws) [])) ≡ true). absurd (once_front r (take K (get_or cs (home n salt k ws) [])) (drop (suc K) (get_or cs (home n salt k ws) [])) once_parts t))
        (λ (f : has r (take K (get_or cs (home n salt k ws) [])) ≡ false). f) (cases_Bool (has r (take K (get_or cs (home n salt k ws) []))))

    at_home : get_or (out1 cs (home n salt k ws) K) (home n salt k ws) [] ≡ take K (get_or cs (home n salt k ws) []) ++ drop (suc K) (get_or cs (home n salt k ws) [])
    at_home = get_or-set_same cs (home n salt k ws) (take K (get_or cs (home n salt k ws) []) ++ drop (suc K) (get_or cs (home n salt k ws) [])) [] (let s = x.index.size in let h = in_n in omega arith)

    at_other : (c : ℕ) → (c ≡ home n salt k ws → ⊥) → get_or (out1 cs (home n salt k ws) K) c [] ≡ get_or cs c []
    at_other c ne = get_or-set_other cs (home n salt k ws) c (take K (get_or cs (home n salt k ws) []) ++ drop (suc K) (get_or cs (home n salt k ws) [])) [] ne

    old1 : (c j : ℕ) → has j (get_or (out1 cs (home n salt k ws) K) c []) ≡ true → has j (get_or cs c []) ≡ true
    old1 c j t =
        ⊎_elim
        (λ (e : c ≡ home n salt k ws).
        subst (λ (l : List ℕ). has j l ≡ true) (sym (ap (λ (b : ℕ). get_or cs b []) e ∙ chain_parts))
        (more_before r j (take K (get_or cs (home n salt k ws) [])) (drop (suc K) (get_or cs (home n salt k ws) []))
        (subst (λ (l : List ℕ). has j l ≡ true) (ap (λ (b : ℕ). get_or (out1 cs (home n salt k ws) K) b []) e ∙ at_home) t)))
        (λ (ne : c ≡ home n salt k ws → ⊥). subst (λ (l : List ℕ). has j l ≡ true) (at_other c ne) t)
        (cases_eq c (home n salt k ws))

    pub r_in : has r (get_or cs (home n salt k ws) []) ≡ true
    r_in = subst (λ (l : List ℕ). has r l ≡ true) (sym chain_parts) (in_middle r (take K (get_or cs (home n salt k ws) [])) (drop (suc K) (get_or cs (home n salt k ws) [])))

    pub fresh1 : (c : ℕ) → c < n → has r (get_or (out1 cs (home n salt k ws) K) c []) ≡ false
    fresh1 c lc =
        ⊎_elim
        (λ (t : has r (get_or (out1 cs (home n salt k ws) K) c []) ≡ true).
        let e : c ≡ home n salt k ws = x.index.apart c (home n salt k ws) r lc in_n (old1 c r t) r_in in
        absurd (once_out r (take K (get_or cs (home n salt k ws) [])) (drop (suc K) (get_or cs (home n salt k ws) [])) once_parts
        (subst (λ (l : List ℕ). has r l ≡ true) (ap (λ (b : ℕ). get_or (out1 cs (home n salt k ws) K) b []) e ∙ at_home) t)))
        (λ (f : has r (get_or (out1 cs (home n salt k ws) K) c []) ≡ false). f)
        (cases_Bool (has r (get_or (out1 cs (home n salt k ws) K) c [])))

    at_used : (c : ℕ) → c < n - 1 → get_or (out2 n cs (home n salt k ws) K r) c [] ≡ get_or (out1 cs (home n salt k ws) K) c []
    at_used c lc = get_or-set_other (out1 cs (home n salt k ws) K) (n - 1) c (r ∷ get_or (out1 cs (home n salt k ws) K) (n - 1) []) [] (λ e. omega arith)

    old2 : (c j : ℕ) → c < n - 1 → has j (get_or (out2 n cs (home n salt k ws) K r) c []) ≡ true → has j (get_or cs c []) ≡ true
    old2 c j lc t = old1 c j (subst (λ (l : List ℕ). has j l ≡ true) (at_used c lc) t)

    stored_same : (l : List ℕ) → map (stored_at n m') l ≡ map (stored_at n m) l
    stored_same l = map_same (stored_at n m') (stored_at n m) l (λ j. ap stored_in (slot_same j))

    total_out : total (out2 n cs (home n salt k ws) K r) ≤ n
    total_out =
        let s = x.index.size in
        let h = in_n in
        let f = x.few in
        let w = x.whole in
        let l1 = length-set cs (home n salt k ws) (take K (get_or cs (home n salt k ws) []) ++ drop (suc K) (get_or cs (home n salt k ws) [])) in
        let t1 = total_set cs (home n salt k ws) (take K (get_or cs (home n salt k ws) []) ++ drop (suc K) (get_or cs (home n salt k ws) [])) (omega arith) in
        let t2 = total_set (out1 cs (home n salt k ws) K) (n - 1) (r ∷ get_or (out1 cs (home n salt k ws) K) (n - 1) []) (omega arith) in
        let a1 = length-append (take K (get_or cs (home n salt k ws) [])) (drop (suc K) (get_or cs (home n salt k ws) [])) in
        let a2 = ap length chain_parts ∙ length-append (take K (get_or cs (home n salt k ws) [])) (r ∷ drop (suc K) (get_or cs (home n salt k ws) [])) in
        omega arith

    count_out : length (without (path_in k ws) ss) + length (get_or (out2 n cs (home n salt k ws) K r) (n - 1) []) ≡ n
    count_out =
        let s = x.index.size in
        let f = x.few in
        let h = home_below n salt k ws x.few in
        let c = x.count in
        let l1 = length-set cs (home n salt k ws) (take K (get_or cs (home n salt k ws) []) ++ drop (suc K) (get_or cs (home n salt k ws) [])) in
        let g = ap length (get_or-set_same (out1 cs (home n salt k ws) K) (n - 1) (r ∷ get_or (out1 cs (home n salt k ws) K) (n - 1) []) [] (omega arith)) in
        let o = ap length (at_other (n - 1) (λ e. omega arith)) in
        let rn = members n (part 0 (2 * n) m) (get_or (part 0 (2 * n) m) (home n salt k ws) 0) (get_or cs (home n salt k ws) []) (x.index.chain (home n salt k ws) in_n) r r_in in
        let e1 : length (find (path_in k ws) ss) ≡ 1 = ap length ((found r (r-is ∙ ap (λ (j : ℕ). get_or (get_or cs (home n salt k ws) []) j n) K-is)).some rn) in
        let w = length_without (path_in k ws) ss e1 in
        omega arith

    same_out : (l : ℕ) (vs : List ℕ) → Packing l vs
        → all_at (path_in l vs) (map (stored_at n m') (get_or (out2 n cs (home n salt k ws) K r) (home n salt l vs) [])) ≡ all_at (path_in l vs) (without (path_in k ws) ss)
    same_out l vs q =
        let p = path_in k ws in
        let o = path_in l vs in
        let b = home n salt l vs in
        let lb = home_below n salt l vs x.few in
        ap (all_at o) (stored_same (get_or (out2 n cs (home n salt k ws) K r) b []) ∙ ap (map (stored_at n m)) (at_used b lb))
        ∙ ⊎_elim
        (λ (e : b ≡ home n salt k ws).
        ap (λ (c : ℕ). all_at o (map (stored_at n m) (get_or (out1 cs (home n salt k ws) K) c []))) e
        ∙ ap (λ (c : List ℕ). all_at o (map (stored_at n m) c)) at_home
        ∙ ap (all_at o) (sym (without_mid p (stored_at n m) (get_or cs (home n salt k ws) []) K (K-is ∙ position_is) K-in))
        ∙ all_without o p (map (stored_at n m) (get_or cs (home n salt k ws) []))
        ∙ ap (λ (c : ℕ). without p (all_at o (map (stored_at n m) (get_or cs c [])))) (sym e)
        ∙ ap (without p) (x.same l vs q)
        ∙ sym (all_without o p ss))
        (λ (ne : b ≡ home n salt k ws → ⊥).
        let df : same_bytes p o ≡ false =
        ⊎_elim (λ (t : same_bytes p o ≡ true). absurd (ne (sym (same_home n salt k l ws vs pk q (same_true p o t))))) (λ (f : same_bytes p o ≡ false). f) (cases_Bool (same_bytes p o)) in
        ap (λ (c : List ℕ). all_at o (map (stored_at n m) c)) (at_other b ne)
        ∙ x.same l vs q
        ∙ sym (all_without o p ss ∙ without_other o p ss df))
        (cases_eq b (home n salt k ws))

    pub held_out : Index n (part 0 (2 * n) m') (out2 n cs (home n salt k ws) K r) → Held n salt m' (out2 n cs (home n salt k ws) K r) (without (path_in k ws) ss)
    held_out i = record {
      few = x.few;
      index = i;
      whole = total_out;
      count = count_out;
      slots = λ b j lb t. subst Slot (sym (slot_same j)) (x.slots b j lb (old2 b j lb t));
      homes = λ b j lb t. ap (λ (w : List ℕ). slot_home n salt w) (slot_same j) ∙ x.homes b j lb (old2 b j lb t);
      same = same_out;
    }

-- nothing is there to be put away
pub held_none : (n salt : ℕ) (m : List ℕ) (cs : List (List ℕ)) (ss : List Stored) → Held n salt m cs ss → (p : Path) → find p ss ≡ [] → Held n salt m cs (without p ss)
held_none n salt m cs ss x p e = subst (Held n salt m cs) (sym (without_none p ss e)) x

-- a free slot into the chain of its path
abbrev pub in1 : ℕ → List (List ℕ) → List ℕ → List (List ℕ)
in1 n cs ys = set cs (n - 1) ([] ++ ys)

abbrev pub in2 : ℕ → List (List ℕ) → List ℕ → ℕ → ℕ → List (List ℕ)
in2 n cs ys b i = set (in1 n cs ys) b (i ∷ get_or (in1 n cs ys) b [])

module _ (n salt : ℕ) (m : List ℕ) (cs : List (List ℕ)) (ss : List Stored) (x : Held n salt m cs ss) (i : ℕ) (ys : List ℕ) (free : get_or cs (n - 1) [] ≡ i ∷ ys)
    (w : List ℕ) (slot : Slot w) (fit : Fit (part 3 4 w)) where
  few2 : 2 ≤ n
  few2 = x.few

  b_in : slot_home n salt w < n - 1
  b_in = home_below n salt (get_or w 2 0) (part 3 4 w) x.few

  pub i_free : has i (get_or cs (n - 1) []) ≡ true
  i_free = subst (λ (l : List ℕ). has i l ≡ true) (sym free) (has_first i ys)

  -- a slot in use is not the one that is free
  used_not : (c j : ℕ) → c < n - 1 → has j (get_or cs c []) ≡ true → j ≡ i → ⊥
  used_not c j lc t e =
      let f = x.few in
      let q : c ≡ n - 1 = x.index.apart c (n - 1) i (omega arith) (omega arith) (subst (λ (k : ℕ). has k (get_or cs c []) ≡ true) e t) i_free in
      omega arith

  at_1 : (c : ℕ) → c < n - 1 → get_or (in1 n cs ys) c [] ≡ get_or cs c []
  at_1 c lc = get_or-set_other cs (n - 1) c ([] ++ ys) [] (λ e. omega arith)

  pub fresh_in : (c : ℕ) → c < n → has i (get_or (in1 n cs ys) c []) ≡ false
  fresh_in c lc =
      let f = x.few in
      let s = x.index.size in
      ⊎_elim
      (λ (e : c ≡ n - 1).
      ap (has i) (ap (λ (k : ℕ). get_or (in1 n cs ys) k []) e ∙ get_or-set_same cs (n - 1) ([] ++ ys) [] (omega arith))
      ∙ once_head i ys (subst Once free (x.index.once (n - 1) (omega arith))))
      (λ (ne : c ≡ n - 1 → ⊥).
      let lc1 : c < n - 1 = omega (arith, ne) in
      ⊎_elim
      (λ (t : has i (get_or (in1 n cs ys) c []) ≡ true). absurd (used_not c i lc1 (subst (λ (l : List ℕ). has i l ≡ true) (at_1 c lc1) t) refl))
      (λ (g : has i (get_or (in1 n cs ys) c []) ≡ false). g)
      (cases_Bool (has i (get_or (in1 n cs ys) c []))))
      (cases_eq c (n - 1))

  length_1 : length (in1 n cs ys) ≡ n
  length_1 = length-set cs (n - 1) ([] ++ ys) ∙ x.index.size

  pub at_2 : get_or (in2 n cs ys (slot_home n salt w) i) (slot_home n salt w) [] ≡ i ∷ get_or cs (slot_home n salt w) []
  at_2 =
      let l = length_1 in
      let b = b_in in
      get_or-set_same (in1 n cs ys) (slot_home n salt w) (i ∷ get_or (in1 n cs ys) (slot_home n salt w) []) [] (omega arith)
      ∙ ap (λ (l : List ℕ). i ∷ l) (at_1 (slot_home n salt w) b_in)

  at_3 : (c : ℕ) → c < n - 1 → (c ≡ slot_home n salt w → ⊥) → get_or (in2 n cs ys (slot_home n salt w) i) c [] ≡ get_or cs c []
  at_3 c lc ne = get_or-set_other (in1 n cs ys) (slot_home n salt w) c (i ∷ get_or (in1 n cs ys) (slot_home n salt w) []) [] ne ∙ at_1 c lc

  old_in : (c j : ℕ) → c < n - 1 → has j (get_or (in2 n cs ys (slot_home n salt w) i) c []) ≡ true → ((j ≡ i) × (c ≡ slot_home n salt w)) ⊎ (has j (get_or cs c []) ≡ true)
  old_in c j lc t =
      ⊎_elim
      (λ (e : c ≡ slot_home n salt w).
      ⊎_elim (λ (q : j ≡ i). inl (q, e)) (λ (g : has j (get_or cs (slot_home n salt w) []) ≡ true). inr (subst (λ (k : ℕ). has j (get_or cs k []) ≡ true) (sym e) g))
      (has_cases i j (get_or cs (slot_home n salt w) []) (subst (λ (l : List ℕ). has j l ≡ true) (ap (λ (k : ℕ). get_or (in2 n cs ys (slot_home n salt w) i) k []) e ∙ at_2) t)))
      (λ (ne : c ≡ slot_home n salt w → ⊥). inr (subst (λ (l : List ℕ). has j l ≡ true) (at_3 c lc ne) t))
      (cases_eq c (slot_home n salt w))

  pub packing_w : Packing (get_or w 2 0) (part 3 4 w)
  packing_w = record { four = simp (length-take, length-drop) (omega (arith, slot.shaped.size)); packs = slot.shaped.packs; fit = fit }

  module _ (m' : List ℕ) (written : slot_at n m' i ≡ w) (others : (j : ℕ) → (j ≡ i → ⊥) → slot_at n m' j ≡ slot_at n m j) where
    stored_in_use : (c : ℕ) → c < n - 1 → map (stored_at n m') (get_or cs c []) ≡ map (stored_at n m) (get_or cs c [])
    stored_in_use c lc = map_same_in (stored_at n m') (stored_at n m) (get_or cs c []) (λ j t. ap stored_in (others j (used_not c j lc t)))

    same_in : (l : ℕ) (vs : List ℕ) → Packing l vs
        → all_at (path_in l vs) (map (stored_at n m') (get_or (in2 n cs ys (slot_home n salt w) i) (home n salt l vs) [])) ≡ all_at (path_in l vs) (stored_in w ∷ ss)
    unfolding all_at
    same_in l vs q =
        let o = path_in l vs in
        let b = home n salt l vs in
        let lb = home_below n salt l vs x.few in
        ⊎_elim
        (λ (e : b ≡ slot_home n salt w).
        ap (λ (c : ℕ). all_at o (map (stored_at n m') (get_or (in2 n cs ys (slot_home n salt w) i) c []))) e
        ∙ ap (λ (c : List ℕ). all_at o (map (stored_at n m') c)) at_2
        ∙ ap (λ (v : List ℕ). all_at o (stored_in v ∷ map (stored_at n m') (get_or cs (slot_home n salt w) []))) written
        ∙ ap (λ (c : List Stored). all_at o (stored_in w ∷ c)) (stored_in_use (slot_home n salt w) b_in ∙ ap (λ (c : ℕ). map (stored_at n m) (get_or cs c [])) (sym e))
        ∙ ap (λ (c : List Stored). pick (same_bytes o (path_of (rec_in w))) (stored_in w ∷ c) c) (x.same l vs q))
        (λ (ne : b ≡ slot_home n salt w → ⊥).
        let df : same_bytes o (path_of (rec_in w)) ≡ false =
        ⊎_elim
        (λ (t : same_bytes o (path_of (rec_in w)) ≡ true). absurd (ne (same_home n salt l (get_or w 2 0) vs (part 3 4 w) q packing_w (same_true o (path_of (rec_in w)) t ∙ slot.shaped.path))))
        (λ (f : same_bytes o (path_of (rec_in w)) ≡ false). f)
        (cases_Bool (same_bytes o (path_of (rec_in w)))) in
        ap (λ (c : List ℕ). all_at o (map (stored_at n m') c)) (at_3 b lb ne)
        ∙ ap (all_at o) (stored_in_use b lb)
        ∙ x.same l vs q
        ∙ sym (pick_false (same_bytes o (path_of (rec_in w))) (stored_in w ∷ all_at o ss) (all_at o ss) df))
        (cases_eq b (slot_home n salt w))

    total_in : total (in2 n cs ys (slot_home n salt w) i) ≤ n
    total_in =
        let s = x.index.size in
        let f = x.few in
        let wh = x.whole in
        let b = b_in in
        let l1 = length_1 in
        let t1 = total_set cs (n - 1) ([] ++ ys) (omega arith) in
        let t2 = total_set (in1 n cs ys) (slot_home n salt w) (i ∷ get_or (in1 n cs ys) (slot_home n salt w) []) (omega arith) in
        let a = ap length free in
        omega arith

    count_in : length (stored_in w ∷ ss) + length (get_or (in2 n cs ys (slot_home n salt w) i) (n - 1) []) ≡ n
    count_in =
        let s = x.index.size in
        let f = x.few in
        let b = b_in in
        let c = x.count in
        let a = ap length free in
        let o = ap length (get_or-set_other (in1 n cs ys) (slot_home n salt w) (n - 1) (i ∷ get_or (in1 n cs ys) (slot_home n salt w) []) [] (λ e. omega arith)) in
        let g = ap length (get_or-set_same cs (n - 1) ([] ++ ys) [] (omega arith)) in
        omega arith

    pub held_in : Index n (part 0 (2 * n) m') (in2 n cs ys (slot_home n salt w) i) → Held n salt m' (in2 n cs ys (slot_home n salt w) i) (stored_in w ∷ ss)
    held_in ix = record {
      few = x.few;
      index = ix;
      whole = total_in;
      count = count_in;
      slots = λ c j lc t.
          ⊎_elim
          (λ (p : (j ≡ i) × (c ≡ slot_home n salt w)). subst Slot (sym (ap (slot_at n m') p.0 ∙ written)) slot)
          (λ (g : has j (get_or cs c []) ≡ true). subst Slot (sym (others j (used_not c j lc g))) (x.slots c j lc g))
          (old_in c j lc t);
      homes = λ c j lc t.
          ⊎_elim
          (λ (p : (j ≡ i) × (c ≡ slot_home n salt w)). ap (λ (v : List ℕ). slot_home n salt v) (ap (slot_at n m') p.0 ∙ written) ∙ sym p.1)
          (λ (g : has j (get_or cs c []) ≡ true). ap (λ (v : List ℕ). slot_home n salt v) (others j (used_not c j lc g)) ∙ x.homes c j lc g)
          (old_in c j lc t);
      same = same_in;
    }

-- one record is changed in its slot
module _ (n salt : ℕ) (m : List ℕ) (cs : List (List ℕ)) (ss : List Stored) (x : Held n salt m cs ss) (fit : Fit m) (k : ℕ) (ws : List ℕ) (pk : Packing k ws)
    (r K : ℕ) (K-is : K ≡ position (λ i. says k ws (slot_at n m i)) (get_or cs (home n salt k ws) [])) (K-in : K < length (get_or cs (home n salt k ws) [])) (r-is : r ≡ get_or (get_or cs (home n salt k ws) []) K n)
    (m' w : List ℕ) (new : Record) (written : slot_at n m' r ≡ w) (others : (j : ℕ) → (j ≡ r → ⊥) → slot_at n m' j ≡ slot_at n m j) (slot : Slot w)
    (len-same : get_or w 2 0 ≡ get_or (slot_at n m r) 2 0) (bits_same : part 3 4 w ≡ part 3 4 (slot_at n m r)) (stored_is : stored_in w ≡ record { rec = new; by_merkle = (stored_at n m r).by_merkle }) (path_is : path_of new ≡ path_in k ws)
    (index_same : part 0 (2 * n) m' ≡ part 0 (2 * n) m) where
  r_member : has r (get_or cs (home n salt k ws) []) ≡ true
  r_member = subst (λ (j : ℕ). has j (get_or cs (home n salt k ws) []) ≡ true) (sym r-is) (member_at (get_or cs (home n salt k ws) []) K n K-in)

  chain_updated : map (stored_at n m') (get_or cs (home n salt k ws) []) ≡ updated new (map (stored_at n m) (get_or cs (home n salt k ws) []))
  chain_updated =
      let is = get_or cs (home n salt k ws) [] in
      let H = stored_at n m in
      let lm = length-map is H in
      let at-K : get_or (map H is) K (H n) ≡ H r = get_or-map H is K n (H n) K-in ∙ ap H (sym r-is) in
      map_put H (stored_at n m') is K n K-in (x.index.once (home n salt k ws) (in_n n salt m cs ss x fit k ws pk)) (λ j ne. ap stored_in (others j (λ e. ne (e ∙ r-is))))
      ∙ ap (set (map H is) K) (ap (stored_at n m') (sym r-is) ∙ ap stored_in written ∙ stored_is ∙ ap (λ (y : Stored). record { rec = new; by_merkle = y.by_merkle }) (sym at-K))
      ∙ sym (updated_position new (map H is) K (H n)
      (K-is ∙ position_is n salt m cs ss x fit k ws pk ∙ sym (position_map (is_at (path_in k ws)) H is) ∙ ap (λ (p : Path). position (is_at p) (map H is)) (sym path_is))
      (omega arith))

  same_updated : (l : ℕ) (vs : List ℕ) → Packing l vs → all_at (path_in l vs) (map (stored_at n m') (get_or cs (home n salt l vs) [])) ≡ all_at (path_in l vs) (updated new ss)
  same_updated l vs q =
      let o = path_in l vs in
      ⊎_elim
      (λ (e : home n salt l vs ≡ home n salt k ws).
      ap (λ (c : ℕ). all_at o (map (stored_at n m') (get_or cs c []))) e
      ∙ ap (all_at o) chain_updated
      ∙ all_updated o new (map (stored_at n m) (get_or cs (home n salt k ws) []))
      ∙ ap (λ (c : ℕ). updated new (all_at o (map (stored_at n m) (get_or cs c [])))) (sym e)
      ∙ ap (updated new) (x.same l vs q)
      ∙ sym (all_updated o new ss))
      (λ (ne : home n salt l vs ≡ home n salt k ws → ⊥).
      let f2 = x.few in
      let hb = home_below n salt l vs x.few in
      let df : same_bytes (path_of new) o ≡ false =
      ⊎_elim
      (λ (t : same_bytes (path_of new) o ≡ true). absurd (ne (sym (same_home n salt k l ws vs pk q (sym path_is ∙ same_true (path_of new) o t)))))
      (λ (f : same_bytes (path_of new) o ≡ false). f)
      (cases_Bool (same_bytes (path_of new) o)) in
      ap (all_at o) (map_same_in (stored_at n m') (stored_at n m) (get_or cs (home n salt l vs) [])
      (λ j t. ap stored_in (others j (λ e. ne (x.index.apart (home n salt l vs) (home n salt k ws) r (omega arith) (in_n n salt m cs ss x fit k ws pk) (subst (λ (i : ℕ). has i (get_or cs (home n salt l vs) []) ≡ true) e t) r_member)))))
      ∙ x.same l vs q
      ∙ sym (all_updated o new ss ∙ updated_other o new ss df))
      (cases_eq (home n salt l vs) (home n salt k ws))

  pub held_updated : Held n salt m' cs (updated new ss)
  held_updated = record {
    few = x.few;
    index = subst (λ (l : List ℕ). Index n l cs) (sym index_same) x.index;
    whole = x.whole;
    count = let l = length_updated new ss in let c = x.count in omega arith;
    slots = λ b j lb t.
        ⊎_elim (λ (e : j ≡ r). subst Slot (sym (ap (slot_at n m') e ∙ written)) slot) (λ (ne : j ≡ r → ⊥). subst Slot (sym (others j ne)) (x.slots b j lb t)) (cases_eq j r);
    homes = λ b j lb t.
        ⊎_elim
        (λ (e : j ≡ r).
        ap (λ (v : List ℕ). slot_home n salt v) (ap (slot_at n m') e ∙ written) ∙ ap (home n salt (get_or w 2 0)) bits_same ∙ ap (λ (j : ℕ). home n salt j (part 3 4 (slot_at n m r))) len-same ∙ x.homes b r lb (subst (λ (i : ℕ). has i (get_or cs b []) ≡ true) e t))
        (λ (ne : j ≡ r → ⊥). ap (λ (v : List ℕ). slot_home n salt v) (others j ne) ∙ x.homes b j lb t)
        (cases_eq j r);
    same = same_updated;
  }

-- a free slot is written
held_free : (n salt : ℕ) (m : List ℕ) (cs : List (List ℕ)) (ss : List Stored) → Held n salt m cs ss → (i : ℕ) → has i (get_or cs (n - 1) []) ≡ true
    → (m' : List ℕ) → ((j : ℕ) → (j ≡ i → ⊥) → slot_at n m' j ≡ slot_at n m j) → part 0 (2 * n) m' ≡ part 0 (2 * n) m → Held n salt m' cs ss
held_free n salt m cs ss x i free m' others index_same =
    let f = x.few in
    let used : (b j : ℕ) → b < n - 1 → has j (get_or cs b []) ≡ true → slot_at n m' j ≡ slot_at n m j = λ b j lb t.
    others j (λ e.
    let q : b ≡ n - 1 = x.index.apart b (n - 1) i (omega arith) (omega arith) (subst (λ (k : ℕ). has k (get_or cs b []) ≡ true) e t) free in
    omega arith) in
    record {
      few = x.few;
      index = subst (λ (l : List ℕ). Index n l cs) (sym index_same) x.index;
      whole = x.whole;
      count = x.count;
      slots = λ b j lb t. subst Slot (sym (used b j lb t)) (x.slots b j lb t);
      homes = λ b j lb t. ap (slot_home n salt) (used b j lb t) ∙ x.homes b j lb t;
      same = λ k ws pk.
          ap (all_at (path_in k ws)) (map_same_in (stored_at n m') (stored_at n m) (get_or cs (home n salt k ws) []) (λ j t. ap stored_in (used (home n salt k ws) j (home_below n salt k ws x.few) t)))
          ∙ x.same k ws pk;
    }

-- the first of the free slots
pub holds_free : (n salt : ℕ) (m : List ℕ) (ss : List Stored) → Holds n salt m ss → (i : ℕ) → get_or m (n - 1) 0 ≡ i + 1 → (w : List ℕ) → 2 * n + i * 190 + 190 ≤ length m → length w ≡ 190
    → Holds n salt (put (2 * n + i * 190) 190 m w) ss × (get_or (put (2 * n + i * 190) 190 m w) (n - 1) 0 ≡ i + 1) × (slot_at n (put (2 * n + i * 190) 190 m w) i ≡ w)
holds_free n salt m ss H i link w room size =
    let cs = H.0 in
    let x : Held n salt m cs ss = H.1 in
    let f = x.few in
    let a = 2 * n + i * 190 in
    let gl : get_or (part 0 (2 * n) m) (n - 1) 0 ≡ i + 1 = get_or-take (2 * n) m (n - 1) 0 (omega arith) ∙ link in
    let step = chain_step n (part 0 (2 * n) m) (get_or (part 0 (2 * n) m) (n - 1) 0) (get_or cs (n - 1) []) (x.index.chain (n - 1) (omega arith)) (λ e. omega arith) in
    let ys = drop 1 (get_or cs (n - 1) []) in
    let less : i + 1 - 1 ≡ i = omega arith in
    let first : get_or cs (n - 1) [] ≡ i ∷ ys = step.0 ∙ ap (λ (v : ℕ). (v - 1) ∷ ys) gl ∙ ap (λ (v : ℕ). v ∷ ys) less in
    let free : has i (get_or cs (n - 1) []) ≡ true = subst (λ (l : List ℕ). has i l ≡ true) (sym first) (has_first i ys) in (
      (cs, held_free n salt m cs ss x i free (put a 190 m w) (λ j ne. other_slot n i j m w room size ne) (part_before a 190 m w room size 0 (2 * n) (omega arith))),
      at_before a 190 m w room size (n - 1) (omega arith) ∙ link,
      part_put a 190 m w room size,
    )

use Rattle.std.proofs.Common.{◌≡◌, ℕ, ◌+◌, ◌-◌, ◌*◌, ◌<◌, Bool, true, false, ◌&&◌, List, [], ◌∷◌, length, get_or, take, drop, set, sym, refl, ap, ◌∙◌, subst, arith, length-take, get_or-take}
use Rattle.path.specs.Packs.{Fit}
use Rattle.slot.specs.Parts.{part, put}
use Rattle.slot.proofs.Parted.{part_put, part_after, length_put}
use Rattle.std.proofs.lemmas.Bool.{eq-eqb}
use Rattle.model.specs.Records.{same_bytes}
use Rattle.path.proofs.Same.{same_refl}
use Rattle.slot.specs.Layout.{stored_in}
use Rattle.slot.specs.Finds.{position}
use Rattle.slot.proofs.Finding.{pick_true}
use Rattle.index.specs.Chains.{Index, has, says}
use Rattle.index.proofs.Chained.{chain_step, chain_unique}
use Rattle.store.specs.Holding.{slot_home, slot_at, Held, Walked}
use Rattle.store.proofs.Members.{home_in_slot, slot_bits}
use Rattle.store.proofs.Held.{fresh_in, held_in, packing_w, at_2, in1, in2}
use Rattle.store.proofs.link_first.Goals as goal

not_in : (i : ℕ) → has i [] ≡ false
unfolding has
not_in i = refl

-- a slot says its own path
said_itself : (w : List ℕ) → says (get_or w 2 0) (part 3 4 w) w ≡ true
said_itself w = ap (λ (b : Bool). b && same_bytes (part 3 4 w) (part 3 4 w)) (eq-eqb (get_or w 2 0) (get_or w 2 0) refl) ∙ same_refl (part 3 4 w)

first_said : (i : ℕ) (is : List ℕ) (t : ℕ → Bool) (d : ℕ) → t i ≡ true → get_or (i ∷ is) (position t (i ∷ is)) d ≡ i
unfolding position
first_said i is t d e = ap (λ (k : ℕ). get_or (i ∷ is) k d) (pick_true (t i) 0 _ e)

pub returns : goal.returns
returns c = λ ss H link slot.
    let n = c.args.n in
    let salt = c.args.salt in
    let m = c.args.mem.now in
    let i = c.args.i in
    let w = slot_at n m i in
    let cs = H.0 in
    let x : Held n salt m cs ss = H.1 in
    let ys = drop 1 (get_or cs (n - 1) []) in
    let b = slot_home n salt w in
    let z : 2 * n - 0 ≡ 2 * n = omega arith in
    let fit : Fit (part 3 4 w) = subst Fit (slot_bits n i m) c.home_of-b.ensures.fit in
    let gl : get_or (part 0 (2 * n) m) (n - 1) 0 ≡ i + 1 = get_or-take (2 * n) m (n - 1) 0 (omega arith) ∙ link in
    let step = chain_step n (part 0 (2 * n) m) (get_or (part 0 (2 * n) m) (n - 1) 0) (get_or cs (n - 1) []) (x.index.chain (n - 1) (omega arith)) (λ e. omega arith) in
    let less : i + 1 - 1 ≡ i = omega arith in
    let free : get_or cs (n - 1) [] ≡ i ∷ ys = step.0 ∙ ap (λ (v : ℕ). (v - 1) ∷ ys) gl ∙ ap (λ (v : ℕ). v ∷ ys) less in
    let below : b < n = let h = c.home_of-b.ensures.within in let hb' = c.home_of-b.ensures.home ∙ home_in_slot n salt i m in omega arith in
    let i1 = c.take_out.new.index in
    let i2 = c.add.new.index in
    let m1 = put 0 (2 * n - 0) m i1 in
    let m2 = put 0 (2 * n - 0) m1 i2 in
    let l1 : length i1 ≡ 2 * n - 0 = c.take_out.auto.index ∙ (simp length-take (omega arith)) in
    let lm1 : length m1 ≡ length m = length_put 0 (2 * n - 0) m i1 (omega arith) l1 in
    let l2 : length i2 ≡ 2 * n - 0 = c.add.auto.index ∙ (simp length-take (omega arith)) in
    let hb : c.home_of-b.result ≡ b = c.home_of-b.ensures.home ∙ home_in_slot n salt i m in
    let slot_same : (j : ℕ) → slot_at n m2 j ≡ slot_at n m j = λ j.
    part_after 0 (2 * n - 0) m1 i2 (omega arith) l2 (2 * n + j * 190) 190 (omega arith) ∙ part_after 0 (2 * n - 0) m i1 (omega arith) l1 (2 * n + j * 190) 190 (omega arith) in
    let x0 : Index n (take (2 * n - 0) m) cs = subst (λ (q : ℕ). Index n (take q m) cs) (sym z) x.index in
    let x1 : Index n i1 (in1 n cs ys) = c.take_out.ensures cs [] ys x0 free (not_in i) (omega arith) in
    let x1' : Index n (take (2 * n - 0) m1) (in1 n cs ys) = subst (λ (l : List ℕ). Index n l (in1 n cs ys)) (sym (part_put 0 (2 * n - 0) m i1 (omega arith) l1)) x1 in
    let x2 : Index n i2 (in2 n cs ys b i) =
    subst (λ (q : ℕ). Index n i2 (set (in1 n cs ys) q (i ∷ get_or (in1 n cs ys) q []))) hb
    (c.add.ensures (in1 n cs ys) x1' (fresh_in n salt m cs ss x i ys free w slot fit)) in
    let x3 : Index n (part 0 (2 * n) m2) (in2 n cs ys b i) =
    subst (λ (l : List ℕ). Index n l (in2 n cs ys b i)) (sym (ap (λ (q : ℕ). part 0 q m2) (sym z) ∙ part_put 0 (2 * n - 0) m1 i2 (omega arith) l2)) x2 in
    let k = get_or w 2 0 in
    let ws = part 3 4 w in
    let said : says k ws (slot_at n m2 i) ≡ true = ap (says k ws) (slot_same i) ∙ said_itself w in
    let words : (l : List ℕ) → l ≡ w → Walked n salt m2 k ws i → Walked n salt m2 (get_or l 2 0) (part 3 4 l) i = λ l e W. subst (λ (q : List ℕ). Walked n salt m2 (get_or q 2 0) (part 3 4 q) i) (sym e) W in
    record {
      holds = (in2 n cs ys b i, held_in n salt m cs ss x i ys free w slot fit m2 (slot_same i) (λ j ne. slot_same j) x3);
      in_use = words (slot_at n m2 i) (slot_same i) (record {
        packing = packing_w n salt m cs ss x i ys free w slot fit;
        fit = λ j. (c.type_inv.mem j).fits;
        ends = λ is h l.
            let chain : is ≡ i ∷ get_or cs b [] =
            chain_unique n (part 0 (2 * n) m2) (get_or (part 0 (2 * n) m2) b 0) is (get_or (in2 n cs ys b i) b []) h (x3.chain b below) ∙ at_2 n salt m cs ss x i ys free w slot fit in
            sym (ap (λ (q : List ℕ). get_or q (position (λ j. says k ws (slot_at n m2 j)) q) n) chain ∙ first_said i (get_or cs b []) (λ j. says k ws (slot_at n m2 j)) n said);
      });
      stored = ap stored_in (slot_same i);
    }

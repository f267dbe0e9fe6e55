use Rattle.std.proofs.Common.{◌≡◌, ℕ, suc, ◌+◌, ◌-◌, ◌*◌, ◌<◌, ◌≤◌, List, [], ◌++◌, length, get_or, take, drop, set, sym, refl, ap, ◌∙◌, subst, arith, length-take}
use Rattle.path.specs.Packs.{Fit}
use Rattle.slot.specs.Parts.{part, put}
use Rattle.slot.specs.Finds.{position}
use Rattle.slot.proofs.Parted.{part_put, part_after, length_put}
use Rattle.index.specs.Chains.{Index, says}
use Rattle.store.specs.Holding.{home, slot_at, Packing, Held}
use Rattle.store.proofs.Members.{home_in_slot}
use Rattle.store.proofs.Held.{home_below, length_chain, found_at, chain_parts, not_front, fresh1, r_in, held_out, out1, out2}
use Rattle.store.proofs.Edits.{walk_end}
use Rattle.store.proofs.take.Goals as goal

pub returns : goal.returns
returns c = λ ss k ws H W.
    let n = c.args.n in
    let salt = c.args.salt in
    let m = c.args.mem.now in
    let z : 2 * n - 0 ≡ 2 * n = omega arith in
    let in-m : 0 + (2 * n - 0) ≤ length m = omega (arith, c.requires.room) in
    let i1 = c.take_out.new.index in
    let i2 = c.add.new.index in
    let m1 = put 0 (2 * n - 0) m i1 in
    let m2 = put 0 (2 * n - 0) m1 i2 in
    let l1 : length i1 ≡ 2 * n - 0 = c.take_out.auto.index ∙ (simp length-take (omega arith)) in
    let lm1 : length m1 ≡ length m = length_put 0 (2 * n - 0) m i1 in-m l1 in
    let in-m1 : 0 + (2 * n - 0) ≤ length m1 = omega arith in
    let l2 : length i2 ≡ 2 * n - 0 = c.add.auto.index ∙ (simp length-take (omega arith)) in
    let slot_same : (j : ℕ) → slot_at n m2 j ≡ slot_at n m j = λ j.
    let past : 0 + (2 * n - 0) ≤ 2 * n + j * 190 = omega arith in
    part_after 0 (2 * n - 0) m1 i2 in-m1 l2 (2 * n + j * 190) 190 past ∙ part_after 0 (2 * n - 0) m i1 in-m l1 (2 * n + j * 190) 190 past in
    let pk : Packing k ws = W.packing in
    let fit : Fit m = W.fit in
    let cs = H.0 in
    let x : Held n salt m cs ss = H.1 in
    let b = home n salt k ws in
    let is = get_or cs b [] in
    let r = c.args.i in
    let K = position (λ i. says k ws (slot_at n m i)) is in
    let ln : length is ≤ n = length_chain n salt m cs ss x fit k ws pk in
    let r-is : r ≡ get_or is K n = walk_end n salt m ss H k ws r W in
    let K-in : K < length is = found_at n salt m cs ss x fit k ws pk r r-is c.requires.within in
    let in_is = r_in n salt m cs ss x fit k ws pk m2 r K slot_same refl K-in r-is in
    let hb : c.home_of-b.result ≡ b = c.home_of-b.ensures.home ∙ home_in_slot n salt r m ∙ x.homes b r (home_below n salt k ws x.few) in_is in
    let parts = chain_parts n salt m cs ss x fit k ws pk m2 r K slot_same refl K-in r-is in
    let nf = not_front n salt m cs ss x fit k ws pk m2 r K slot_same refl K-in r-is in
    let lk : length (take K is) < n = simp length-take (omega arith) in
    let x0 : Index n (take (2 * n - 0) m) cs = subst (λ (q : ℕ). Index n (take q m) cs) (sym z) x.index in
    let x1 : Index n i1 (out1 cs b K) =
    subst (λ (q : ℕ). Index n i1 (set cs q (take K is ++ drop (suc K) is))) hb
    (c.take_out.ensures cs (take K is) (drop (suc K) is) x0 (ap (λ (q : ℕ). get_or cs q []) hb ∙ parts) nf lk) in
    let x1' : Index n (take (2 * n - 0) m1) (out1 cs b K) = subst (λ (l : List ℕ). Index n l (out1 cs b K)) (sym (part_put 0 (2 * n - 0) m i1 in-m l1)) x1 in
    let x2 : Index n i2 (out2 n cs b K r) = c.add.ensures (out1 cs b K) x1' (fresh1 n salt m cs ss x fit k ws pk m2 r K slot_same refl K-in r-is) in
    let x3 : Index n (part 0 (2 * n) m2) (out2 n cs b K r) =
    subst (λ (l : List ℕ). Index n l (out2 n cs b K r)) (sym (ap (λ (q : ℕ). part 0 q m2) (sym z) ∙ part_put 0 (2 * n - 0) m1 i2 in-m1 l2)) x2 in
    (out2 n cs b K r, held_out n salt m cs ss x fit k ws pk m2 r K slot_same refl K-in r-is x3)

use Rattle.std.proofs.Common.{◌≡◌, ℕ, ◌+◌, ◌-◌, ◌*◌, List, ◌++◌, length, get_or, take, drop, replicate, length-append, length-drop, sym, ap, ◌∙◌, subst, arith, length-take}
use Rattle.std.proofs.lemmas.List.{get_or_append_left, get_or-replicate, length-replicate}
use Rattle.slot.specs.Parts.{part, put}
use Rattle.slot.proofs.Parted.{part_put}
use Rattle.index.specs.Chains.{Index}
use Rattle.store.specs.Holding.{free_below}
use Rattle.store.proofs.Opened.{index_none, fresh_below, free_more, held_none_yet}
use Rattle.store.proofs.clear.Goals as goal

pub loop-i-init : goal.loop-i-init
loop-i-init c =
    let n = c.args.n in
    let m = c.args.mem.now in
    let len : length (take (n - 0) m) ≡ n = simp length-take (omega arith) in
    let e : c.fill.new.self ≡ replicate n 0 = c.fill.ensures.after (λ y q. q) ∙ ap (λ k. replicate k 0) len in
    index_none n (c.fill.new.self ++ drop (n - 0) m) c.requires.few (omega (arith, length-append {A = ℕ}, length-drop {A = ℕ}))
    (λ k h.
    get_or_append_left c.fill.new.self (drop (n - 0) m) 0 k (omega (arith, ap length e, length-replicate {A = ℕ} n 0))
    ∙ ap (λ (l : List ℕ). get_or l k 0) e ∙ get_or-replicate n k 0 0 h)

pub loop-i-preserved : goal.loop-i-preserved
loop-i-preserved c =
    let n = c.args.n in
    let m = c.loop-i.mem in
    let i = c.loop-i.i in
    let z : 2 * n - 0 ≡ 2 * n = omega arith in
    let i1 = c.add.new.index in
    let l1 : length i1 ≡ 2 * n - 0 = c.add.auto.index ∙ (simp length-take (omega arith)) in
    let x0 : Index n (take (2 * n - 0) m) (free_below n i) = subst (λ (q : ℕ). Index n (take q m) (free_below n i)) (sym z) c.loop-i.invariant in
    let x1 = c.add.ensures (free_below n i) x0 (fresh_below n i c.requires.few) in
    let x2 : Index n i1 (free_below n (i + 1)) = subst (Index n i1) (free_more n i c.requires.few) x1 in
    subst (λ (l : List ℕ). Index n l (free_below n (i + 1))) (sym (ap (λ (q : ℕ). part 0 q (put 0 (2 * n - 0) m i1)) (sym z) ∙ part_put 0 (2 * n - 0) m i1 (omega arith) l1)) x2

pub returns : goal.returns
returns c = λ salt.
    let n = c.args.n in
    let e : c.loop-i.i ≡ n = omega arith in
    (free_below n n, held_none_yet n salt c.loop-i.mem c.requires.few (subst (λ (k : ℕ). Index n (part 0 (2 * n) c.loop-i.mem) (free_below n k)) e c.loop-i.invariant))

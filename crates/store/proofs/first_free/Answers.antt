use Rattle.std.proofs.Common.{◌≡◌, ◌-◌, ◌*◌, leb, [], length, get_or, sym, ap, ◌∙◌, ⊎_elim, arith, get_or-take}
use Rattle.std.proofs.lemmas.Bool.{lt-leb}
use Rattle.slot.specs.Parts.{part}
use Rattle.index.proofs.Chained.{chain_zero, chain_over, chain_step}
use Rattle.store.specs.Holding.{Held}
use Rattle.store.proofs.first_free.Goals as goal

pub returns-then-link-eq0 : goal.returns-then-link-eq0
returns-then-link-eq0 c = record {
  within = tt;
  full = λ salt ss H.
      let n = c.args.n in
      let m = c.args.mem.now in
      let cs = H.0 in
      let x : Held n salt m cs ss = H.1 in
      let gl : get_or (part 0 (2 * n) m) (n - 1) 0 ≡ get_or m (n - 1) 0 = get_or-take (2 * n) m (n - 1) 0 (omega arith) in
      let ch = x.index.chain (n - 1) (omega arith) in
      let ct = x.count in
      let all : length ss ≡ n =
      ⊎_elim
      (λ z. let e = ap length (chain_zero n (part 0 (2 * n) m) (get_or (part 0 (2 * n) m) (n - 1) 0) (get_or cs (n - 1) []) ch (gl ∙ z)) in omega arith)
      (λ z. absurd (chain_over n (part 0 (2 * n) m) (get_or (part 0 (2 * n) m) (n - 1) 0) (get_or cs (n - 1) []) ch (omega (arith, z.1))))
      c.then-link-eq0.either in
      ap (leb n) (sym all);
  free = tt;
}

pub returns : goal.returns
returns c = record {
  within = omega arith;
  full = λ salt ss H.
      let n = c.args.n in
      let m = c.args.mem.now in
      let cs = H.0 in
      let x : Held n salt m cs ss = H.1 in
      let gl : get_or (part 0 (2 * n) m) (n - 1) 0 ≡ get_or m (n - 1) 0 = get_or-take (2 * n) m (n - 1) 0 (omega arith) in
      let step = chain_step n (part 0 (2 * n) m) (get_or (part 0 (2 * n) m) (n - 1) 0) (get_or cs (n - 1) []) (x.index.chain (n - 1) (omega arith)) (λ e. c.if-link-eq0.false (sym gl ∙ e)) in
      let one = ap length step.0 in
      let ct = x.count in
      lt-leb n (get_or m (n - 1) 0 - 1) (omega arith) ∙ sym (lt-leb n (length ss) (omega arith));
  free = omega arith;
}

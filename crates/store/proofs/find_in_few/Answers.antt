use Rattle.std.proofs.Common.{◌≡◌, ℕ, ◌<◌, sym, subst, arith}
use Rattle.store.specs.Holding.{home}
use Rattle.store.proofs.Walks.{Ends, ends, ends_nowhere, ends_outside, home_in_few}
use Rattle.store.proofs.find_in_few.Goals as goal

pub returns-then-n-eq0 : goal.returns-then-n-eq0
returns-then-n-eq0 c = record {
  within = tt;
  walked = λ p. record {
    packing = record { four = c.requires.four; packs = p; fit = λ i. (c.type_inv.bits i).fits };
    fit = λ i. (c.type_inv.mem i).fits;
    ends = subst (λ (n : ℕ). Ends n c.args.salt c.args.mem.now c.args.len c.args.bits.now n) (sym c.if-n-eq0.true) (ends_nowhere c.args.salt c.args.mem.now c.args.len c.args.bits.now);
  };
}

pub returns-then-mixed_of-ne0-clause-walked : goal.returns-then-mixed_of-ne0-clause-walked
returns-then-mixed_of-ne0-clause-walked c = λ p.
    let one : 1 ≡ c.args.n = omega (arith, c.if-n-eq0.false, c.requires.below) in
    let e = home_in_few c.args.n c.args.salt c.args.len c.args.bits.now c.requires.below in
    let ne : 0 < home c.args.n c.args.salt c.args.len c.args.bits.now = omega (arith, e, c.mixed_of.ensures.mixed, c.if-mixed_of-ne0.true) in
    record {
      packing = record { four = c.requires.four; packs = p; fit = c.mixed_of.ensures.fit };
      fit = λ i. (c.type_inv.mem i).fits;
      ends = subst (λ (n : ℕ). 0 < home n c.args.salt c.args.len c.args.bits.now → Ends n c.args.salt c.args.mem.now c.args.len c.args.bits.now n) one (ends_outside c.args.salt c.args.mem.now c.args.len c.args.bits.now) ne;
    }

pub returns-clause-walked : goal.returns-clause-walked
returns-clause-walked c = λ p.
    let e = home_in_few c.args.n c.args.salt c.args.len c.args.bits.now c.requires.below in
    let zero : 0 ≡ home c.args.n c.args.salt c.args.len c.args.bits.now = omega (arith, e, c.mixed_of.ensures.mixed, c.if-mixed_of-ne0.false) in
    record {
      packing = record { four = c.requires.four; packs = p; fit = c.mixed_of.ensures.fit };
      fit = λ i. (c.type_inv.mem i).fits;
      ends = ends c.args.n c.args.salt c.args.mem.now c.args.len c.args.bits.now 0 _ zero c.find_in.ensures.found;
    }

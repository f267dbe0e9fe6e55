use Rattle.std.proofs.Common.{ℕ, ◌+◌, drop, sym, ap, ◌∙◌, arith}
use lib.Bits.{bit_or}
use Rattle.std.proofs.lemmas.List.{drop_more, drop_all}
use Rattle.store.specs.Holding.{mixed}
use Rattle.store.proofs.mixed_of.Goals as goal

pub loop-w-preserved : goal.loop-w-preserved
unfolding mixed
loop-w-preserved c =
    let ws = c.args.bits.now in
    let i = c.loop-w.w-index in
    let by = bit_or c.args.salt 1 in
    ap (λ (h : ℕ). mixed by h (drop (i + 1) ws)) c.mix-mixed.ensures
    ∙ sym (ap (mixed by c.loop-w.mixed) (drop_more ws i 0 (omega arith))) ∙ c.loop-w.invariant

pub returns : goal.returns
unfolding mixed
returns c =
    let ws = c.args.bits.now in
    record {
      mixed = sym (ap (mixed (bit_or c.args.salt 1) c.loop-w.mixed) (drop_all c.loop-w.w-index ws (omega arith))) ∙ c.loop-w.invariant;
      fit = λ i. (c.type_inv.bits i).fits;
    }

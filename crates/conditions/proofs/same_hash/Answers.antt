use Rattle.std.proofs.Common.{sym, ◌∙◌}
use Rattle.path.proofs.Same.{pointwise_same}
use Rattle.slot.proofs.Numbers.{number_test}
use Rattle.conditions.proofs.same_hash.Goals as goal

pub returns : goal.returns
returns c = c.eq.ensures ∙ pointwise_same c.args.a.now c.args.b.now ∙ number_test c.args.a.now c.args.b.now (c.told-a ∙ sym c.told-b) c.fits-a c.fits-b

use Rattle.std.proofs.Common.{◌∙◌}
use Rattle.path.proofs.Same.{pointwise_same}
use Rattle.path.proofs.same_words.Goals as goal

pub returns : goal.returns
returns c = c.eq.ensures ∙ pointwise_same c.args.a.now c.args.b.now

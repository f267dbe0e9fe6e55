use Rattle.std.proofs.Common.{eqb, rules}
use Rattle.model.specs.Wire.{reads_just}
use Rattle.reader.proofs.Reader.just.Goals as goal

pub returns : goal.returns
unfolding reads_just
returns c = c.byte.ensures (λ b. eqb b c.args.is) (λ x b h. search (rules, h))

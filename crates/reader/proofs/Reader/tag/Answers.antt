use Rattle.std.proofs.Common.{ltb, rules}
use Rattle.model.specs.Wire.{reads_tag}
use Rattle.reader.proofs.Reader.tag.Goals as goal

pub returns : goal.returns
unfolding reads_tag
returns c = c.byte.ensures (λ b. ltb b c.args.end) (λ x b h. search (rules, h))

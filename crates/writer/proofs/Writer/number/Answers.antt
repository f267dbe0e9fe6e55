use Rattle.std.proofs.Common.{◌∙◌}
use Rattle.writer.proofs.Bytes.{eight_bytes}
use Rattle.writer.proofs.Joined.{written_as}
use Rattle.writer.proofs.Writer.number.Goals as goal

pub returns-clause-wrote : goal.returns-clause-wrote
returns-clause-wrote c = written_as _ _ _ _ (c.to_le_bytes.ensures ∙ eight_bytes c.args.n) c.bytes.ensures

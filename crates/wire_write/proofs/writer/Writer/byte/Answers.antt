use Rattle.std.proofs.Common.{arith}
use Rattle.wire_write.proofs.Pages.{byte_set}
use Rattle.wire_write.proofs.writer.Writer.byte.Goals as goal

pub returns-clause-written : goal.returns-clause-written
returns-clause-written c = byte_set c.args.self.now.to.now c.args.self.now.at c.args.byte (omega arith)

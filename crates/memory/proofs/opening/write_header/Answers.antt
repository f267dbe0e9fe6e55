use Rattle.std.proofs.Common.{arith}
use Rattle.memory.proofs.Opened.{head_written}
use Rattle.memory.proofs.opening.write_header.Goals as goal

pub returns : goal.returns
returns c = head_written c.args.head.now c.write_bytes.new.words c.args.secret.now c.args.limits c.requires (omega arith) c.told-secret c.write_bytes.ensures

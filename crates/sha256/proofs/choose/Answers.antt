use Rattle.std.proofs.Common.{arith}
use Rattle.sha256.specs.Parts.{ch}
use Rattle.sha256.proofs.Bits.{ch_is}
use Rattle.sha256.proofs.choose.Goals as goal

pub returns : goal.returns
unfolding ch
returns c = ch_is c.args.x c.args.y c.args.z (omega arith) (omega arith) (omega arith)

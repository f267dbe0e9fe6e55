use Rattle.std.proofs.Common.{arith}
use Rattle.sha256.specs.Parts.{maj}
use Rattle.sha256.proofs.Bits.{maj_is}
use Rattle.sha256.proofs.majority.Goals as goal

pub returns : goal.returns
unfolding maj
returns c = maj_is c.args.x c.args.y c.args.z (omega arith) (omega arith) (omega arith)

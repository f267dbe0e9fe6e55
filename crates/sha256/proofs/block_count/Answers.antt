use Rattle.std.proofs.Common.{arith}
use Rattle.sha256.proofs.Padding.{block_count_is}
use Rattle.sha256.proofs.block_count.Goals as goal

pub returns : goal.returns
returns c m e = omega (arith, block_count_is m)

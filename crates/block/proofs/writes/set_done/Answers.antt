use Rattle.block.proofs.Written.{done_written}
use Rattle.block.proofs.writes.set_done.Goals as goal

pub returns : goal.returns
returns c = λ n v k. done_written n c.args.block.now v c.args.done k

use Rattle.watch.proofs.Faith.{faithful}
use Rattle.watch.proofs.faithful.Goals as goal

pub returns : goal.returns
returns c = faithful

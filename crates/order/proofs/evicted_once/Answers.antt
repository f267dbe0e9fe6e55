use Rattle.order.proofs.Statements.{evicted_once}
use Rattle.order.proofs.evicted_once.Goals as goal

pub returns : goal.returns
returns c = evicted_once

use Rattle.order.proofs.Statements.{stored_once}
use Rattle.order.proofs.stored_once.Goals as goal

pub returns : goal.returns
returns c = stored_once

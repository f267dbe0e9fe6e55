use Rattle.order.proofs.Statements.{stays_stopped}
use Rattle.order.proofs.stays_stopped.Goals as goal

pub returns : goal.returns
returns c = stays_stopped

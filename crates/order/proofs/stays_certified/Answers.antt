use Rattle.order.proofs.Statements.{stays_certified}
use Rattle.order.proofs.stays_certified.Goals as goal

pub returns : goal.returns
returns c = stays_certified

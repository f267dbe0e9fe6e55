use Rattle.order.proofs.Statements.{clock_advances}
use Rattle.order.proofs.clock_advances.Goals as goal

pub returns : goal.returns
returns c = clock_advances

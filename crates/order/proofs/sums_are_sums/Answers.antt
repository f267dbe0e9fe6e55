use Rattle.order.proofs.Statements.{sums_are_sums}
use Rattle.order.proofs.sums_are_sums.Goals as goal

pub returns : goal.returns
returns c = sums_are_sums

use Rattle.order.proofs.Statements.{wrong_is_final}
use Rattle.order.proofs.wrong_is_final.Goals as goal

pub returns : goal.returns
returns c = wrong_is_final

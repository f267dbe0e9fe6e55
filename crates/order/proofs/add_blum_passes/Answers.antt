use Rattle.order.proofs.Statements.{add_blum_passes}
use Rattle.order.proofs.add_blum_passes.Goals as goal

pub returns : goal.returns
returns c = add_blum_passes

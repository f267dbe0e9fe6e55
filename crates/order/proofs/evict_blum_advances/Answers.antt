use Rattle.order.proofs.Statements.{evict_blum_advances}
use Rattle.order.proofs.evict_blum_advances.Goals as goal

pub returns : goal.returns
returns c = evict_blum_advances

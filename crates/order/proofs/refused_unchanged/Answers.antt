use Rattle.order.proofs.Statements.{refused_unchanged}
use Rattle.order.proofs.refused_unchanged.Goals as goal

pub returns : goal.returns
returns c = refused_unchanged

use Rattle.order.proofs.Statements.{bytes_determine}
use Rattle.order.proofs.bytes_determine.Goals as goal

pub returns : goal.returns
returns c = bytes_determine

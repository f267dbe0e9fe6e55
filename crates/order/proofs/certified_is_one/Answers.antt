use Rattle.order.proofs.Certified.{certified_is_one}
use Rattle.order.proofs.certified_is_one.Goals as goal

pub returns : goal.returns
returns c = certified_is_one

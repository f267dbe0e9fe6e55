use Rattle.order.proofs.Tree.{one_by_the_tree}
use Rattle.order.proofs.one_by_the_tree.Goals as goal

pub returns : goal.returns
returns c = one_by_the_tree

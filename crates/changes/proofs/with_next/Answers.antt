use Rattle.changes.proofs.Linked.{put_left, put_right}
use Rattle.changes.proofs.with_next.Goals as goal

pub returns-in-Left-clause-after : goal.returns-in-Left-clause-after
returns-in-Left-clause-after c = put_left c.args.way.now c.args.contents c.args.path.now c.in-Between.next c.in-Between.hash c.in-Between.by_blum c.in-Node.left c.in-Node.right c.in-Between.is c.in-Node.is c.in-Left.ensures

pub returns-in-Right-clause-after : goal.returns-in-Right-clause-after
returns-in-Right-clause-after c = put_right c.args.way.now c.args.contents c.args.path.now c.in-Between.next c.in-Between.hash c.in-Between.by_blum c.in-Node.left c.in-Node.right c.in-Between.is c.in-Node.is c.in-Right.ensures

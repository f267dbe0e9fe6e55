use Rattle.model.specs.Monitor.{malformed, state}
use Rattle.watch.proofs.Kept.{malformed_kept, promised}
use Rattle.watch.proofs.take_cut.Goals as goal

pub returns : goal.returns
returns c = λ l es mem g k. rw c.into.ensures (promised l es (malformed c.args.len) mem _ (malformed_kept l mem (state l es) c.args.len k))

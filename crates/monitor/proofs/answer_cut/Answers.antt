use Rattle.std.proofs.Common.{sym}
use Rattle.monitor.proofs.Refused.{refuses_malformed}
use Rattle.monitor.proofs.answer_cut.Goals as goal

pub returns : goal.returns
returns c = λ l s. rw c.into.ensures (sym (refuses_malformed l s c.args.len))

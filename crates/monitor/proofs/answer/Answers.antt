use Rattle.std.proofs.Common.{sym, ap, ◌∙◌}
use Rattle.model.specs.Monitor.{answer}
use Rattle.monitor.proofs.Refused.{refuses_malformed, refuses_unsupported}
use Rattle.monitor.proofs.answer.Goals as goal

pub returns-in-Err : goal.returns-in-Err
returns-in-Err c = λ l s no. rw c.into.ensures (sym (ap (answer l s) (sym c.in-Err.ensures.value) ∙ refuses_malformed l s c.in-Err.field-0.at))

pub returns-in-Ok : goal.returns-in-Ok
returns-in-Ok c = λ l s no. rw c.into-in-Ok.ensures (sym (ap (answer l s) (sym c.in-Ok.ensures.value) ∙ refuses_unsupported l s _ _ (no _)))

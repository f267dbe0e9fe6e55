use Rattle.std.proofs.Common.{◌∙◌}
use Rattle.reader.proofs.Steps.{one_none, one_other, one_fit}
use Rattle.reader.proofs.Reader.byte.Goals as goal

pub returns-in_err-first : goal.returns-in_err-first
returns-in_err-first g c = λ fit same. rw c.from_residual.ensures (one_none fit _ c.in_err-first.ensures.cases)

pub returns-then-not-is_fit : goal.returns-then-not-is_fit
returns-then-not-is_fit g c = λ fit same. one_other fit _ _ _ c.in_ok-first.ensures.cases.0 (same _ _ c.is_fit.ensures ∙ c.if-not-is_fit.true)

pub returns : goal.returns
returns g c = λ fit same. one_fit fit _ _ _ c.in_ok-first.ensures.cases.0 (same _ _ c.is_fit.ensures ∙ c.if-not-is_fit.false)

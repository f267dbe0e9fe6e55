use Rattle.std.proofs.Common.{sym, ◌∙◌, arith}
use Rattle.logfile.proofs.Digits.{turn, over, halt_low, halt_high}
use Rattle.logfile.proofs.limits.with_digits.Goals as goal
use Rattle.logfile.proofs.limits.with_digits.Goals.{in_default, in_default-2, in_default-3}

pub loop-rest-preserved : goal.loop-rest-preserved
loop-rest-preserved c = turn c.loop-rest.n _ c.loop-rest.rest.now _ (omega arith) (omega arith) (omega arith) (omega arith) c.loop-rest.invariant

pub returns : goal.returns
returns c =
    elim c.if-rest-lt1.branch [
      | in_default w ↦ sym (over c.loop-rest.n c.loop-rest.rest.now (omega arith)) ∙ c.loop-rest.invariant
      | in_default-2 w ↦ sym (halt_low c.loop-rest.n c.loop-rest.rest.now (omega arith) (omega arith)) ∙ c.loop-rest.invariant
      | in_default-3 w ↦ sym (halt_high c.loop-rest.n c.loop-rest.rest.now (omega arith) (omega arith)) ∙ c.loop-rest.invariant
    ]

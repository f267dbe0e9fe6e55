use Rattle.std.proofs.Common.{arith, ltb-false, ltb-true}
use Rattle.logfile.proofs.Digits.{number_none, number_zero, number_low, number_high, number_digits}
use Rattle.logfile.proofs.limits.number.Goals as goal
use Rattle.logfile.proofs.limits.number.Goals.{in_default-via-then-bytes-lt1, in_default-via-else-bytes-lt1+in_default+then-bytes-lt48, in_default-via-else-bytes-lt1+in_default+else-bytes-lt48+else-bytes-lt58}

pub returns-in-48 : goal.returns-in-48
returns-in-48 c = number_zero c.args.bytes.now (omega (arith, ltb-true, ltb-false)) (omega (arith, ltb-true, ltb-false))

pub returns-in-49-to-57 : goal.returns-in-49-to-57
returns-in-49-to-57 c = number_digits c.args.bytes.now _ (omega (arith, ltb-true, ltb-false)) (omega (arith, ltb-true, ltb-false)) (omega (arith, ltb-true, ltb-false)) (rw c.from.ensures at c.with_digits.ensures)

pub returns-in_default : goal.returns-in_default
returns-in_default c =
    elim c.in_default.branch [
      | in_default-via-then-bytes-lt1 w ↦ number_none c.args.bytes.now (omega (arith, ltb-true, ltb-false))
      | in_default-via-else-bytes-lt1+in_default+then-bytes-lt48 w ↦ number_low c.args.bytes.now (omega (arith, ltb-true, ltb-false)) (omega (arith, ltb-true, ltb-false))
      | in_default-via-else-bytes-lt1+in_default+else-bytes-lt48+else-bytes-lt58 w ↦ number_high c.args.bytes.now (omega (arith, ltb-true, ltb-false)) (omega (arith, ltb-true, ltb-false))
    ]

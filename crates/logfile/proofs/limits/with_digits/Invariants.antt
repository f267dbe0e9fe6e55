use Rattle.std.proofs.Common.{◌≡◌, length}
use Rattle.logfile.specs.FirstLine.{digits_on}
use Rattle.logfile.proofs.limits.with_digits.Given as goal

abbrev pub invariant-loop-rest : goal.invariant-loop-rest
invariant-loop-rest l = digits_on l.n l.rest ≡ digits_on l.start l.bytes

abbrev pub decreases-loop-rest : goal.decreases-loop-rest
decreases-loop-rest l = length l.rest

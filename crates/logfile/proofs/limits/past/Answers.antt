use Rattle.logfile.proofs.Digits.{past_stripped}
use Rattle.logfile.proofs.limits.past.Goals as goal

pub returns : goal.returns
returns c = past_stripped c.args.byte c.args.bytes.now c.strip_prefix.result c.strip_prefix.ensures.cases

use Rattle.std.proofs.Common.{◌-◌}
use Rattle.checking.proofs.input.Input.fill.Given as goal

abbrev pub decreases-loop-self : goal.decreases-loop-self
decreases-loop-self g l = l.wanted - (l.self.end - l.self.at)

use Rattle.std.proofs.Common.{◌*◌}
use Rattle.slot.specs.Parts.{part}
use Rattle.index.specs.Chains.{Index}
use Rattle.store.specs.Holding.{free_below}
use Rattle.store.proofs.clear.Given as goal

abbrev pub invariant-loop-i : goal.invariant-loop-i
invariant-loop-i l = Index l.n (part 0 (2 * l.n) l.mem) (free_below l.n l.i)

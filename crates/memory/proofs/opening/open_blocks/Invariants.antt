use Rattle.std.proofs.Common.{◌≡◌}
use Rattle.memory.proofs.Opened.{Opened}
use Rattle.memory.proofs.opening.open_blocks.Given as goal

abbrev pub invariant-loop-t : goal.invariant-loop-t
invariant-loop-t l = record {
  same : l.memory.words.ghost_name ≡ l.initial.memory.words.ghost_name;
  limits : l.memory.limits ≡ l.limits;
  opened : Opened l.limits.epochs l.limits.places l.initial.memory.words.now l.memory.words.now l.t;
}

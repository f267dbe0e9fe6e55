use Rattle.std.proofs.Common.{◌≡◌}
use Rattle.model.specs.Sha256.{compress}
use Rattle.sha256.specs.Parts.{initial_state}
use Rattle.sha256.specs.View.{state_of}
use Rattle.sha256.proofs.hash.Given as goal

abbrev pub invariant-loop-block : goal.invariant-loop-block
invariant-loop-block l = state_of l.s ≡ compress l.block-index initial_state l.message

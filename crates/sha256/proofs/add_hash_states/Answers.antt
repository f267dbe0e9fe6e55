use Rattle.std.proofs.Common.{refl}
use Rattle.sha256.specs.Parts.{add_states}
use Rattle.sha256.proofs.add_hash_states.Goals as goal

pub returns : goal.returns
unfolding add_states
returns c = refl

use Rattle.sha256.specs.Parts.{round}
use Rattle.sha256.proofs.round_on.Goals as goal

pub returns : goal.returns
unfolding round
returns c = cc

use Rattle.sha256.specs.Parts.{round_constants}
use Rattle.sha256.proofs.Lanes.{add_four_is}
use Rattle.sha256.proofs.add_four.Goals as goal

pub returns : goal.returns
unfolding round_constants
returns c = add_four_is c.args.t round_constants c.args.w c.fits-w.0

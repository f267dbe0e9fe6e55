use Rattle.sha256.proofs.Lanes.{rotate_lanes_is}
use Rattle.sha256.proofs.rotate_lanes.Goals as goal

pub returns : goal.returns
returns c = rotate_lanes_is c.args.n c.requires.1 c.args.x c.fits-x.0 c.fits-x.1

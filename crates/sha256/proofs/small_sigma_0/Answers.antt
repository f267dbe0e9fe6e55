use Rattle.sha256.specs.Parts.{small_sigma_0}
use Rattle.sha256.proofs.Lanes.{lanes_sigma, small_sigma_0_is}
use Rattle.sha256.proofs.small_sigma_0.Goals as goal

pub returns : goal.returns
returns c =
    lanes_sigma 7 18 3 small_sigma_0 small_sigma_0_is c.args.x c.rotate_lanes.result c.rotate_lanes-2.result
    c.fits-x.0 c.fits-x.1 c.rotate_lanes.ensures c.rotate_lanes-2.ensures

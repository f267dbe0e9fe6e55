use Rattle.sha256.specs.Parts.{small_sigma_1}
use Rattle.sha256.proofs.Lanes.{lanes_sigma, small_sigma_1_is}
use Rattle.sha256.proofs.small_sigma_1.Goals as goal

pub returns : goal.returns
returns c =
    lanes_sigma 17 19 10 small_sigma_1 small_sigma_1_is c.args.x c.rotate_lanes.result c.rotate_lanes-2.result
    c.fits-x.0 c.fits-x.1 c.rotate_lanes.ensures c.rotate_lanes-2.ensures

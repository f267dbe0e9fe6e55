-- A side's number.
use Rattle.std.proofs.Common.{◌<◌, arith}
use Rattle.path.specs.Sides.{side_number}
use Rattle.path.specs.declared.side.Side.{Side}
use Rattle.path.specs.declared.side.Side.TheVariants.{Left, Right}

pub side_below : (s : Side) → side_number s < 2
side_below Left = omega arith
side_below Right = omega arith

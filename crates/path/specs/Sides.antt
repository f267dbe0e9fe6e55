-- The number of a side, as the definitions have it.
use Rattle.std.specs.Prelude.{ℕ}
use Rattle.path.specs.declared.side.Side.{Side}
use Rattle.path.specs.declared.side.Side.TheVariants.{Left, Right}

abbrev pub side_number : Side → ℕ
side_number Left = 0
side_number Right = 1

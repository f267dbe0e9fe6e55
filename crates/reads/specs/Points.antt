-- What a child pointer points at.
use Rattle.std.specs.Prelude.{Bool, false}
use Rattle.model.specs.Records.{Path, Pointer, absent, present, same_bytes}

unfoldable pub points : Path → Pointer → Bool
points p absent = false
points p (present o h b) = same_bytes o p

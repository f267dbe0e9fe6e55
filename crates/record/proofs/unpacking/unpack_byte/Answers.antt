use Rattle.std.proofs.Common.{◌∙◌}
use Rattle.record.proofs.Spread.{spread_bits}
use Rattle.record.proofs.unpacking.unpack_byte.Goals as goal

pub returns : goal.returns
returns c = c.to_le_bytes.ensures ∙ spread_bits c.args.byte c.requires

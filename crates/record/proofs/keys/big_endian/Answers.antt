use Rattle.std.proofs.Common.{rules}
use Rattle.record.proofs.Swapped.{swapped_bits}
use Rattle.record.proofs.keys.big_endian.Goals as goal

pub returns : goal.returns
returns c = search (rules, swapped_bits c.args.limb)

use Rattle.record.proofs.Filled.{front_filled}
use Rattle.record.proofs.packing.fill.Goals as goal

pub returns : goal.returns
returns c = front_filled 256 c.args.bytes.now c.copy_from_slice.new.self c.copy_from_slice.ensures.after

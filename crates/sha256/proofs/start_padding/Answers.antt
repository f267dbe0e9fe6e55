use Rattle.sha256.proofs.Padding.{start_end}
use Rattle.sha256.proofs.start_padding.Goals as goal

pub returns : goal.returns
returns c = start_end 64 c.args.tail.now c.copy_from_slice.new.self c.requires c.copy_from_slice.ensures.after

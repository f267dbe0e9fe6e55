use Rattle.std.proofs.Common.{arith}
use Rattle.model.specs.Verifier.{new_verifier}
use Rattle.block.proofs.Opened.{open_keeps}
use Rattle.block.proofs.opening.open.Goals as goal

pub returns : goal.returns
returns c = λ t e.
    open_keeps c.args.n c.args.salt c.args.block.now c.copy_from_slice.new.self c.open_store.new.mem (new_verifier t).store
    c.requires.room c.copy_from_slice.ensures.after (omega arith) (c.open_store.ensures t e)

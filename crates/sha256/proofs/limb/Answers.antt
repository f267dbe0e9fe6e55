use Rattle.std.proofs.Common.{◌∙◌, arith}
use Rattle.sha256.proofs.Output.{limb_is}
use Rattle.sha256.proofs.limb.Goals as goal

pub returns : goal.returns
returns c =
    limb_is c.args.x c.args.y c.from-2.result c.from.result (omega arith) (omega arith) (omega arith) (omega arith)
    (c.from-2.ensures ∙ c.swap_bytes-2.ensures) (c.from.ensures ∙ c.swap_bytes.ensures)

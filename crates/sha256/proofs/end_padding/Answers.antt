use Rattle.std.proofs.Common.{◌∙◌, arith}
use Rattle.sha256.specs.Parts.{bit_length_bytes}
use Rattle.sha256.proofs.Padding.{bit_length_is, close_end}
use Rattle.sha256.proofs.end_padding.Goals as goal

pub returns : goal.returns
returns c =
    close_end c.args.block c.copy_from_slice.new.self (bit_length_bytes c.args.n) (omega arith)
    (c.copy_from_slice.ensures.after ∙ c.to_be_bytes.ensures ∙ bit_length_is c.args.n)

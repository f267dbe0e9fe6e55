use Rattle.wire_laws.proofs.Numbers.{below_bytes}
use Rattle.wire_laws.proofs.Parts.{typed_bytes}
use Rattle.reader.proofs.byte_len.Goals as goal

pub returns-clause-small : goal.returns-clause-small
returns-clause-small c = below_bytes c.args.bytes.now (typed_bytes c.args.bytes.now c.type_inv.bytes)

use Rattle.std.proofs.Common.{sym, ap, ◌∙◌}
use Rattle.wire_laws.proofs.Numbers.{eight_bytes}
use Rattle.wire_write.specs.Page.{page_of}
use Rattle.wire_write.specs.Written.{with_bytes}
use Rattle.wire_write.proofs.writer.Writer.number.Goals as goal

pub returns-clause-written : goal.returns-clause-written
returns-clause-written c = c.slice.ensures.written ∙ ap (with_bytes (page_of c.args.self.now)) (c.to_le_bytes.ensures ∙ sym (eight_bytes c.args.n))

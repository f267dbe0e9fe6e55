use Rattle.std.proofs.Common.{◌/◌, ◌%◌, length, ap, ◌∙◌}
use Rattle.wire_write.specs.Page.{page_of}
use Rattle.wire_write.specs.Written.{with_bytes, with_byte}
use Rattle.wire_write.proofs.Pages.{sized_put}
use Rattle.wire_write.proofs.writer.Writer.sized.Goals as goal

pub returns-clause-written : goal.returns-clause-written
returns-clause-written c =
    let t = c.args.text.now in
    c.slice.ensures.written
    ∙ (ap (λ q. with_bytes q t) (c.byte-2.ensures.written ∙ ap (λ q. with_byte q (length t / 256 % 256)) c.byte.ensures.written) ∙ sized_put (page_of c.args.self.now) t c.args.self.now.inside)

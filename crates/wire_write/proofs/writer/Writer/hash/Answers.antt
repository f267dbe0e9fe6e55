use Rattle.std.proofs.Common.{arith}
use Rattle.wire_write.specs.Page.{page_of}
use Rattle.wire_write.proofs.Pages.{hash_put}
use Rattle.wire_write.proofs.writer.Writer.hash.Goals as goal

pub returns-clause-written : goal.returns-clause-written
returns-clause-written c =
    let e = hash_put (page_of c.args.self.now) c.args.hash c.args.self.now.inside (omega arith) c.number.ensures.fits c.number-2.ensures.fits c.number-3.ensures.fits c.number-4.ensures.fits in
    let a = c.number.ensures.written in
    let b = c.number-2.ensures.written in
    let d = c.number-3.ensures.written in
    let f = c.number-4.ensures.written in
    cc

use Rattle.std.proofs.Common.{◌+◌, ◌-◌, length, ap, ◌∙◌}
use borrow.Rule.Slice.PartMut.{put_mid}
use Rattle.wire_write.specs.Written.{page}
use Rattle.wire_write.proofs.Pages.{slice_put}
use Rattle.wire_write.proofs.writer.Writer.slice.Goals as goal

pub returns-clause-written : goal.returns-clause-written
returns-clause-written c =
    let m = c.args.self.now.to.now in
    let i = c.args.self.now.at in
    let n = length c.args.part.now in
    ap (λ ws. page (put_mid i (i + n - i) m ws) (i + n)) c.copy_from_slice.ensures.after ∙ slice_put m i c.args.part.now

use Rattle.std.proofs.Common.{◌≡◌, ◌+◌, length, Some, ap, ◌∙◌, arith}
use Rattle.wire_write.proofs.Measured.{sized_too_long, sized_fits}
use Rattle.wire_write.proofs.lengths.sized_len.Goals as goal

pub returns-then-len-gt-LONGEST_TEXT : goal.returns-then-len-gt-LONGEST_TEXT
returns-then-len-gt-LONGEST_TEXT c = record { value = sized_too_long c.args.text.now (omega arith); most = tt }

pub returns : goal.returns
returns c =
    let e : 2 + c.byte_len-len.result ≡ 2 + length c.args.text.now = omega arith in
    record { value = ap Some e ∙ sized_fits c.args.text.now c.byte_len-len.ensures.small (omega arith); most = omega arith }

use Rattle.std.proofs.Common.{◌≡◌, arith}
use Rattle.wire_laws.proofs.Numbers.{two_digits}
use Rattle.model.specs.Records.{le_number}
use Rattle.model.specs.Wire.{reads_number}
use Rattle.reader.proofs.Reader.size.Goals as goal

pub returns : goal.returns
unfolding reads_number
returns c =
    let e : le_number c.in_ok-bytes.bytes.now ≡ c.from.result = omega (arith, two_digits c.in_ok-bytes.bytes.now c.in_ok-bytes.ensures.len) in
    rw (c.in_ok-bytes.ensures.reads, e)

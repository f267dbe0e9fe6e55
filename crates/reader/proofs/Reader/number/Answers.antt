use Rattle.wire_laws.proofs.Numbers.{eight_digits}
use Rattle.model.specs.Wire.{reads_number}
use Rattle.reader.proofs.Reader.number.Goals as goal

pub returns : goal.returns
unfolding reads_number
returns c = rw (c.in_ok-bytes.ensures.reads, eight_digits c.in_ok-bytes.bytes.now c.in_ok-bytes.ensures.len, c.from_le_bytes.ensures)

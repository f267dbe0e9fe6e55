use Rattle.std.proofs.Common.{ℕ, ◌*◌, ◌/◌, ◌%◌, ap, ◌∙◌}
use Rattle.model.specs.Records.{bits}
use Rattle.record.proofs.Gather.{gathered_bits}
use Rattle.record.proofs.packing.pack_byte.Goals as goal

pub returns-clause-bits : goal.returns-clause-bits
returns-clause-bits c = λ h.
    ap (λ (x : ℕ). bits 8 (x * 0x8040201008040201 % 18446744073709551616 / 72057594037927936)) c.from_le_bytes.ensures ∙ gathered_bits c.args.eight.now c.told-eight h

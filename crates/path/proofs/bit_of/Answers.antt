use Rattle.std.proofs.Common.{◌-◌, ◌/◌, ◌%◌, ◌^◌, get_or, sym, ◌∙◌}
use Rattle.std.proofs.lemmas.Nat.{and_mask}
use Rattle.path.proofs.Words.{get_or_word_bits}
use Rattle.path.proofs.bit_of.Goals as goal

pub returns : goal.returns
returns c =
    and_mask (get_or c.args.bits.now (c.args.i / 64) 0 / 2 ^ (63 - c.args.i % 64)) 1
    ∙ sym (get_or_word_bits c.args.bits.now c.args.i c.requires)

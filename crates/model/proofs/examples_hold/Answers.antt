use Rattle.std.proofs.Common.{refl}
use Rattle.model.specs.Sha256.{sha256, and_bits, xor_bits, extend_schedule, rounds, be_words, compress}
use Rattle.model.specs.Examples.{Examples}
use Rattle.model.proofs.examples_hold.Goals as goal

examples : Examples
unfolding sha256 and_bits xor_bits extend_schedule rounds be_words compress
examples = record { empty = refl; abc = refl; two_blocks = refl }

pub returns : goal.returns
returns c = examples

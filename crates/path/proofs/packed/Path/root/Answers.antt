use Rattle.std.proofs.Common.{refl, lit≤}
use Rattle.model.specs.Records.{bits}
use Rattle.path.specs.Packs.{word_bits}
use Rattle.path.proofs.packed.Path.root.Goals as goal

pub invariant_of-result : goal.invariant_of-result
unfolding word_bits bits
invariant_of-result c = record { ok = (lit≤ tt, refl) }

use Rattle.std.proofs.Common.{◌≡◌, ◌+◌, ◌*◌, take}
use Rattle.path.specs.Packs.{word_bits}
use Rattle.writer.specs.Written.{Written}
use Rattle.record.proofs.unpacking.bits_into.Given as goal

abbrev pub invariant-loop-j : goal.invariant-loop-j
invariant-loop-j l = record {
  end : l.w.at ≡ l.initial.w.at + 8 * l.j;
  wrote : Written l.initial.w (take (8 * l.j) (word_bits l.bits)) l.w;
}

use Rattle.std.proofs.Common.{◌≡◌, ◌*◌, ◌^◌, ◌<◌, true, take}
use Rattle.model.specs.Monitor.{are_bits}
use Rattle.model.specs.Records.{bits}
use Rattle.record.proofs.packing.pack_word.Given as goal

abbrev pub invariant-loop-eight : goal.invariant-loop-eight
invariant-loop-eight l = record {
  fits : l.word < 2 ^ (8 * l.eight-index);
  bits : are_bits l.bytes ≡ true → bits (8 * l.eight-index) l.word ≡ take (8 * l.eight-index) l.bytes;
}

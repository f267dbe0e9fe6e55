use Rattle.std.proofs.Common.{◌≡◌, length, take}
use Rattle.slot.proofs.Texts.{words_of}
use Rattle.slot.proofs.text.write_bytes.Given as goal

abbrev pub invariant-loop-j : goal.invariant-loop-j
invariant-loop-j l = record {
  done : take l.j l.words ≡ words_of l.j l.bytes;
  many : length l.words ≡ length l.fn.words;
}

use Rattle.std.proofs.Common.{length}
use Rattle.epochs.proofs.Passed.{Left, Passed}
use Rattle.epochs.proofs.certifying.are_all_done.Given as goal

abbrev pub invariant-loop-words : goal.invariant-loop-words
invariant-loop-words l = record {
  left : Left l.memory.limits l.memory.words.now l.words-iterator.rest.now l.words-iterator.size (length l.yielded);
  passed : Passed l.memory.limits l.memory.words.now l.epoch (length l.yielded);
}

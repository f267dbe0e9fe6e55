use Rattle.std.proofs.Common.{◌≡◌, length}
use Rattle.model.specs.Sha256.{extend_schedule, rounds}
use Rattle.sha256.specs.Parts.{round_constants}
use Rattle.sha256.specs.View.{state_of, sums_of, words_of}
use Rattle.sha256.proofs.Rounds.{left}
use Rattle.sha256.proofs.compress_block.Given as goal

abbrev pub invariant-loop-j : goal.invariant-loop-j
invariant-loop-j l =
    (rounds (state_of l.start) round_constants (extend_schedule 48 (words_of l.initial.words)) ≡ left l.j (state_of l.state) (sums_of l.sums) (words_of l.words))
    × (length (words_of l.words) ≡ 16)

use Rattle.std.proofs.Common.{ℕ, List, sym, ap, ◌∙◌, arith}
use Rattle.model.specs.Sha256.{State, extend_schedule, rounds}
use Rattle.sha256.specs.Parts.{add_states, compress_block, round_constants}
use Rattle.sha256.specs.View.{state_of, sums_of, words_of}
use Rattle.sha256.proofs.Rounds.{left_start, left_next, left_end}
use Rattle.sha256.proofs.compress_block.Goals as goal

pub loop-j-init : goal.loop-j-init
loop-j-init c = (
  left_start (state_of c.args.start) (words_of c.block_words-words.result) (sums_of c.add_constants-sums.result)
      c.block_words-words.ensures.count c.add_constants-sums.ensures,
  c.block_words-words.ensures.count,
)

pub loop-j-preserved : goal.loop-j-preserved
loop-j-preserved c = (
  c.loop-j.invariant.0
      ∙ left_next c.loop-j.j (state_of c.loop-j.state) (state_of c.rounds_and_schedule-next.result.state)
      (sums_of c.loop-j.sums) (sums_of c.rounds_and_schedule-next.result.sums) (words_of c.loop-j.words) (words_of c.rounds_and_schedule-next.result.words)
      c.loop-j-test.true c.loop-j.invariant.1 c.rounds_and_schedule-next.ensures.count
      c.rounds_and_schedule-next.ensures.state c.rounds_and_schedule-next.ensures.words c.rounds_and_schedule-next.ensures.sums,
  c.rounds_and_schedule-next.ensures.count,
)

pub returns : goal.returns
unfolding compress_block
returns c =
    let start : State = state_of c.args.start in
    c.add_hash_states.ensures
    ∙ ap (add_states start)
    (c.sixteen_rounds.ensures
    ∙ sym (left_end c.loop-j.j (state_of c.loop-j.state) (sums_of c.loop-j.sums) (words_of c.loop-j.words) c.loop-j-test.false (omega arith))
    ∙ sym c.loop-j.invariant.0
    ∙ ap (λ (w : List ℕ). rounds start round_constants (extend_schedule 48 w)) c.block_words-words.ensures.words)

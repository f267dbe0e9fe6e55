use Rattle.std.proofs.Common.{◌≡◌, ◌∙◌, ap, length, false, [], refl}
use Rattle.memory.specs.Ranges.{with_rest, words_for}
use Rattle.memory.proofs.Opened.{opened_next}
use Rattle.memory.proofs.opening.open_blocks.Goals as goal

pub loop-t-preserved : goal.loop-t-preserved
loop-t-preserved c =
    let size : length c.loop-t.memory.words.now ≡ words_for c.args.memory.now.limits = c.loop-t.memory.room ∙ ap words_for c.loop-t.invariant.limits in
    record {
      same = c.loop-t.invariant.same;
      limits = c.loop-t.invariant.limits;
      opened = opened_next (with_rest (λ k. false) [] c.args.memory.now.limits) c.args.memory.now.words.now c.loop-t.memory.words.now c.«open».new.block c.loop-t.t c.block_start-a.result
          size c.loop-t-test.true (c.«open».ensures c.loop-t.t refl) c.block_start-a.ensures c.loop-t.invariant.opened;
    }

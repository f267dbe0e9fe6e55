use Rattle.std.proofs.Common.{◌≡◌, ℕ, ◌*◌, ◌/◌, [], length, get_or, take, drop, refl, ap, ◌∙◌, arith}
use Rattle.model.specs.Sha256.{compress}
use Rattle.sha256.specs.Parts.{compress_block, initial_state}
use Rattle.sha256.specs.View.{state_of}
use Rattle.sha256.proofs.Loading.{chunk_at}
use Rattle.sha256.proofs.Padding.{compress_more, final_state_is}
use Rattle.sha256.proofs.hash.Goals as goal

pub loop-block-init : goal.loop-block-init
unfolding initial_state compress
loop-block-init c = refl

pub loop-block-preserved : goal.loop-block-preserved
loop-block-preserved c =
    let m = c.args.message.now in
    let j = c.loop-block.block-index in
    let s = state_of c.loop-block.s in
    let block : get_or c.as_chunks.result.0.now j [] ≡ take 64 (drop (64 * j) m) = ap (λ l. get_or l j []) c.as_chunks.ensures.front ∙ chunk_at 64 _ m j [] (omega arith) in
    compress_more j s (state_of c.compress_block-s.result) m c.loop-block.invariant (c.compress_block-s.ensures ∙ ap (compress_block s) block)

pub returns : goal.returns
returns c =
    let m = c.args.message.now in
    let whole : c.loop-block.block-index ≡ length m / 64 = omega arith in
    final_state_is m c.as_chunks.result.1.now (state_of c.loop-block.s) (state_of c.compress_tail.result)
    (c.loop-block.invariant ∙ ap (λ (n : ℕ). compress n initial_state m) whole) c.as_chunks.ensures.back c.compress_tail.ensures

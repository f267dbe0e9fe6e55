use Rattle.std.proofs.Common.{ap, ◌∙◌}
use Rattle.sha256.specs.Parts.{compress_block}
use Rattle.sha256.specs.View.{state_of}
use Rattle.sha256.proofs.Padding.{tail_short, tail_long}
use Rattle.sha256.proofs.compress_tail.Goals as goal

pub returns-then-tail-lt56 : goal.returns-then-tail-lt56
returns-then-tail-lt56 c =
    c.compress_block.ensures
    ∙ tail_short c.args.tail.now c.args.n c.requires (state_of c.args.s) c.start_padding-block.result c.end_padding.result
    c.if-tail-lt56.true c.start_padding-block.ensures c.end_padding.ensures

pub returns-else-tail-lt56 : goal.returns-else-tail-lt56
returns-else-tail-lt56 c =
    c.compress_block-else-tail-lt56-2.ensures
    ∙ ap (λ s. compress_block s c.end_padding-else-tail-lt56.result) c.compress_block-else-tail-lt56.ensures
    ∙ tail_long c.args.tail.now c.args.n c.requires (state_of c.args.s) c.start_padding-block.result c.end_padding-else-tail-lt56.result
    c.if-tail-lt56.false c.start_padding-block.ensures c.end_padding-else-tail-lt56.ensures

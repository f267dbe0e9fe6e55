use Rattle.std.proofs.Common.{◌∙◌, arith}
use Rattle.epochs.proofs.Certified.{agree_is}
use Rattle.epochs.proofs.certifying.are_even.Goals as goal

pub returns : goal.returns
returns c = λ l s same laid is.
    c.agree.ensures ∙ agree_is c.args.memory.now.limits l c.args.memory.now.words.now s c.args.epoch c.sum_start-a.result _ c.args.memory.now.bounded same laid is c.sum_start-a.ensures.start (omega arith)

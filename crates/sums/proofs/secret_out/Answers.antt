use Rattle.std.proofs.Common.{rules, ◌∙◌, arith}
use Rattle.writer.proofs.Joined.{left, front}
use Rattle.slot.proofs.Eights.{numbers_in}
use Rattle.sums.proofs.secret_out.Goals as goal

pub returns : goal.returns
returns c =
    front _ _ _ _ _ 32 (omega arith) (left c.args.out.now 0 _ _ c.new.result _ c.new.ensures.out c.new.ensures.at c.numbers.ensures.wrote (search rules)) (omega arith)
    ∙ numbers_in c.args.secret.now

use Rattle.std.proofs.Common.{rules}
use Rattle.writer.proofs.Joined.{written_join, left}
use Rattle.gather.proofs.element.element_out.Goals as goal

pub returns-clause-wrote : goal.returns-clause-wrote
returns-clause-wrote c = λ s.
    left _ _ _ _ c.new-w.result _ c.new-w.ensures.out c.new-w.ensures.at
    (written_join _ _ _ _ _ (c.record_into.ensures.wrote s)
    (written_join _ _ _ _ _ c.number.ensures.wrote
    (written_join _ _ _ _ _ c.number-2.ensures.wrote c.byte.ensures)))
    (search rules)

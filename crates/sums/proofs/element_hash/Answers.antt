use Rattle.std.proofs.Common.{rules, ◌++◌, List, ℕ, ap, ◌∙◌, arith}
use Rattle.model.specs.Records.{hash_of}
use Rattle.slot.proofs.Numbers.{limbs_in}
use Rattle.writer.proofs.Joined.{written_join, left, front}
use Rattle.slot.proofs.Eights.{numbers_in}
use Rattle.sums.proofs.element_hash.Goals as goal

pub returns : goal.returns
returns c = λ few.
    let written = written_join _ _ _ _ _ c.numbers.ensures.wrote c.bytes.ensures in
    let message = front _ _ _ _ _ _ (omega arith) (left _ 0 _ _ c.new-w.result _ c.new-w.ensures.out c.new-w.ensures.at written (search rules)) (omega arith) in
    limbs_in c.digest.result
    ∙ (c.digest.ensures.number ∙ ap hash_of (message ∙ ap (λ (x : List ℕ). x ++ c.args.element.now) (numbers_in c.args.secret.now)))

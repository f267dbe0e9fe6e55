use Rattle.std.proofs.Common.{◌∙◌, arith, sym}
use Rattle.path.proofs.Less.{less_packed, then_less}
use Rattle.path.proofs.less_words.Goals as goal

pub returns : goal.returns
returns c = λ p q.
    let ws = c.args.bits.now in
    let vs = c.args.q_bits.now in
    then_less ws vs c.args.len c.args.q_len c.lt.result c.lt.ensures
    ∙ sym (less_packed c.args.len c.args.q_len ws vs c.requires p q (λ i. omega (arith, c.type_inv.bits i)) (λ i. omega (arith, c.type_inv.q_bits i)))

use Rattle.std.proofs.Common.{◌^◌, ◌<◌, ◌∙◌, arith}
use Rattle.sha256.specs.Parts.{big_sigma_1}
use Rattle.sha256.proofs.Bits.{lxor_three, rotr_is}
use Rattle.sha256.proofs.big_sigma_1.Goals as goal

pub returns : goal.returns
unfolding big_sigma_1
returns c =
    let h : c.args.x < 2 ^ 32 = omega arith in
    lxor_three c.rotate_right.type_inv c.rotate_right-2.type_inv c.rotate_right-3.type_inv (c.rotate_right.ensures ∙ rotr_is 6 26 c.args.x h) (c.rotate_right-2.ensures ∙ rotr_is 11 21 c.args.x h) (c.rotate_right-3.ensures ∙ rotr_is 25 7 c.args.x h)

use Rattle.std.proofs.Common.{◌^◌, ◌<◌, ◌∙◌, arith}
use Rattle.sha256.specs.Parts.{big_sigma_0}
use Rattle.sha256.proofs.Bits.{lxor_three, rotr_is}
use Rattle.sha256.proofs.big_sigma_0.Goals as goal

pub returns : goal.returns
unfolding big_sigma_0
returns c =
    let h : c.args.x < 2 ^ 32 = omega arith in
    lxor_three c.rotate_right.type_inv c.rotate_right-2.type_inv c.rotate_right-3.type_inv (c.rotate_right.ensures ∙ rotr_is 2 30 c.args.x h) (c.rotate_right-2.ensures ∙ rotr_is 13 19 c.args.x h) (c.rotate_right-3.ensures ∙ rotr_is 22 10 c.args.x h)

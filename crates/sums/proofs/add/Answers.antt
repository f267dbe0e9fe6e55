use Rattle.std.proofs.Common.{rules, ap, ◌∙◌}
use Rattle.slot.specs.Layout.{number_in}
use Rattle.sums.proofs.Numbers.{added}
use Rattle.sums.proofs.add.Goals as goal

pub returns : goal.returns
returns c =
    let a = c.carrying_add-a in
    let b = c.carrying_add-b in
    let d = c.carrying_add-c in
    let e = c.carrying_add-d in
    ap number_in c.copy_from_slice.ensures.after
    ∙ added c.args.sum.now c.args.hash.now c.requires c.told-hash a.result.0 _ b.result.0 _ d.result.0 _ e.result.0 _
    a.ensures b.ensures d.ensures e.ensures (search rules) (search rules) (search rules) (search rules)

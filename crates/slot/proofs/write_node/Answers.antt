use Rattle.std.proofs.Common.{◌≡◌, length, sym, ap, ◌∙◌, subst, arith}
use Rattle.slot.specs.Parts.{put}
use Rattle.slot.specs.Layout.{pointer_in, PointerPacks}
use Rattle.slot.specs.Meant.{child_meant}
use Rattle.slot.proofs.Parted.{length_part, length_put}
use Rattle.slot.proofs.Written.{node_written}
use Rattle.slot.proofs.write_node.Goals as goal

pub returns : goal.returns
returns c =
    let w = c.write_head.new.slot in
    let ls = c.write_child.new.s in
    let rs = c.write_child-2.new.s in
    let size : length w ≡ 190 = c.write_head.auto.slot ∙ c.requires.size in
    let left-ten : length ls ≡ 10 = c.write_child.auto.s ∙ length_part 8 10 w (omega arith) in
    let size_2 : length (put 8 10 w ls) ≡ 190 = length_put 8 10 w ls (omega arith) left-ten ∙ size in
    let right-ten : length rs ≡ 10 = c.write_child-2.auto.s ∙ length_part 18 10 (put 8 10 w ls) (omega arith) in
    let L = c.args.left.now in
    let R = c.args.right.now in
    let done =
    node_written w ls rs size left-ten right-ten c.args.by_merkle c.args.path.now.len c.args.path.now.bits c.write_head.ensures (child_meant L) (child_meant R)
    (ap pointer_in c.write_child.ensures.words ∙ c.write_child.ensures.meant) (ap pointer_in c.write_child-2.ensures.words ∙ c.write_child-2.ensures.meant)
    c.args.path.now.ok
    (subst PointerPacks (sym c.write_child.ensures.words) c.write_child.ensures.packs)
    (subst PointerPacks (sym c.write_child-2.ensures.words) c.write_child-2.ensures.packs) in
    record { slot = done.0; stored = done.1 }

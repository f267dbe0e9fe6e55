use Rattle.std.proofs.Common.{◌≡◌, ℕ, ◌+◌, ◌-◌, ◌*◌, ◌<◌, ◌≤◌, List, length, set, sym, ap, ◌∙◌, subst, arith}
use Rattle.model.specs.Records.{node, with_child, children_of}
use Rattle.path.specs.Sides.{side_number}
use Rattle.path.proofs.Sided.{side_below}
use Rattle.slot.specs.Parts.{part, put}
use Rattle.slot.specs.Layout.{slot_path, rec_in}
use Rattle.slot.specs.Edits.{KeepsPath, Edited}
use Rattle.slot.specs.Meant.{child_meant, child_words}
use Rattle.slot.proofs.Parted.{length_part}
use Rattle.slot.proofs.Children.{child_kept, child_edited}
use Rattle.slot.proofs.set_child.Goals as goal

pub returns : goal.returns
returns c =
    let w = c.args.slot.now in
    let d = side_number c.args.side in
    let two : d < 2 = side_below c.args.side in
    let a = 8 + 10 * d in
    let b = c.pointer_start-a.result in
    let ys = child_words c.args.child.now in
    let k : b + 10 - b ≡ 10 = omega arith in
    let e : set (put b (b + 10 - b) w c.write_child.new.s) 150 0 ≡ set (put a 10 w ys) 150 0 =
    ap (λ (q : ℕ). set (put b q w c.write_child.new.s) 150 0) k ∙ ap (λ (q : List ℕ). set (put b 10 w q) 150 0) c.write_child.ensures.words
    ∙ ap (λ (q : ℕ). set (put q 10 w ys) 150 0) c.pointer_start-a.ensures in
    let in-b : b + 10 ≤ length w = omega (arith, c.requires.size, c.pointer_start-a.ensures) in
    let ten : length ys ≡ 10 = ap length (sym c.write_child.ensures.words) ∙ c.write_child.auto.s ∙ ap (λ (q : ℕ). length (part b q w)) k ∙ length_part b 10 w in-b in
    record {
      kept = subst (KeepsPath w) (sym e) (child_kept w ys c.requires.size ten d two);
      edited = λ s n. subst (λ (q : List ℕ). Edited w q (node (slot_path w) (with_child (children_of (rec_in w)) d (child_meant c.args.child.now)))) (sym e)
          (child_edited w ys c.requires.size ten d two (child_meant c.args.child.now) c.write_child.ensures.meant c.write_child.ensures.packs s n);
    }

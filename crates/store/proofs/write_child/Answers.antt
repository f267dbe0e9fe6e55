use Rattle.std.proofs.Common.{◌≡◌, ℕ, ◌+◌, ◌-◌, ◌*◌, ◌≤◌, List, length, sym, ap, ◌∙◌, subst, arith}
use Rattle.model.specs.Records.{Path, node, with_child, children_of, is_data}
use Rattle.model.specs.Verifier.{updated}
use Rattle.path.specs.Packs.{path_in, Fit}
use Rattle.slot.specs.Parts.{part, put}
use Rattle.slot.specs.Layout.{rec_in, slot_path, Slot}
use Rattle.slot.specs.Edits.{KeepsPath, Edited}
use Rattle.path.specs.Sides.{side_number}
use Rattle.slot.specs.Meant.{child_meant}
use Rattle.slot.proofs.Parted.{length_part}
use Rattle.store.specs.Holding.{slot_at, Holds, Walked}
use Rattle.store.proofs.Edits.{walked_slot, walked_on, held_edited}
use Rattle.store.proofs.write_child.Goals as goal

pub returns : goal.returns
returns c =
    let n = c.args.n in
    let m = c.args.mem.now in
    let i = c.args.i in
    let a = 2 * n + i * 190 in
    let w = c.set_child.new.slot in
    let room : a + 190 ≤ length m = omega (arith, c.requires.room, c.requires.within) in
    let q : a + 190 - a ≡ 190 = omega arith in
    let p : part a (a + 190 - a) m ≡ slot_at n m i = ap (λ (k : ℕ). part a k m) q in
    let size : length w ≡ 190 = c.set_child.auto.slot ∙ ap length p ∙ length_part a 190 m room in
    let kept : KeepsPath (slot_at n m i) w = subst (λ (v : List ℕ). KeepsPath v w) p c.set_child.ensures.kept in
    let e : put a (a + 190 - a) m w ≡ put a 190 m w = ap (λ (k : ℕ). put a k m w) q in
    record {
      stay = λ salt k ws r W. subst (λ (v : List ℕ). Walked n salt v k ws r) (sym e) (walked_on n m i w room size kept (subst Fit e (λ j. (c.type_inv.mem j).fits)) salt k ws r W);
      stored = λ salt ss k ws H W nk.
          let sp = walked_slot n salt m ss H k ws i W c.requires.within in
          let s = child_meant c.args.child.now in
          let d = side_number c.args.side in
          let cs = children_of (rec_in (slot_at n m i)) in
          let E : Edited (slot_at n m i) w (node (slot_path (slot_at n m i)) (with_child cs d s)) =
          subst (λ (v : List ℕ). Edited v w (node (slot_path v) (with_child (children_of (rec_in v)) d s))) p
          (c.set_child.ensures.edited (subst Slot (sym p) sp.0) (ap (λ (v : List ℕ). is_data (rec_in v)) p ∙ nk)) in
          subst (λ (v : List ℕ). Holds n salt v (updated (node (path_in k ws) (with_child cs d s)) ss)) (sym e)
          (held_edited n m i w room size kept salt ss k ws H W c.requires.within (node (path_in k ws) (with_child cs d s))
          (subst (λ (v : Path). Edited (slot_at n m i) w (node v (with_child cs d s))) (sym sp.1) E));
    }

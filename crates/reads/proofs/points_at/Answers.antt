use Rattle.std.proofs.Common.{◌≡◌, ℕ, ◌+◌, ◌-◌, ◌*◌, List, sym, ap, ◌∙◌, subst, arith}
use Rattle.path.specs.Packs.{path_in}
use Rattle.path.specs.Sides.{side_number}
use Rattle.path.proofs.Sided.{side_below}
use Rattle.slot.specs.Parts.{part}
use Rattle.slot.specs.Layout.{pointer_in, PointerPacks}
use Rattle.store.specs.Stores.{slot_of}
use Rattle.reads.specs.Points.{points}
use Rattle.slot.proofs.Children.{node_tag}
use Rattle.reads.proofs.Read.{pointer_at}
use Rattle.reads.proofs.points_at.Goals as goal

pub returns : goal.returns
returns c = λ sl nk.
    let d = side_number c.args.side in
    let two = side_below c.args.side in
    let w = slot_of c.args.store c.args.i in
    let p = path_in c.args.path.now.len c.args.path.now.bits in
    let a = c.pointer_start-a.result in
    let ten : a + 10 - a ≡ 10 = omega arith in
    let e : part a (a + 10 - a) c.slot.result.now ≡ part (8 + 10 * d) 10 w =
    ap (λ (k : ℕ). part a k c.slot.result.now) ten ∙ ap (λ (k : ℕ). part k 10 c.slot.result.now) c.pointer_start-a.ensures ∙ ap (λ (l : List ℕ). part (8 + 10 * d) 10 l) c.slot.ensures.words in
    let z = node_tag w nk in
    c.pointer_says.ensures (subst PointerPacks (sym e) (sl.shaped.pointers z d two)) c.args.path.now.ok
    ∙ ap (λ (s : List ℕ). points p (pointer_in s)) e
    ∙ ap (points p) (sym (pointer_at w d two z))

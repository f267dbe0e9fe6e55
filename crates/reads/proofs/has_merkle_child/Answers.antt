use Rattle.std.proofs.Common.{◌≡◌, ℕ, Bool, not, ◌&&◌, ◌||◌, List, get_or, sym, ap, ◌∙◌, subst, arith}
use Rattle.model.specs.Records.{Children, children_of}
use Rattle.model.specs.Verifier.{Stored, has_merkle_child, points_at_merkle}
use Rattle.slot.specs.Parts.{part}
use Rattle.slot.specs.Layout.{pointer_in, Slot, rec_in}
use Rattle.reads.proofs.Read.{data_is, data_not, node_children}
use Rattle.reads.proofs.has_merkle_child.Goals as goal

-- of a node, by its two sides
two_pointers : (ss : List Stored) (w : List ℕ) → get_or w 0 0 ≡ 0
    → has_merkle_child ss (rec_in w) ≡ (points_at_merkle ss (pointer_in (part 8 10 w)) || points_at_merkle ss (pointer_in (part 18 10 w)))
two_pointers ss w z =
    ap (λ (k : Bool). not k && (points_at_merkle ss (children_of (rec_in w)).left || points_at_merkle ss (children_of (rec_in w)).right)) (data_not w z)
    ∙ ap (λ (t : Children). points_at_merkle ss t.left || points_at_merkle ss t.right) (node_children w z)

-- in a slot as it was read
read : (w v : List ℕ) → w ≡ v → (ss : List Stored) (b : Bool) → b ≡ has_merkle_child ss (rec_in w) → b ≡ has_merkle_child ss (rec_in v)
read w v e ss b h = h ∙ ap (λ (l : List ℕ). has_merkle_child ss (rec_in l)) e

pub returns-then-slot-ne0 : goal.returns-then-slot-ne0
returns-then-slot-ne0 c = λ ss H s.
    let w = c.slot-slot.result.now in
    read w _ c.slot-slot.ensures.words ss _
    (sym (ap (λ (k : Bool). not k && (points_at_merkle ss (children_of (rec_in w)).left || points_at_merkle ss (children_of (rec_in w)).right)) (data_is w c.if-slot-ne0.true)))

pub returns-then-points_at_merkle : goal.returns-then-points_at_merkle
returns-then-points_at_merkle c = λ ss H s.
    let w = c.slot-slot.result.now in
    let z = c.if-slot-ne0.false in
    let sl : Slot w = subst Slot (sym c.slot-slot.ensures.words) s in
    read w _ c.slot-slot.ensures.words ss _
    (sym (two_pointers ss w z ∙ ap (λ (k : Bool). k || points_at_merkle ss (pointer_in (part 18 10 w))) (sym (c.if-points_at_merkle.ensures ss H (sl.shaped.pointers z 0 (omega arith))))))

pub returns : goal.returns
returns c = λ ss H s.
    let w = c.slot-slot.result.now in
    let z = c.if-slot-ne0.false in
    let sl : Slot w = subst Slot (sym c.slot-slot.ensures.words) s in
    read w _ c.slot-slot.ensures.words ss _
    (c.points_at_merkle-2.ensures ss H (sl.shaped.pointers z 1 (omega arith))
    ∙ sym (two_pointers ss w z ∙ ap (λ (k : Bool). k || points_at_merkle ss (pointer_in (part 18 10 w))) (sym (c.if-points_at_merkle.ensures ss H (sl.shaped.pointers z 0 (omega arith))))))

use Rattle.std.proofs.Common.{ℕ, eqb, List, get_or, sym, ap, ◌∙◌, ap₂}
use Rattle.model.specs.Records.{present}
use Rattle.path.specs.Packs.{path_in}
use Rattle.slot.specs.Parts.{part}
use Rattle.reads.proofs.Read.{pointer_none, pointer_some}
use Rattle.reads.proofs.child_in.Goals as goal
use Rattle.slot.specs.Layout.{number_in}

pub returns-then-s-eq0 : goal.returns-then-s-eq0
returns-then-s-eq0 c = λ _. sym (pointer_none c.args.s.now c.if-s-eq0.true)

pub returns : goal.returns
returns c = λ _.
    let s = c.args.s.now in
    let b = eqb (get_or s 0 0) 2 in
    let h = c.copy_from_slice.new.self in
    let e = c.in-Some.ensures.path in
    ap₂ (λ (n : ℕ) (ws : List ℕ). present (path_in n ws) (number_in h) b) e.0 e.1
    ∙ ap (λ (ws : List ℕ). present (path_in (get_or s 1 0) (part 2 4 s)) (number_in ws) b) c.copy_from_slice.ensures.after
    ∙ sym (pointer_some s c.if-s-eq0.false)

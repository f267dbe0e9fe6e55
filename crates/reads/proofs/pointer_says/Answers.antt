use Rattle.std.proofs.Common.{◌≡◌, ℕ, length, get_or, sym, ap, ◌∙◌, subst, arith, length-drop, length-take}
use Rattle.path.specs.Packs.{path_in, Packs}
use Rattle.model.specs.Records.{same_bytes}
use Rattle.path.proofs.Words.{length_path}
use Rattle.path.proofs.Less.{same_packed}
use Rattle.path.proofs.Same.{same_length}
use Rattle.slot.specs.Parts.{part}
use Rattle.path.specs.Packs.{Fit}
use Rattle.slot.proofs.Parted.{fit_part}
use Rattle.reads.proofs.Read.{points_none, points_some}
use Rattle.reads.proofs.pointer_says.Goals as goal

pub returns-then-s-eq0 : goal.returns-then-s-eq0
returns-then-s-eq0 c = λ _ _. sym (points_none (path_in c.args.len c.args.bits.now) c.args.s.now c.if-s-eq0.true)

pub returns-then-s-len : goal.returns-then-s-len
returns-then-s-len c = λ k o.
    let s = c.args.s.now in
    let p = path_in c.args.len c.args.bits.now in
    let four : length (part 2 4 s) ≡ 4 = simp (length-take, length-drop) (omega (arith, c.requires.ten)) in
    let a = length_path (get_or s 1 0) (part 2 4 s) k.0 in
    let b = length_path c.args.len c.args.bits.now o.0 in
    sym (points_some p s c.if-s-eq0.false ∙ same_length (path_in (get_or s 1 0) (part 2 4 s)) p (λ e. c.if-s-len.true (omega arith)))

pub returns : goal.returns
returns c = λ k o.
    let s = c.args.s.now in
    let ws = c.args.bits.now in
    let n = c.args.len in
    let e : get_or s 1 0 ≡ n = c.if-s-len.false in
    let four : length (part 2 4 s) ≡ length ws = simp (length-take, length-drop) (omega (arith, c.requires.ten, c.requires.four)) in
    let fs : Fit s = λ i. (c.type_inv.s i).fits in
    c.same_words.ensures
    ∙ same_packed n (part 2 4 s) ws four (subst (λ (x : ℕ). Packs x (part 2 4 s)) e k) o (fit_part 2 4 s fs) (λ i. (c.type_inv.bits i).fits)
    ∙ ap (λ (x : ℕ). same_bytes (path_in x (part 2 4 s)) (path_in n ws)) (sym e)
    ∙ sym (points_some (path_in n ws) s c.if-s-eq0.false)

use Rattle.std.proofs.Common.{◌≡◌, ℕ, ◌+◌, ◌-◌, ◌/◌, ◌%◌, List, length, get_or, take, drop, sym, ap, ◌∙◌, arith, length-drop}
use Rattle.std.proofs.lemmas.List.{get_or-drop, get_or_default, take_all}
use Rattle.std.proofs.lemmas.Bool.{eqb-true}
use Rattle.path.proofs.Past.{rest_packs, packs_rest, whole_packs}
use Rattle.path.proofs.none_past.Goals as goal

pub returns-then-whole-bits-2-clause-packs : goal.returns-then-whole-bits-2-clause-packs
returns-then-whole-bits-2-clause-packs c = λ e. let z = eqb-true (c.args.len % 64) 0 e in whole_packs c.args.len c.args.bits.now (omega arith)

pub returns-then-bits-whole-ne0-clause-all : goal.returns-then-bits-whole-ne0-clause-all
returns-then-bits-whole-ne0-clause-all c = λ p. absurd (c.if-bits-whole-ne0.true (packs_rest c.args.len c.args.bits.now (omega arith) (λ i. (c.type_inv.bits i).fits) p).0)

rest : (w : ℕ) (ws : List ℕ) → take (length ws - w) (drop w ws) ≡ drop w ws
rest w ws = let l : length (drop w ws) ≡ length ws - w = length-drop w ws in take_all (length ws - w) (drop w ws) (omega arith)

pub returns-clause-packs : goal.returns-clause-packs
returns-clause-packs c = λ e.
    let ws = c.args.bits.now in
    let w = c.args.len / 64 + 1 in
    let l : length (drop w ws) ≡ length ws - w = length-drop w ws in
    let z = rw (rest w ws) at (c.are_zero.ensures.0 e) in
    rest_packs c.args.len ws (omega arith) (
      c.if-bits-whole-ne0.false,
      λ k i j.
          let at : w + (k - w) ≡ k = omega arith in
          sym (get_or-drop w ws (k - w) 0 ∙ ap (λ (x : ℕ). get_or ws x 0) at) ∙ z (k - w) 0 (omega arith),
    )

pub returns-clause-all : goal.returns-clause-all
returns-clause-all c = λ p.
    let ws = c.args.bits.now in
    let w = c.args.len / 64 + 1 in
    let l : length (drop w ws) ≡ length ws - w = length-drop w ws in
    let r = (packs_rest c.args.len ws (omega arith) (λ i. (c.type_inv.bits i).fits) p).1 in
    c.are_zero.ensures.1 (rw (rest w ws) (λ k d h. get_or_default (drop w ws) k d 0 h ∙ get_or-drop w ws k 0 ∙ r (w + k) (omega arith) (omega arith)))

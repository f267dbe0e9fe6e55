use Rattle.std.proofs.Common.{◌≡◌, ℕ, ◌+◌, ◌-◌, ◌*◌, true, false, length, get_or, drop, sym, refl, ap, ◌∙◌, subst, ⊎_elim, zero-add, arith, length-drop, drop-drop}
use Rattle.std.proofs.lemmas.List.{get_or_past}
use Rattle.slot.specs.Finds.{position}
use Rattle.slot.specs.Parts.{part}
use Rattle.slot.proofs.Positions.{position_next, position_hit, position_end}
use Rattle.index.specs.Chains.{Chain, place_or, says, says_at}
use Rattle.index.proofs.Chained.{chain_zero, chain_over, chain_step, drop_head}
use Rattle.index.proofs.find_in.Goals as goal
use Rattle.index.proofs.find_in.Goals.{then-link-eq0-via-then-link-eq0, then-link-eq0-via-else-link-eq0+then-link-n}

pub chain-init : goal.chain-init
chain-init c = (refl, λ is h. (h, sym (zero-add _)))

pub chain-preserved : goal.chain-preserved
chain-preserved c =
    let n = c.args.n in
    let m = c.args.index.now in
    let k = c.chain.k in
    let link = c.chain.link in
    let i = link - 1 in
    let t = says_at c.args.len c.args.bits.now c.args.slots.now in
    let w : i * 190 + 190 - i * 190 ≡ 190 = omega arith in
    let no : t i ≡ false = ap (λ (x : ℕ). says c.args.len c.args.bits.now (part (i * 190) x c.args.slots.now)) (sym w) ∙ sym c.if-slot_says.ensures in (
      c.chain.invariant.0,
      λ is h.
          let v = c.chain.invariant.1 is h in
          let s = chain_step n m link (drop k is) v.0 c.if-link-eq0.false in
          let d = drop_head is k i (drop 1 (drop k is)) n s.0 in (
            subst (Chain n m (get_or m (n + i) 0)) (drop-drop 1 k is) s.1,
            position_next t is k n d.0 (ap t d.1 ∙ no) v.1,
          ),
    )

pub returns-after-chain-clause-found : goal.returns-after-chain-clause-found
returns-after-chain-clause-found c = λ is h l.
    let v = c.chain.invariant.1 is h in
    let t = says_at c.args.len c.args.bits.now c.args.slots.now in
    let e = position_end t is c.chain.k 0 (omega arith) v.1 in
    ap (place_or c.args.n) c.chain.invariant.0 ∙ sym (get_or_past is (position t is) c.args.n (omega arith))

pub returns-then-link-eq0-clause-found : goal.returns-then-link-eq0-clause-found
returns-then-link-eq0-clause-found c = λ is h l.
    let v = c.chain.invariant.1 is h in
    let t = says_at c.args.len c.args.bits.now c.args.slots.now in
    ⊎_elim
    (λ z.
    let d : length (drop c.chain.k is) ≡ 0 = ap length (chain_zero c.args.n c.args.index.now c.chain.link (drop c.chain.k is) v.0 z) in
    let m = length-drop c.chain.k is in
    let e = position_end t is c.chain.k 0 (omega arith) v.1 in
    ap (place_or c.args.n) c.chain.invariant.0 ∙ sym (get_or_past is (position t is) c.args.n (omega arith)))
    (λ z. absurd (chain_over c.args.n c.args.index.now c.chain.link (drop c.chain.k is) v.0 z.1))
    c.then-link-eq0.either

pub returns-then-slot_says-clause-found : goal.returns-then-slot_says-clause-found
returns-then-slot_says-clause-found c = λ is h l.
    let v = c.chain.invariant.1 is h in
    let k = c.chain.k in
    let link = c.chain.link in
    let i = link - 1 in
    let t = says_at c.args.len c.args.bits.now c.args.slots.now in
    let w : i * 190 + 190 - i * 190 ≡ 190 = omega arith in
    let yes' : t i ≡ true = ap (λ (x : ℕ). says c.args.len c.args.bits.now (part (i * 190) x c.args.slots.now)) (sym w) ∙ sym c.if-slot_says.ensures in
    let s = chain_step c.args.n c.args.index.now link (drop k is) v.0 c.if-link-eq0.false in
    let d = drop_head is k i (drop 1 (drop k is)) c.args.n s.0 in
    let e = position_hit t is k c.args.n d.0 (ap t d.1 ∙ yes') v.1 in
    sym (ap (λ (x : ℕ). get_or is x c.args.n) (sym e) ∙ d.1)

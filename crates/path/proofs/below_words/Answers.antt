use Rattle.std.proofs.Common.{◌≡◌, ℕ, ◌+◌, ◌-◌, ◌/◌, ◌%◌, ◌^◌, false, eqb, get_or, take, sym, ap, ◌∙◌, ap₂, arith}
use Rattle.std.proofs.lemmas.Nat.{shr-shr}
use Rattle.std.proofs.lemmas.Bool.{not-true, not-false}
use Rattle.model.specs.Records.{same_bytes}
use Rattle.path.proofs.Same.{pointwise_same, same_true, same_front}
use Rattle.path.proofs.Below.{below_longer, below_not, below_last}
use Rattle.path.proofs.below_words.Goals as goal

pub returns-then-len-q_len : goal.returns-then-len-q_len
returns-then-len-q_len c = λ h. sym (below_longer c.args.len c.args.q_len c.args.bits.now c.args.q_bits.now c.requires h (omega arith))

pub returns-then-ne : goal.returns-then-ne
returns-then-ne c = λ h.
    let w = c.args.q_len / 64 in
    let d : same_bytes (take w c.args.bits.now) (take w c.args.q_bits.now) ≡ false = sym (pointwise_same _ _) ∙ not-true _ (sym c.ne.ensures ∙ c.if-ne.true) in
    below_not c.args.len c.args.q_len c.args.bits.now c.args.q_bits.now c.requires h (omega arith) (λ i. omega (arith, c.type_inv.bits i)) (λ i. omega (arith, c.type_inv.q_bits i)) d

pub returns : goal.returns
returns c = λ h.
    let m = c.args.q_len in
    let past : (w : ℕ) → w / 2 ^ (63 - m % 64) / 2 ≡ w / 2 ^ (64 - m % 64) = λ w. shr-shr w (63 - m % 64) 1 ∙ ap (λ (k : ℕ). w / 2 ^ k) (let e : 63 - m % 64 + 1 ≡ 64 - m % 64 = omega arith in e) in
    let t : take (m / 64) c.args.bits.now ≡ take (m / 64) c.args.q_bits.now = same_true _ _ (sym (pointwise_same _ _) ∙ not-false _ (sym c.ne.ensures ∙ c.if-ne.false)) in
    ap₂ eqb (past (get_or c.args.bits.now (m / 64) 0)) (past (get_or c.args.q_bits.now (m / 64) 0))
    ∙ below_last c.args.len m c.args.bits.now c.args.q_bits.now c.requires h (omega arith)
    (λ i. omega (arith, c.type_inv.bits i)) (λ i. omega (arith, c.type_inv.q_bits i)) (same_front (m / 64) _ _ t)

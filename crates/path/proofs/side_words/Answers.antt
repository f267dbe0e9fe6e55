use Rattle.std.proofs.Common.{◌≡◌, ℕ, ◌*◌, ◌-◌, ◌/◌, ◌%◌, ◌^◌, ◌<◌, ◌≤◌, List, length, get_or, sym, ap, ◌∙◌, subst, arith}
use Rattle.std.proofs.lemmas.Nat.{mod_below}
use Rattle.std.proofs.lemmas.List.{get_or_past}
use Rattle.model.specs.Records.{side}
use Rattle.path.specs.Packs.{path_in, word_bits}
use Rattle.path.proofs.Same.{side_is}
use Rattle.path.proofs.Words.{length_path, get_or_path, get_or_word_bits}
use Rattle.path.proofs.side_words.Goals as goal

pub returns-then-q_len-len : goal.returns-then-q_len-len
returns-then-q_len-len c = λ k q e.
    let p = path_in c.args.len c.args.bits.now in
    let a = length_path c.args.len c.args.bits.now k in
    sym (side_is p q ∙ get_or_past p (length q) 0 (omega arith))

pub returns-then-q_len-bits : goal.returns-then-q_len-bits
returns-then-q_len-bits c = λ k q e. absurd (omega arith)

-- the next bit
next : (n i : ℕ) (ws q : List ℕ) (x : ℕ) → i < n → n ≤ 64 * length ws → length q ≡ i → x ≡ get_or (word_bits ws) i 0 → (side (path_in n ws) q ≡ x) × (x < 2)
next n i ws q x h k e t = (
  side_is (path_in n ws) q ∙ ap (λ (j : ℕ). get_or (path_in n ws) j 0) e ∙ get_or_path n ws i h ∙ sym t,
  subst (λ (y : ℕ). y < 2) (sym (t ∙ get_or_word_bits ws i (omega arith))) (mod_below (get_or ws (i / 64) 0 / 2 ^ (63 - i % 64)) 2 (omega arith)),
)

pub returns-in-0 : goal.returns-in-0
returns-in-0 c = λ k q e. sym ((next c.args.len c.args.q_len c.args.bits.now q c.bit_of.result c.if-q_len-len.false k e c.bit_of.ensures).0 ∙ c.in-0.is)

pub returns-in_default : goal.returns-in_default
returns-in_default c = λ k q e.
    let s = next c.args.len c.args.q_len c.args.bits.now q c.bit_of.result c.if-q_len-len.false k e c.bit_of.ensures in
    let one : c.bit_of.result ≡ 1 = omega (arith, s.1) in
    sym (s.0 ∙ one)

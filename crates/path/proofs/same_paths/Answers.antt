use Rattle.std.proofs.Common.{ℕ, sym, ap, ◌∙◌, subst, arith}
use Rattle.std.proofs.lemmas.Bool.{ne_eqb}
use Rattle.model.specs.Records.{same_bytes}
use Rattle.path.specs.Packs.{path_in, Packs}
use Rattle.path.proofs.Less.{same_packed}
use Rattle.path.proofs.Same.{same_length}
use Rattle.path.proofs.Words.{length_path}
use Rattle.path.proofs.same_paths.Goals as goal

pub returns-else-len-q_len : goal.returns-else-len-q_len
returns-else-len-q_len c = λ p q.
    let x = length_path c.args.len c.args.bits.now p.0 in
    let y = length_path c.args.q_len c.args.q_bits.now q.0 in
    ne_eqb c.args.len c.args.q_len c.if-len-q_len.false ∙ sym (same_length (path_in c.args.len c.args.bits.now) (path_in c.args.q_len c.args.q_bits.now) (λ e. c.if-len-q_len.false (omega arith)))

pub returns-then-len-q_len : goal.returns-then-len-q_len
returns-then-len-q_len c = λ p q.
    let ws = c.args.bits.now in
    let vs = c.args.q_bits.now in
    c.same_words.ensures
    ∙ (same_packed c.args.len ws vs c.requires p (subst (λ (n : ℕ). Packs n vs) (sym c.if-len-q_len.true) q) (λ i. omega (arith, c.type_inv.bits i)) (λ i. omega (arith, c.type_inv.q_bits i))
    ∙ ap (λ (n : ℕ). same_bytes (path_in c.args.len ws) (path_in n vs)) c.if-len-q_len.true)

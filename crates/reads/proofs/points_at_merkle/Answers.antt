use Rattle.std.proofs.Common.{sym, ◌∙◌, arith}
use Rattle.reads.proofs.Read.{merkle_none, merkle_away, merkle_found}
use Rattle.reads.proofs.points_at_merkle.Goals as goal

pub returns-then-s-eq0 : goal.returns-then-s-eq0
returns-then-s-eq0 c = λ ss H k. sym (merkle_none ss c.args.s.now c.if-s-eq0.true)

pub returns-in_default : goal.returns-in_default
returns-in_default c = λ ss H k. sym (merkle_away ss c.args.s.now c.if-s-eq0.false ((c.in_default.ensures.found k ss H).none (omega arith)))

pub returns : goal.returns
returns c = λ ss H k. c.is_by_merkle.ensures ∙ sym (merkle_found ss c.args.s.now _ c.if-s-eq0.false ((c.in-Some.ensures.found k ss H).some c.in-Some.ensures.within))

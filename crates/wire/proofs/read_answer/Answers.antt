use Rattle.std.proofs.Common.{ap, ◌∙◌, arith, rules}
use Rattle.model.specs.Wire.{alone}
use Rattle.wire.specs.Meaning.{answer_of}
use Rattle.wire_laws.proofs.Parts.{alone_stop, alone_more, alone_all}
use Rattle.wire.proofs.read_answer.Goals as goal

pub returns-in_err-answer : goal.returns-in_err-answer
returns-in_err-answer c = rw c.from_residual.ensures (ap alone c.in_err-answer.ensures ∙ alone_stop c.answer.new.reader.rest.now)

pub returns-then-not-is_empty : goal.returns-then-not-is_empty
returns-then-not-is_empty c = ap alone c.in_ok-answer.ensures ∙ alone_more (answer_of c.in_ok-answer.answer) c.answer.new.reader.rest.now (search (arith, rules))

pub returns : goal.returns
returns c = ap alone c.in_ok-answer.ensures ∙ alone_all (answer_of c.in_ok-answer.answer) c.answer.new.reader.rest.now (search (arith, rules))

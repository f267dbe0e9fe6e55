use Rattle.wire_laws.proofs.Answers.{answers_read_back}
use Rattle.wire_laws.proofs.answers_read_back.Goals as goal

pub returns : goal.returns
returns c = answers_read_back

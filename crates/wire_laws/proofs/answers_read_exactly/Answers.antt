use Rattle.wire_laws.proofs.Answers.{answers_read_exactly}
use Rattle.wire_laws.proofs.answers_read_exactly.Goals as goal

pub returns : goal.returns
returns c = answers_read_exactly

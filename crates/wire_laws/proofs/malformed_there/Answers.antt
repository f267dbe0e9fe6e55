use Rattle.wire_laws.proofs.Events.{malformed_there}
use Rattle.wire_laws.proofs.malformed_there.Goals as goal

pub returns : goal.returns
returns c = malformed_there

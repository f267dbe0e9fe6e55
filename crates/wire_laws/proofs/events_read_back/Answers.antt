use Rattle.wire_laws.proofs.Events.{events_read_back}
use Rattle.wire_laws.proofs.events_read_back.Goals as goal

pub returns : goal.returns
returns c = events_read_back

use Rattle.wire_laws.proofs.Events.{events_read_exactly}
use Rattle.wire_laws.proofs.events_read_exactly.Goals as goal

pub returns : goal.returns
returns c = events_read_exactly

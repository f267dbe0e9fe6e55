use Rattle.wire_laws.proofs.Longest.{first_bytes_tell}
use Rattle.wire_laws.proofs.first_bytes_tell.Goals as goal

pub returns : goal.returns
returns c = first_bytes_tell

-- What an AddBlum found.
use Rattle.std.specs.Prelude.{◌≡◌, true, false, Ok, Err, Result}
use Rattle.model.specs.Records.{Record}
use Rattle.model.specs.Verifier as model
use Rattle.model.specs.Verifier.{Verifier, can_add_blum, just_after}
use Rattle.path.specs.declared.times.Timestamp.{Timestamp}
use Rattle.path.specs.Times.{timestamp_of}
use Rattle.conditions.specs.declared.parts.Failure.{Failure}

-- it can't be done; or it can, and this is the timestamp just after
abbrev pub MayAdd : Verifier → Record → model.Timestamp → Result Timestamp Failure → Type 0
MayAdd v x m (Err f) = can_add_blum v x m ≡ false
MayAdd v x m (Ok a) = (can_add_blum v x m ≡ true) × (timestamp_of a ≡ just_after m)

-- A timestamp of the code as one of the definitions.
use Rattle.model.specs.Verifier as model
use Rattle.path.specs.declared.times.Timestamp.{Timestamp}

abbrev pub timestamp_of : Timestamp → model.Timestamp
timestamp_of t = record { epoch = t.epoch; counter = t.counter }

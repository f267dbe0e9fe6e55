use Rattle.std.proofs.Common.{◌≡◌, ◌+◌, ◌*◌, take}
use Rattle.std.specs.List.{flat_map}
use Rattle.model.specs.Records.{le_bytes}
use Rattle.writer.specs.Written.{Written}
use Rattle.writer.proofs.Writer.numbers.Given as goal

abbrev pub invariant-loop-n : goal.invariant-loop-n
invariant-loop-n l = record {
  end : l.self.at ≡ l.initial.self.at + 8 * l.n-index;
  wrote : Written l.initial.self (flat_map (le_bytes 8) (take l.n-index l.ns)) l.self;
}

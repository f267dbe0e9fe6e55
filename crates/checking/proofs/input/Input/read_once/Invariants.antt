use Rattle.std.proofs.Common.{◌≡◌, take}
use Rattle.checking.proofs.input.Input.read_once.Given as goal

abbrev pub invariant-loop : goal.invariant-loop
invariant-loop g l = record {
  same_start : l.self.at ≡ l.initial.self.at;
  same_end : l.self.end ≡ l.initial.self.end;
  bytes : take l.self.end l.self.buf.items ≡ take l.self.end l.initial.self.buf.items;
}

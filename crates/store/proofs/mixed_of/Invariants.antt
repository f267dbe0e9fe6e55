use Rattle.std.proofs.Common.{◌≡◌, drop}
use lib.Bits.{bit_or, bit_xor}
use Rattle.store.specs.Holding.{mixed}
use Rattle.store.proofs.mixed_of.Given as goal

abbrev pub invariant-loop-w : goal.invariant-loop-w
invariant-loop-w l = mixed (bit_or l.salt 1) l.mixed (drop l.w-index l.bits) ≡ mixed (bit_or l.salt 1) (bit_xor l.salt l.len) l.bits

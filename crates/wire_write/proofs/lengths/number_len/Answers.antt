use Rattle.std.proofs.Common.{arith, rules}
use Rattle.std.proofs.lemmas.Bool.{lt-ltb}
use Rattle.wire_write.specs.Lengths.{number_len}
use Rattle.wire_write.proofs.lengths.number_len.Goals as goal

pub returns : goal.returns
unfolding number_len
returns c = record { value = rw (lt-ltb c.args.n 18446744073709551616 (omega arith)); most = search rules }

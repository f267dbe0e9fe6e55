use Rattle.std.proofs.Common.{◌≡◌, ◌+◌, get_or, Some, ap, arith}
use Rattle.std.proofs.lemmas.Bool.{lt-ltb}
use Rattle.model.specs.Monitor.{modulus}
use Rattle.reader.specs.Meaning.{hash_number}
use Rattle.wire_write.specs.Lengths.{hash_len}
use Rattle.wire_write.proofs.Measured.{number_tells, hash_fits}
use Rattle.wire_write.proofs.lengths.hash_len.Goals as goal

pub returns : goal.returns
unfolding hash_len
returns c =
    let a = number_tells (get_or c.args.hash 0 0) c.number_len.result c.number_len.ensures.value in
    let b = number_tells (get_or c.args.hash 1 0) c.number_len-2.result c.number_len-2.ensures.value in
    let d = number_tells (get_or c.args.hash 2 0) c.number_len-3.result c.number_len-3.ensures.value in
    let e = number_tells (get_or c.args.hash 3 0) c.number_len-4.result c.number_len-4.ensures.value in
    let sum : c.number_len.result + c.number_len-2.result + c.number_len-3.result + c.number_len-4.result ≡ 32 = omega arith in
    record { value = rw (lt-ltb (hash_number c.args.hash) modulus (hash_fits c.args.hash (omega arith) a.0 b.0 d.0 e.0)) (ap Some sum); most = omega arith }

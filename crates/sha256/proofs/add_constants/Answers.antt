use Rattle.std.proofs.Common.{arith}
use Rattle.sha256.specs.Parts.{round_constants}
use Rattle.sha256.proofs.Lanes.{add_sixteen_is}
use Rattle.sha256.proofs.add_constants.Goals as goal

pub returns : goal.returns
returns c =
    add_sixteen_is c.args.t round_constants c.args.w.a c.args.w.b c.args.w.c c.args.w.d
    c.add_four.result c.add_four-2.result c.add_four-3.result c.add_four-4.result (omega arith) (omega arith) (omega arith)
    c.add_four.ensures c.add_four-2.ensures c.add_four-3.ensures c.add_four-4.ensures

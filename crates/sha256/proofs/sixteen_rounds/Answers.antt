use Rattle.sha256.specs.View.{state_of}
use Rattle.sha256.proofs.Rounds.{sixteen_rounds}
use Rattle.sha256.proofs.sixteen_rounds.Goals as goal

pub returns : goal.returns
returns c =
    let sums = c.args.sums.now in
    sixteen_rounds (state_of c.args.s) (state_of c.four_rounds-s.result) (state_of c.four_rounds-s-2.result) (state_of c.four_rounds-s-3.result) (state_of c.four_rounds.result)
    sums.a sums.b sums.c sums.d c.four_rounds-s.ensures c.four_rounds-s-2.ensures c.four_rounds-s-3.ensures c.four_rounds.ensures

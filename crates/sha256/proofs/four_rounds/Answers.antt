use Rattle.sha256.specs.View.{state_of}
use Rattle.sha256.proofs.Rounds.{four_rounds}
use Rattle.sha256.proofs.four_rounds.Goals as goal

pub returns : goal.returns
returns c =
    four_rounds (state_of c.args.s) (state_of c.round_on-s.result) (state_of c.round_on-s-2.result) (state_of c.round_on-s-3.result) (state_of c.round_on.result)
    c.args.sums.now c.told-sums c.round_on-s.ensures c.round_on-s-2.ensures c.round_on-s-3.ensures c.round_on.ensures

use Rattle.std.proofs.Common.{[], rules}
use Rattle.store.proofs.Lent.{lent_holds}
use Rattle.store_bench.proofs.store_open.Goals as goal

pub returns : goal.returns
returns c = λ salt.
    lent_holds c.args.n salt _ c.«open».new.self.words.now [] (search rules) (rw (c.«open».ensures.frame.0, c.new.ensures.places) at (c.«open».ensures.none salt))

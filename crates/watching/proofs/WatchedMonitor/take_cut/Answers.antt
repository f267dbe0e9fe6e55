use Rattle.std.proofs.Common.{refl}
use Rattle.watching.proofs.WatchedMonitor.take_cut.Goals as goal

pub returns : goal.returns
returns c = record { same = refl; answers = λ l es good kept. c.take_cut.ensures l es c.args.self.now.memory.items good kept }

use Rattle.std.proofs.Common.{◌≡◌, rules, arith}
use Rattle.memory.specs.Keeping.{Laid}
use Rattle.epochs.specs.Summing.{summed, Sums}
use Rattle.epochs.proofs.Summed.{offset, summed_laid, sums_kept}
use Rattle.epochs.proofs.summing.add.Goals as goal
use Rattle.epochs.proofs.summing.add.Goals.{in-Added, in-Evicted}

pub returns : goal.returns
returns c =
    let x = c.args.memory.now.limits in
    let m = c.args.memory.now.words.now in
    let hash = c.args.hash.now in
    let o : c.match-sum.offset ≡ offset c.args.sum = elim c.match-sum.branch [ in-Added w ↦ rw w.in-Added.is w.offset-is | in-Evicted w ↦ rw w.in-Evicted.is w.offset-is ] in
    let h : Sums Laid (summed c.args.sum) x c.args.epoch hash m _ =
    summed_laid c.args.sum x m c.add.new.sum hash c.args.epoch _ _ (omega (arith, o, c.sum_start.ensures.start)) (omega arith) (omega arith) c.add.ensures in
    record { same = search rules; limits = search rules; laid = h; kept = sums_kept (summed c.args.sum) x c.args.epoch hash m _ h }

use Rattle.std.proofs.Common.{ℕ, List, set, sym, subst, arith}
use Rattle.path.specs.Times.{timestamp_of}
use Rattle.path.specs.Packs.{path_in}
use Rattle.slot.specs.Parts.{put}
use Rattle.block.specs.Blocks.{Keeps, with_clock}
use Rattle.block.proofs.Written.{clock_written}
use Rattle.block.proofs.writes.set_clock.Goals as goal

pub returns : goal.returns
returns c = λ n v k.
    let m = c.args.timestamp in
    let p = c.args.last.now in
    subst (λ (w : List ℕ). Keeps n (put 3 4 (set (set (set c.args.block.now 0 m.epoch) 1 m.counter) 2 p.len) w) (with_clock v (timestamp_of m) (path_in p.len p.bits)))
    (sym c.copy_from_slice.ensures.after) (clock_written n c.args.block.now v m.epoch m.counter p.len p.bits k (omega arith) p.ok)

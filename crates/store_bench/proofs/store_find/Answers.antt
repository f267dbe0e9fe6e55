use Rattle.store_bench.proofs.Slots.{found_or}
use Rattle.store_bench.proofs.store_find.Goals as goal

pub returns : goal.returns
returns c = λ p xs H. found_or c.args.n c.args.mem.now xs _ c.find_words.result _ c.unwrap_or.ensures (c.find_words.ensures.found p xs H)

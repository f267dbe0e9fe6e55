use Rattle.std.proofs.Common.{rules}
use Rattle.store.proofs.Lent.{lent_holds}
use Rattle.store_bench.proofs.store_remove.Goals as goal

pub returns : goal.returns
returns c = λ xs k ws H W.
    lent_holds c.args.n c.args.salt _ c.remove.new.self.words.now _ (search rules) ((rw (c.new.ensures.words, c.new.ensures.places, c.new.ensures.salt) at c.remove.ensures.without) xs k ws H W)

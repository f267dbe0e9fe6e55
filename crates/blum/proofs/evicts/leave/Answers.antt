use Rattle.model.specs.Verifier.{without, with_store}
use Rattle.path.specs.Packs.{path_in}
use Rattle.blum.proofs.evicts.leave.Goals as goal

pub returns : goal.returns
returns c = λ v k w. c.set_clock.ensures c.args.n (with_store v (without (path_in c.args.path.now.len c.args.path.now.bits) v.store)) (c.take_out.ensures.without v _ _ k w)

use Rattle.std.proofs.Common.{true, false, refl}
use Rattle.std.proofs.lemmas.Bool.{both_ways}
use Rattle.model.specs.Verifier.{find, verifier_step}
use Rattle.path.specs.Packs.{path_in}
use Rattle.path.specs.Times.{timestamp_of}
use Rattle.store.specs.Holding.{stored_at}
use Rattle.block.specs.Blocks.{store_in}
use Rattle.blum.proofs.Stepped.{evict_fails, evicts, wrong}
use Rattle.blum.proofs.evicts.evict_blum.Goals as goal

pub returns-in_err-i : goal.returns-in_err-i
unfolding verifier_step
returns-in_err-i c = record {
  same = λ _. refl;
  step = λ v k.
      let p = path_in c.args.path.now.len c.args.path.now.bits in
      let m = timestamp_of c.args.timestamp in
      wrong c.args.n _ _ _ m _ c.from_residual.ensures.0 (evict_fails v p m false c.args.verifier (find p v.store) (c.in_err-i.ensures.may v k));
}

pub returns : goal.returns
unfolding verifier_step
returns c = record {
  same = λ e. absurd (both_ways true e refl);
  step = λ v k.
      let p = path_in c.args.path.now.len c.args.path.now.bits in
      let m = timestamp_of c.args.timestamp in
      let a = c.in_ok-i.ensures.may v k in
      record {
        left = _;
        element = _;
        step = evicts v p m false c.args.verifier (stored_at c.args.n (store_in c.args.n c.args.block.now) c.in_ok-i.i) (find p v.store) a.some a.can;
        keeps = c.leave.ensures v k (record { walked = c.in_ok-i.ensures.led });
        when = refl;
        hash = rw (c.store.ensures.words, c.store.ensures.places) at c.element_hash_of-hash.ensures a.slot;
      };
}

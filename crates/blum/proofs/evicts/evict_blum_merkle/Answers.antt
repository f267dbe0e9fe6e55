use Rattle.std.proofs.Common.{true, refl, ◌∙◌}
use Rattle.model.specs.Records.{Record, node, with_child, children_of, present}
use Rattle.model.specs.Verifier.{Stored, Verifier, find, updated, with_store}
use Rattle.path.specs.Packs.{path_in}
use Rattle.path.specs.Sides.{side_number}
use Rattle.path.specs.Times.{timestamp_of}
use Rattle.store.specs.Holding.{stored_at}
use Rattle.block.specs.Blocks.{store_in}
use Rattle.block.proofs.Framed.{viewed}
use Rattle.blum.proofs.Stepped.{evicts, wrong}
use Rattle.blum.proofs.Marked.{cannot_leave, can_same}
use Rattle.blum.proofs.evicts.evict_blum_merkle.Goals as goal
use Rattle.slot.specs.Layout.{number_in}

pub returns-in_err-i-clause-step : goal.returns-in_err-i-clause-step
returns-in_err-i-clause-step c = λ v k.
    let p = path_in c.args.path.now.len c.args.path.now.bits in
    let q = path_in c.args.above.now.len c.args.above.now.bits in
    let m = timestamp_of c.args.timestamp in
    wrong c.args.n _ _ _ m _ c.from_residual.ensures.0 (cannot_leave c.args.verifier v p q m (c.in_err-i.ensures.may v k))

pub returns-clause-step : goal.returns-clause-step
returns-clause-step c = λ v k.
    let n = c.args.n in
    let b = c.args.block.now in
    let t = c.args.verifier in
    let p = path_in c.args.path.now.len c.args.path.now.bits in
    let q = path_in c.args.above.now.len c.args.above.now.bits in
    let m = timestamp_of c.args.timestamp in
    let l = c.in_ok-link.link in
    let E = c.store.ensures in
    let x : Stored = stored_at n (store_in n b) c.in_ok-i.i in
    let r : Record = node q (with_child (children_of (stored_at n (store_in n b) l.above).rec) (side_number l.side) (present p (number_in l.hash) true)) in
    let w : Verifier = with_store v (updated r v.store) in
    let a = c.in_ok-i.ensures.may v k in
    let s = rw (E.places, E.words) at (c.in_ok-link.ensures.linked v (viewed n b v c.store.result E k)) in
    let led = rw (E.places, E.salt, E.words) at c.in_ok-link.ensures.led in
    record {
      left = _;
      element = _;
      step = s.step t m ∙ evicts w p m true t x (find p v.store) a.some (can_same v p m true r x ∙ a.can);
      keeps = c.leave.ensures w (c.mark.ensures.marked v _ _ k (record { walked = led }) s.is_node) (c.mark.ensures.stay _ _ _ (record { walked = c.in_ok-i.ensures.led }));
      when = refl;
      hash = rw (c.store-2.ensures.words, c.store-2.ensures.places) at c.element_hash_of-hash.ensures a.slot;
    }

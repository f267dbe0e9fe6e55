use Rattle.std.proofs.Common.{ℕ, false, subst}
use Rattle.model.specs.Records.{node, with_child, present, children_of}
use Rattle.model.specs.Verifier.{without, updated}
use Rattle.path.specs.Packs.{path_in}
use Rattle.path.specs.Sides.{side_number}
use Rattle.store.specs.Holding.{stored_at, Holds}
use Rattle.changes.proofs.evict_merkle.Goals as goal

pub returns-clause-evicted : goal.returns-clause-evicted
returns-clause-evicted c = λ xs l us H s Wp Wq nk.
    let n = c.args.store.now.places in
    let salt = c.args.store.now.salt in
    let m = c.args.store.now.words.now in
    let p = path_in c.args.path.now.len c.args.path.now.bits in
    let above = (stored_at n m c.args.edge.above).rec in
    let F = c.set_child.ensures.frame in
    let hash = rw (c.as_ref.ensures.words, c.as_ref.ensures.places) at c.merkle_hash_of-hash.ensures in
    let out = rw (F.0, F.1) at c.remove.ensures.without in
    subst (λ (h : ℕ). Holds n salt c.remove.new.self.words.now (without p (updated (node (path_in l us) (with_child (children_of above) (side_number c.args.edge.side) (present p h false))) xs))) (hash s)
    (out _ _ _ (c.set_child.ensures.stored salt xs l us H Wq nk) (c.set_child.ensures.stay salt _ _ _ Wp))

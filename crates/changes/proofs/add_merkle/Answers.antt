use Rattle.std.proofs.Common.{ℕ, ◌<◌, true, false, List, sym, subst, arith}
use Rattle.model.specs.Records.{Record, node, with_child, children_of, present}
use Rattle.model.specs.Verifier.{Stored}
use Rattle.path.specs.Packs.{path_in}
use Rattle.path.specs.Sides.{side_number}
use Rattle.store.specs.Holding.{stored_at, Added}
use Rattle.conditions.specs.Ways.{after_link}
use Rattle.changes.proofs.Linked.{length_link, room_found, own_after}
use Rattle.changes.proofs.add_merkle.Goals as goal

pub returns-in-Some-clause-added : goal.returns-in-Some-clause-added
returns-in-Some-clause-added c = λ xs l us H room named W nk own.
    let n = c.args.store.now.places in
    let salt = c.args.store.now.salt in
    let p = path_in c.args.path.now.len c.args.path.now.bits in
    let a = c.args.adding.now in
    let above : Record = node (path_in l us) (with_child (children_of (stored_at n c.args.store.now.words.now a.above).rec) (side_number a.side) (present p 0 false)) in
    let ys : List Stored = after_link a.way above xs in
    let L = c.link.ensures.linked xs l us H W nk in
    let F = c.link.ensures.frame in
    let G = c.in-Some.ensures.frame in
    let stored = rw (F.0, F.1) at c.in-Some.ensures.stored in
    let kept = rw (G.0, G.1, F.0, F.1) at c.keep_hash.ensures.kept in
    kept ys _
    (subst (λ (r : Record). Added n salt c.add.new.self.words.now ys (record { rec = r; by_merkle = true }) c.in-Some.i) c.with_next.ensures.after (stored ys L (c.with_next.ensures.named named)))
    (own_after c.args.adding.now.way c.args.path.now c.args.contents own)

-- there was room
pub returns-in_default-clause-added : goal.returns-in_default-clause-added
returns-in_default-clause-added c = λ xs l us H room named W nk own.
    let n = c.args.store.now.places in
    let F = c.link.ensures.frame in
    let full = rw (F.0, F.1) at c.in_default.ensures.full in
    let found = room_found n n _ (full _ (c.link.ensures.linked xs l us H W nk)) (subst (λ (k : ℕ). k < n) (sym (length_link c.args.adding.now.way _ xs)) room) in
    absurd (omega arith)

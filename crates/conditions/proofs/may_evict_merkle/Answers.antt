use Rattle.std.proofs.Common.{sym, arith}
use Rattle.std.proofs.lemmas.Bool.{not-true}
use Rattle.conditions.proofs.Evicted.{no_record, no_above, not_below, not_node, child_stored, pointer_differs, evicts}
use Rattle.conditions.proofs.may_evict_merkle.Goals as goal

pub returns-in_default-clause-may : goal.returns-in_default-clause-may
returns-in_default-clause-may c = λ t v H. no_record t v _ _ ((c.in_default.ensures.found v.store H).none (omega arith))

pub returns-in_default-find-clause-may : goal.returns-in_default-find-clause-may
returns-in_default-find-clause-may c = λ t v H. no_above t v _ _ ((c.in_default-find.ensures.found v.store H).none (omega arith))

pub returns-then-not-is_node-clause-may : goal.returns-then-not-is_node-clause-may
returns-then-not-is_node-clause-may c = λ t v H.
    let fp = c.in-Some.ensures.found v.store H in
    let fq = c.in-Some-find.ensures.found v.store H in
    not_node t v _ _ _ _ (fp.some c.in-Some.ensures.within) (fq.some c.in-Some-find.ensures.within) c.if-not-is_node.ensures

pub returns-then-not-is_below-clause-may : goal.returns-then-not-is_below-clause-may
returns-then-not-is_below-clause-may c = λ t v H.
    let fp = c.in-Some.ensures.found v.store H in
    let fq = c.in-Some-find.ensures.found v.store H in
    not_below t v _ _ _ _ (fp.some c.in-Some.ensures.within) (fq.some c.in-Some-find.ensures.within) c.if-not-is_below.ensures

pub returns-then-not-points_at-clause-may : goal.returns-then-not-points_at-clause-may
returns-then-not-points_at-clause-may c = λ t v H.
    let fp = c.in-Some.ensures.found v.store H in
    let fq = c.in-Some-find.ensures.found v.store H in
    pointer_differs t v _ _ _ _ (fp.some c.in-Some.ensures.within) (fq.some c.in-Some-find.ensures.within) _ c.side_of-side.ensures
    (c.if-not-points_at.ensures (fq.slot c.in-Some-find.ensures.within) (not-true _ (sym c.if-not-is_node.ensures)))

pub returns-then-has_merkle_child-clause-may : goal.returns-then-has_merkle_child-clause-may
returns-then-has_merkle_child-clause-may c = λ t v H.
    let fp = c.in-Some.ensures.found v.store H in
    let fq = c.in-Some-find.ensures.found v.store H in
    child_stored t v _ _ _ _ (fp.some c.in-Some.ensures.within) (fq.some c.in-Some-find.ensures.within)
    (c.if-has_merkle_child.ensures v.store H (fp.slot c.in-Some.ensures.within))

pub returns-clause-may : goal.returns-clause-may
returns-clause-may c = λ t v H.
    let i = c.in-Some.ensures.within in
    let j = c.in-Some-find.ensures.within in
    let fp = c.in-Some.ensures.found v.store H in
    let fq = c.in-Some-find.ensures.found v.store H in
    let nk = not-true _ (sym c.if-not-is_node.ensures) in
    record {
      slot = fp.slot i;
      is_node = nk;
      step =
          evicts t v _ _ _ _ (fp.some i) (fq.some j) c.if-not-is_below.ensures c.if-not-is_node.ensures
          (c.if-has_merkle_child.ensures v.store H (fp.slot i)) _ c.side_of-side.ensures
          (c.if-not-points_at.ensures (fq.slot j) nk);
    }

use Rattle.std.proofs.Common.{sym, ap, ◌∙◌, arith}
use Rattle.std.proofs.lemmas.Bool.{not-true}
use Rattle.model.specs.Records.{Path, Record, below, side}
use Rattle.model.specs.Verifier.{find, add_merkle_at}
use Rattle.path.specs.Packs.{path_in}
use Rattle.store.specs.Stores.{stored_of}
use Rattle.conditions.specs.Ways.{added_by}
use Rattle.store.proofs.Asked.{was_found, not_found}
use Rattle.conditions.proofs.Added.{no_above, above_is_data, not_under, stored_already, by_pointer}
use Rattle.conditions.proofs.may_add_merkle.Goals as goal

pub returns-in_default-clause-may : goal.returns-in_default-clause-may
returns-in_default-clause-may c = λ t v x H w. no_above t v x _ ((c.in_default.ensures.found v.store H).none (omega arith))

pub returns-then-not-is_node-clause-may : goal.returns-then-not-is_node-clause-may
returns-then-not-is_node-clause-may c = λ t v x H w. above_is_data t v x _ _ ((c.in-Some.ensures.found v.store H).some c.in-Some.ensures.within) c.if-not-is_node.ensures

pub returns-then-not-is_below-clause-may : goal.returns-then-not-is_below-clause-may
returns-then-not-is_below-clause-may c = λ t v x H w.
    let q = path_in c.args.parent.now.len c.args.parent.now.bits in
    not_under t v x q _ ((c.in-Some.ensures.found v.store H).some c.in-Some.ensures.within) (c.if-not-is_below.ensures ∙ ap (λ (p : Path). below p q) (sym w.path_is))

pub returns-then-is_some-clause-may : goal.returns-then-is_some-clause-may
returns-then-is_some-clause-may c = λ t v x H w.
    stored_already t v x _ _ ((c.in-Some.ensures.found v.store H).some c.in-Some.ensures.within) _
    (ap (λ (p : Path). find p v.store) w.path_is ∙ was_found _ _ v.store _ c.find-2.result c.if-is_some.ensures c.find-2.ensures.within (c.find-2.ensures.found v.store H))

pub returns-in_default-way_of-clause-may : goal.returns-in_default-way_of-clause-may
returns-in_default-way_of-clause-may c = λ t v x H w.
    let q = path_in c.args.parent.now.len c.args.parent.now.bits in
    let i = c.in-Some.ensures.within in
    let fq = c.in-Some.ensures.found v.store H in
    let nk = not-true _ (sym c.if-not-is_node.ensures) in
    let child = c.child_at-child.ensures (fq.slot i) nk in
    by_pointer t v x q _ (fq.some i) (c.if-not-is_below.ensures ∙ ap (λ (p : Path). below p q) (sym w.path_is)) c.if-not-is_node.ensures
    (ap (λ (p : Path). find p v.store) w.path_is ∙ not_found _ _ v.store _ c.find-2.result c.if-is_some.ensures (c.find-2.ensures.found v.store H)) _ (c.side_of-side.ensures ∙ ap (λ (p : Path). side p q) (sym w.path_is))
    ∙ ap (add_merkle_at v x q _) (sym child)
    ∙ c.in_default-way_of.ensures v x q _ w

pub returns-clause-may : goal.returns-clause-may
returns-clause-may c = λ t v x H w.
    let q = path_in c.args.parent.now.len c.args.parent.now.bits in
    let i = c.in-Some.ensures.within in
    let fq = c.in-Some.ensures.found v.store H in
    let nk = not-true _ (sym c.if-not-is_node.ensures) in
    let above : Record = (stored_of c.args.store c.in-Some.above).rec in
    let child = c.child_at-child.ensures (fq.slot i) nk in
    let d = c.side_of-side.ensures ∙ ap (λ (p : Path). side p q) (sym w.path_is) in
    let come = c.in-Some-way_of.ensures v x q above w in
    record {
      is_node = nk;
      step =
          by_pointer t v x q _ (fq.some i) (c.if-not-is_below.ensures ∙ ap (λ (p : Path). below p q) (sym w.path_is)) c.if-not-is_node.ensures
          (ap (λ (p : Path). find p v.store) w.path_is ∙ not_found _ _ v.store _ c.find-2.result c.if-is_some.ensures (c.find-2.ensures.found v.store H)) _ d
          ∙ ap (add_merkle_at v x q above) (sym child)
          ∙ come.step
          ∙ ap (added_by c.in-Some-way_of.way v x q above) (sym d);
      own = come.own;
      over = come.over;
    }

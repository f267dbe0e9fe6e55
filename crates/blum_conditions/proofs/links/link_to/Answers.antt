use Rattle.std.proofs.Common.{sym, refl, arith}
use Rattle.std.proofs.lemmas.Bool.{not-true}
use Rattle.blum_conditions.proofs.Linked.{no_above, above_is_data, not_below, points_nowhere, points_elsewhere, by_blum, links}
use Rattle.blum_conditions.proofs.links.link_to.Goals as goal

pub returns-in_default : goal.returns-in_default
returns-in_default c = record { within = tt; led = tt; linked = λ v H t m. no_above t v _ _ m ((c.in_default.ensures.found v.store H).none (omega arith)) }

pub returns-then-not-is_node : goal.returns-then-not-is_node
returns-then-not-is_node c = record {
  within = tt;
  led = tt;
  linked = λ v H t m. above_is_data t v _ _ m _ ((c.in-Some.ensures.found v.store H).some c.in-Some.ensures.within) c.if-not-is_node.ensures;
}

pub returns-then-not-is_below : goal.returns-then-not-is_below
returns-then-not-is_below c = record {
  within = tt;
  led = tt;
  linked = λ v H t m. not_below t v _ _ m _ ((c.in-Some.ensures.found v.store H).some c.in-Some.ensures.within) c.if-not-is_below.ensures;
}

pub returns-in_default-child_at : goal.returns-in_default-child_at
returns-in_default-child_at c = record {
  within = tt;
  led = tt;
  linked = λ v H t m.
      let f = c.in-Some.ensures.found v.store H in
      let nk = not-true _ (sym c.if-not-is_node.ensures) in
      points_nowhere t v _ _ m _ (f.some c.in-Some.ensures.within) _ c.side_of-side.ensures _ (c.in_default-child_at.ensures (f.slot c.in-Some.ensures.within) nk) refl;
}

pub returns-then-not-is_same : goal.returns-then-not-is_same
returns-then-not-is_same c = record {
  within = tt;
  led = tt;
  linked = λ v H t m.
      let f = c.in-Some.ensures.found v.store H in
      let nk = not-true _ (sym c.if-not-is_node.ensures) in
      points_elsewhere t v _ _ m _ (f.some c.in-Some.ensures.within) _ c.side_of-side.ensures _ (c.in-Present.ensures (f.slot c.in-Some.ensures.within) nk) _ _ _ refl c.if-not-is_same.ensures;
}

pub returns-then-by_blum : goal.returns-then-by_blum
returns-then-by_blum c = record {
  within = tt;
  led = tt;
  linked = λ v H t m.
      let f = c.in-Some.ensures.found v.store H in
      let nk = not-true _ (sym c.if-not-is_node.ensures) in
      by_blum t v _ _ m _ (f.some c.in-Some.ensures.within) _ c.side_of-side.ensures _ (c.in-Present.ensures (f.slot c.in-Some.ensures.within) nk) _ _ _ refl c.if-by_blum.true;
}

pub returns : goal.returns
returns c = record {
  within = c.in-Some.ensures.within;
  led = c.in-Some.ensures.walked;
  linked = λ v H.
      let f = c.in-Some.ensures.found v.store H in
      let nk = not-true _ (sym c.if-not-is_node.ensures) in
      record {
        is_node = nk;
        step = λ t m.
            links t v _ _ m _ (f.some c.in-Some.ensures.within) _ c.side_of-side.ensures _ (c.in-Present.ensures (f.slot c.in-Some.ensures.within) nk) _ _ _ refl
            c.if-not-is_below.ensures c.if-not-is_node.ensures c.if-not-is_same.ensures c.if-by_blum.false;
      };
}

use Rattle.std.proofs.Common.{◌<◌, Bool, not, length, sym, ap, ◌∙◌, ap₂, arith}
use mathlib.Core.Bool.{beq}
use Rattle.model.specs.Records.{Path}
use Rattle.model.specs.Verifier.{Timestamp, earlier_with}
use Rattle.path.specs.Packs.{path_in}
use Rattle.path.specs.Times.{timestamp_of}
use Rattle.path.proofs.Words.{length_path}
use Rattle.block.proofs.Framed.{viewed}
use Rattle.blum_conditions.specs.Evicts.{Evicting}
use Rattle.blum_conditions.proofs.Evicted.{none_there, is_root, not_later, otherwise, child_stored, may}
use Rattle.blum_conditions.proofs.evicts.may_evict_blum.Goals as goal

pub returns-in_default : goal.returns-in_default
returns-in_default c = record {
  within = tt;
  led = tt;
  may = λ v k.
      none_there v _ _ _ ((c.in_default.ensures.found v.store (viewed _ _ v _ c.store-store.ensures k)).none (omega arith));
}

pub returns-then-is_by_merkle-by_merkle : goal.returns-then-is_by_merkle-by_merkle
returns-then-is_by_merkle-by_merkle c = record {
  within = tt;
  led = tt;
  may = λ v k.
      let f = c.in-Some.ensures.found v.store (viewed _ _ v _ c.store-store.ensures k) in
      otherwise v _ _ _ _ (f.some c.in-Some.ensures.within) (ap (λ (b : Bool). not (beq b c.args.by_merkle)) (sym c.is_by_merkle.ensures) ∙ c.if-is_by_merkle-by_merkle.true);
}

pub returns-then-path-eq0 : goal.returns-then-path-eq0
returns-then-path-eq0 c = record {
  within = tt;
  led = tt;
  may = λ v k.
      let p = c.args.path.now in
      let f = c.in-Some.ensures.found v.store (viewed _ _ v _ c.store-store.ensures k) in
      is_root v _ _ _ _ (f.some c.in-Some.ensures.within) (length_path p.len p.bits p.ok.0 ∙ c.if-path-eq0.true);
}

pub returns-then-not-is_earlier_with : goal.returns-then-not-is_earlier_with
returns-then-not-is_earlier_with c = record {
  within = tt;
  led = tt;
  may = λ v k.
      let n = c.args.n in
      let p = path_in c.args.path.now.len c.args.path.now.bits in
      let m = timestamp_of c.args.timestamp in
      let f = c.in-Some.ensures.found v.store (viewed _ _ v _ c.store-store.ensures k) in
      not_later v p m _ _ (f.some c.in-Some.ensures.within)
      (c.if-not-is_earlier_with.ensures ∙ ap₂ (λ (o : Timestamp) (q : Path). earlier_with o q m p) (c.clock.ensures n v k) (c.last_evicted-last.ensures n v k));
}

pub returns-then-has_merkle_child : goal.returns-then-has_merkle_child
returns-then-has_merkle_child c = record {
  within = tt;
  led = tt;
  may = λ v k.
      let H = viewed _ _ v _ c.store-store.ensures k in
      let f = c.in-Some.ensures.found v.store H in
      child_stored v _ _ _ _ (f.some c.in-Some.ensures.within) (c.if-has_merkle_child.ensures v.store H (f.slot c.in-Some.ensures.within));
}

pub returns : goal.returns
returns c = record {
  within = rw c.store-store.ensures.places at c.in-Some.ensures.within;
  led = rw (c.store-store.ensures.places, c.store-store.ensures.salt, c.store-store.ensures.words) at c.in-Some.ensures.walked;
  may = λ v k.
      let n = c.args.n in
      let q = c.args.path.now in
      let p = path_in q.len q.bits in
      let m = timestamp_of c.args.timestamp in
      let H = viewed _ _ v _ c.store-store.ensures k in
      let f = c.in-Some.ensures.found v.store H in
      let len = length_path q.len q.bits q.ok.0 in
      let long : 0 < length p = omega arith in
      let at : Evicting c.store-store.result.places c.store-store.result.words.now v p m c.args.by_merkle c.in-Some.i = record {
        slot = f.slot c.in-Some.ensures.within;
        some = f.some c.in-Some.ensures.within;
        can =
            may v p m c.args.by_merkle _ long
            (c.if-not-is_earlier_with.ensures ∙ ap₂ (λ (o : Timestamp) (r : Path). earlier_with o r m p) (c.clock.ensures n v k) (c.last_evicted-last.ensures n v k))
            (ap (λ (b : Bool). not (beq b c.args.by_merkle)) (sym c.is_by_merkle.ensures) ∙ c.if-is_by_merkle-by_merkle.false)
            (c.if-has_merkle_child.ensures v.store H (f.slot c.in-Some.ensures.within));
      } in
      rw (c.store-store.ensures.places, c.store-store.ensures.words) at at;
}

use mathlib.Core.Path.{refl, sym, subst}
use mathlib.Core.Bool.{Bool, true, false}
use Rattle.model.specs.Monitor.{stop}
use Rattle.wire.specs.declared.parts.Answer.TheVariants.{Wrong, Right, Certified}
use Rattle.memory.specs.Ranges.{Agrees}
use Rattle.memory.specs.declared.limits.Limits as code
use Rattle.std.proofs.Common.{get_or, rules}
use Rattle.finish.specs.Finishing.{Ready, Finished}
use Rattle.finish.proofs.Done.{between, finish_right, finish_certified, finish_wrong}
use Rattle.finish.proofs.finish.Goals as goal

pub returns-then-not-verifies : goal.returns-then-not-verifies
unfolding between
returns-then-not-verifies c = record {
  same = search rules;
  limits = search rules;
  looked = λ h. h;
  finished = λ l s z agrees laid ready.
      let off = c.if-not-verifies.true in
      let r : Ready l s z c.args.effect false = subst (Ready l s z c.args.effect) off ready in
      let k = c.sum.ensures.laid l s (between s z) r.added r.evicted agrees laid r.effect r.added_now r.evicted_now refl r.sums refl refl in
      subst (λ (b : Bool). Finished l c.sum.new.memory.words.now z b Right) (sym off) (finish_right l s z c.args.effect c.sum.new.memory.words.now k r);
}

pub returns-then-settle : goal.returns-then-settle
unfolding between
returns-then-settle c = record {
  same = search rules;
  limits = search rules;
  looked = λ h. h;
  finished = λ l s z agrees laid ready.
      let yes' = c.if-not-verifies.false in
      let r : Ready l s z c.args.effect true = subst (Ready l s z c.args.effect) yes' ready in
      let k = c.sum.ensures.laid l s (between s z) r.added r.evicted agrees laid r.effect r.added_now r.evicted_now refl r.sums refl refl in
      let now : Agrees c.sum.new.memory.limits l = subst (λ (x : code.Limits). Agrees x l) (sym c.sum.ensures.limits) agrees in
      let d = c.if-settle.ensures.settles l (between s z) (stop z) now k r.going (r.next refl) r.verifiers refl r.certifies refl in
      subst (λ (b : Bool). Finished l c.settle.new.memory.words.now z b Wrong) (sym yes') (finish_wrong l s z c.args.effect c.settle.new.memory.words.now d.differ d.kept);
}

pub returns : goal.returns
unfolding between
returns c = record {
  same = search rules;
  limits = search rules;
  looked = λ h. h;
  finished = λ l s z agrees laid ready.
      let yes' = c.if-not-verifies.false in
      let r : Ready l s z c.args.effect true = subst (Ready l s z c.args.effect) yes' ready in
      let k = c.sum.ensures.laid l s (between s z) r.added r.evicted agrees laid r.effect r.added_now r.evicted_now refl r.sums refl refl in
      let now : Agrees c.sum.new.memory.limits l = subst (λ (x : code.Limits). Agrees x l) (sym c.sum.ensures.limits) agrees in
      let d = c.if-settle.ensures.settles l (between s z) z now k r.going (r.next refl) r.verifiers refl r.certifies r.goes_on in
      subst (λ (b : Bool). Finished l c.settle.new.memory.words.now z b (Certified (get_or c.settle.new.memory.words.now 4 0))) (sym yes')
      (finish_certified l s z c.args.effect c.settle.new.memory.words.now (get_or c.settle.new.memory.words.now 4 0) d.differ d.kept.certified d.kept);
}

use Rattle.std.proofs.Common.{refl, subst}
use Rattle.model.specs.Monitor.{Event, malformed, logged, state}
use Rattle.wire.specs.declared.parts.Answer.TheVariants.{Refused}
use Rattle.wire.specs.Meaning.{entry_of}
use Rattle.watch.specs.Promise.{Answers}
use Rattle.watch.proofs.Kept.{malformed_kept, promised}
use Rattle.watch.proofs.take.Goals as goal

pub returns-in_default : goal.returns-in_default
returns-in_default c = record { same = λ _. refl; fit = λ f. f; answers = λ l es g k. absurd (c.in_default.ensures.kept l (state l es) _ g k) }

pub returns-in-Err : goal.returns-in-Err
returns-in-Err c = record {
  same = λ _. refl;
  fit = λ f. f;
  answers = λ l es g k.
      let at = c.in-Err.field-0.at in
      let m = c.args.mem.now in
      rw c.into-in-Err.ensures
      (subst (λ (e : Event). Answers l es e m (Refused 1 at)) c.in-Err.ensures.value
      (promised l es (malformed at) m _ (malformed_kept l m (state l es) at k)));
}

pub returns-in-Ok : goal.returns-in-Ok
returns-in-Ok c = record {
  same = c.logged.ensures.same;
  fit = λ _ i. (c.type_inv.mem i).fits;
  answers = λ l es g k.
      let v = c.in-Ok.field-0.verifier in
      let e = c.in-Ok.field-0.entry in
      subst (λ (h : Event). Answers l es h c.logged.new.mem c.logged.result) c.in-Ok.ensures.value
      (promised l es (logged v (entry_of e)) c.logged.new.mem c.logged.result
      (c.logged.ensures.responds l es g (c.in-Some.ensures.kept l (state l es) _ g k) k c.in-Ok.ensures.parts));
}

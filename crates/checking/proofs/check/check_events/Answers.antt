use Rattle.std.proofs.Common.{List, [], ◌∷◌, Option, refl, ap, ◌∙◌, subst}
use Rattle.summary.specs.declared.Summary.{Summary}
use Rattle.summary.specs.Counted.{counted}
use Rattle.wire.specs.declared.parts.Answer.{Answer}
use Rattle.checking.specs.Checked.{Gives, GivesNext}
use Rattle.checking.proofs.Appended.{appends_none, appends_then, appends_kept, on_ok}
use Rattle.checking.proofs.check.check_events.Goals as goal
use Rattle.checking.proofs.check.check_events.Goals.{else-loop-test, then-loop-test+in_ok-answer+in_default, then-not-options+in_ok-map_err, else-not-options}

pub loop-init : goal.loop-init
loop-init g c = record { given = []; gave = refl; counts = c.new-summary.ensures; written = appends_none (g.W.Write.contents c.args.out.now) c.args.options.quiet }

pub loop-preserved : goal.loop-preserved
loop-preserved g c =
    let given : Gives g.M.Monitor.answers g.M.Monitor.answers_cut c.loop.monitor c.in-Some.answer c.next_answer.new.monitor =
    subst (λ (r : Option Answer). GivesNext g.M.Monitor.answers g.M.Monitor.answers_cut c.loop.monitor r c.next_answer.new.monitor) c.in-Some.is c.in_ok-answer.ensures.gives in
    let v = c.loop.invariant in
    record {
      given = c.in-Some.answer ∷ v.given;
      gave = (c.loop.monitor, (v.gave, given));
      counts = c.count.ensures ∙ ap (λ (s : Summary). counted s c.in-Some.answer) v.counts;
      written = elim c.if-not-options.branch [
        | then-not-options+in_ok-map_err w ↦
            let before = rw w.if-not-options.true at v.written in
            let line = on_ok w.writeln.result _ w.in_ok-map_err.ensures.variant w.writeln.ensures.bytes in
            rw (w.out-is, w.if-not-options.true) (appends_then _ _ _ _ _ before line)
        | else-not-options w ↦
            let before = rw w.if-not-options.false at v.written in
            rw (w.out-is, w.if-not-options.false) before
      ];
    }

pub returns-clause-checks : goal.returns-clause-checks
returns-clause-checks g c =
    let v = c.loop.invariant in
    record {
      given = v.given;
      gave = elim c.loop-test.branch [
        | else-loop-test w ↦ rw w.monitor-is v.gave
        | then-loop-test+in_ok-answer+in_default w ↦
            let stays = subst (λ (r : Option Answer). GivesNext g.M.Monitor.answers g.M.Monitor.answers_cut c.loop.monitor r w.next_answer.new.monitor) w.in_default.is w.in_ok-answer.ensures.gives in
            rw (w.monitor-is, stays) v.gave
      ];
      counts = v.counts;
      written = appends_kept _ _ _ _ v.written c.flush.ensures.bytes;
    }

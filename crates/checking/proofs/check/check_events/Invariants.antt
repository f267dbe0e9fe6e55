use Rattle.checking.specs.Checked.{Checks}
use Rattle.checking.proofs.check.check_events.Given as goal

abbrev pub invariant-loop : goal.invariant-loop
invariant-loop g l = Checks g.M.Monitor.answers g.M.Monitor.answers_cut l.fn.options.quiet l.initial.monitor (g.W.Write.contents l.initial.out) l.summary l.monitor (g.W.Write.contents l.out)

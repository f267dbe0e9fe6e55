use Rattle.std.proofs.Common.{sym, subst}
use Rattle.store.specs.Holding.{Holds}
use Rattle.changes.proofs.Linked.{linked}
use Rattle.changes.proofs.link.Goals as goal
use Rattle.slot.specs.Layout.{number_in}

pub returns-clause-linked : goal.returns-clause-linked
unfolding number_in
returns-clause-linked c = λ xs l us H W nk.
    subst (Holds c.args.store.now.places c.args.store.now.salt c.set_child.new.self.words.now) (sym (linked c.args.adding.now.way _ xs c.in_default.not-Again))
    (c.set_child.ensures.stored c.args.store.now.salt xs l us H W nk)

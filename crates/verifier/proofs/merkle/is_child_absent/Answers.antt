use Rattle.std.proofs.Common.{sym, ap}
use Rattle.model.specs.Records.{is_absent}
use Rattle.slot.specs.Meant.{child_meant}
use Rattle.slot.specs.declared.child.Child.{Child}
use Rattle.verifier.proofs.merkle.is_child_absent.Goals as goal

pub returns-in-Absent : goal.returns-in-Absent
unfolding is_absent
returns-in-Absent c = sym (ap (λ (d : Child). is_absent (child_meant d)) c.in-Absent.is)

pub returns-in_default : goal.returns-in_default
unfolding is_absent
returns-in_default c = sym (ap (λ (d : Child). is_absent (child_meant d)) c.in_default.is)

use Rattle.std.proofs.Common.{◌≡◌, suc, sym, ap, ◌∙◌, subst}
use Rattle.model.specs.Verifier as model
use Rattle.model.specs.Monitor.{epoch_named}
use Rattle.wire.specs.declared.parts.Entry.{Entry}
use Rattle.wire.specs.Meaning.{entry_of}
use Rattle.admission.specs.Stand.{Named}
use Rattle.admission.proofs.Named.{named_next}
use Rattle.admission.proofs.named_epoch.Goals as goal

pub returns-in-NextEpoch : goal.returns-in-NextEpoch
unfolding epoch_named
returns-in-NextEpoch c = λ n v k.
    let e : suc c.clock.result.epoch ≡ epoch_named v (entry_of c.args.entry) = ap (λ (t : model.Timestamp). suc t.epoch) (c.clock.ensures n v k) ∙ sym (ap (λ (x : Entry). epoch_named v (entry_of x)) c.in-NextEpoch.is) in
    subst (Named c.saturating_add.result) e (named_next c.saturating_add.result c.clock.result.epoch c.saturating_add.ensures)

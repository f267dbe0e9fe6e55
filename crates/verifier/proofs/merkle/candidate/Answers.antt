use Rattle.std.proofs.Common.{true, false, sym, ap, ◌∙◌, subst}
use Rattle.model.specs.Records.{merkle_bytes}
use Rattle.slot.specs.Meant.{child_meant, record_meant, IsNamed}
use Rattle.slot.specs.declared.contents.Contents.{Contents}
use Rattle.conditions.specs.Adds.{Told}
use Rattle.verifier.proofs.Told.{told_data, told_node}
use Rattle.verifier.proofs.merkle.candidate.Goals as goal

pub returns-in-Node : goal.returns-in-Node
returns-in-Node c = λ named bytes.
    let p = c.args.path.now in
    subst (λ (k : Contents). Told (record_meant p k) (record { path = p; is_initial = c.are_absent.result; of_node = true; merkle_bytes = c.args.merkle_bytes })) (sym c.in-Node.is)
    (told_node p (record { left = child_meant c.in-Node.left; right = child_meant c.in-Node.right }) c.are_absent.result c.args.merkle_bytes c.are_absent.ensures (bytes ∙ ap (λ (k : Contents). merkle_bytes (record_meant p k)) c.in-Node.is))

pub returns-in-Data : goal.returns-in-Data
returns-in-Data c = λ named bytes.
    let p = c.args.path.now in
    let e = c.in-Data.is in
    subst (λ (k : Contents). Told (record_meant p k) (record { path = p; is_initial = c.is_none.result; of_node = false; merkle_bytes = c.args.merkle_bytes })) (sym e)
    (told_data c.in-Data.field-0.now c.in-Data.value p c.is_none.result c.args.merkle_bytes (subst (IsNamed p) e named) c.is_none.ensures (bytes ∙ ap (λ (k : Contents). merkle_bytes (record_meant p k)) e))

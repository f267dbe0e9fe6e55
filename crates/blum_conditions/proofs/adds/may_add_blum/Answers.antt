use Rattle.std.proofs.Common.{length, ap, ◌∙◌, arith}
use Rattle.model.specs.Records.{Path}
use Rattle.model.specs.Verifier.{find}
use Rattle.path.specs.Times.{timestamp_of}
use Rattle.path.proofs.Words.{length_path}
use Rattle.store.proofs.Asked.{was_found, not_found}
use Rattle.block.proofs.Framed.{viewed}
use Rattle.blum_conditions.proofs.Added.{stored_already, epoch_over, may}
use Rattle.blum_conditions.proofs.adds.may_add_blum.Goals as goal

pub returns-then-is_some : goal.returns-then-is_some
returns-then-is_some c = λ v x k e fits.
    let f = c.find.ensures.found v.store (viewed _ _ v _ c.store.ensures k) in
    stored_already v x (timestamp_of c.args.timestamp) _ (ap (λ (p : Path). find p v.store) e ∙ was_found _ _ v.store _ c.find.result c.if-is_some.ensures c.find.ensures.within f)

pub returns-then-timestamp-done : goal.returns-then-timestamp-done
returns-then-timestamp-done c = λ v x k e fits.
    let d = c.done.ensures c.args.n v k in
    epoch_over v x (timestamp_of c.args.timestamp) (omega arith)

pub returns : goal.returns
returns c = λ v x k e fits.
    let d = c.done.ensures c.args.n v k in
    let p = c.args.path.now in
    let f = c.find.ensures.found v.store (viewed _ _ v _ c.store.ensures k) in
    let len = ap length e ∙ length_path p.len p.bits p.ok.0 in (
      may v x (timestamp_of c.args.timestamp) (omega arith) (ap (λ (q : Path). find q v.store) e ∙ not_found _ _ v.store _ c.find.result c.if-is_some.ensures f) (omega arith),
      c.in-Some.ensures,
    )

use Rattle.std.proofs.Common.{sym, ap, ◌∙◌, subst}
use Rattle.model.specs.Records.{merkle_hash}
use Rattle.model.specs.Verifier.{Stored}
use Rattle.conditions.specs.declared.parts.Way.{Way}
use Rattle.conditions.specs.Ways.{OwnHash}
use Rattle.changes.proofs.keep_hash.Goals as goal

pub returns-in-Again-clause-kept : goal.returns-in-Again-clause-kept
returns-in-Again-clause-kept c = λ xs x added own.
    c.set_hash.ensures.stored c.args.store.now.salt _ _ _ added.holds added.in_use
    (subst (λ (w : Way). OwnHash w (merkle_hash x.rec)) c.in-Again.is own ∙ ap (λ (s : Stored). merkle_hash s.rec) (sym added.stored))

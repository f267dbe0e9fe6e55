use Rattle.block.proofs.Framed.{viewed}
use Rattle.verifier.proofs.Stepped.{failed, right}
use Rattle.verifier.proofs.Called.{get_fails, other_value, gets}
use Rattle.conditions.specs.declared.parts.Failure.TheVariants.{NotStored, ValueDiffers}
use Rattle.verifier.proofs.calls.get.Goals as goal

pub returns-in_default : goal.returns-in_default
returns-in_default c = λ t v k. failed (Unit {0}) c.args.n c.args.block.now NotStored _ (get_fails t v _ _ (c.in_default.ensures.found v.store (viewed _ _ v _ c.store-store.ensures k)))

pub returns-then-not-has_value : goal.returns-then-not-has_value
returns-then-not-has_value c = λ t v k.
    let s = c.in-Some.ensures.found v.store (viewed _ _ v _ c.store-store.ensures k) in
    failed (Unit {0}) c.args.n c.args.block.now ValueDiffers _ (other_value t v _ _ s.some s.key _ (c.if-not-has_value.ensures s.slot))

pub returns : goal.returns
returns c = λ t v k.
    let s = c.in-Some.ensures.found v.store (viewed _ _ v _ c.store-store.ensures k) in
    right _ _ (tt {0}) _ _ _ _ _ (gets t v _ _ s.some s.key _ (c.if-not-has_value.ensures s.slot)) k

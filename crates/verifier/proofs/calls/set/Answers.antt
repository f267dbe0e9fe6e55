use Rattle.std.proofs.Common.{◌≡◌, ℕ, ◌*◌, Some, length, sym, ap, ◌∙◌, subst, rules}
use Rattle.model.specs.Records.{Bytes, data_record}
use Rattle.model.specs.Verifier.{updated}
use Rattle.store.specs.Holding.{Holds}
use Rattle.store.specs.Stores.{slot_of}
use Rattle.block.proofs.Framed.{viewed, relent, from_view, store_split, keeps_back}
use Rattle.verifier.proofs.Stepped.{failed, right}
use Rattle.verifier.proofs.Called.{set_fails, sets, key_of_slot}
use Rattle.conditions.specs.declared.parts.Failure.TheVariants.{NotStored}
use Rattle.verifier.proofs.calls.set.Goals as goal

pub returns-in_default-clause-step : goal.returns-in_default-clause-step
returns-in_default-clause-step c = λ t v k. failed (Unit {0}) c.args.n _ NotStored _ (set_fails t v _ _ (c.in_default.ensures.found v.store (viewed _ _ v _ c.store.ensures k)))

pub returns-clause-step : goal.returns-clause-step
returns-clause-step c = λ t v k.
    right c.args.n _ (tt {0}) _ _ _ _ _ (let s = c.in-Some.ensures.found v.store (viewed c.args.n c.args.block.now v c.store.result c.store.ensures k) in sets t v _ _ s.some s.key _)
    (keeps_back c.args.n _ _ c.set_value.new.self.words.now _ (search rules) (
    let n = c.args.n in
    let b = c.args.block.now in
    let E = c.store.ensures in
    let view = c.store.result in
    let H = viewed n b v view E k in
    let s = c.in-Some.ensures.found v.store H in
    let S = c.new-store.ensures in
    let out = rw (relent n b _ _ view E k.size S.words c.split_at_mut-words.ensures.back, S.places ∙ sym E.places) at c.set_value.ensures.stored in
    let m = c.set_value.new.self.words.now in
    let len : length m ≡ 192 * n = c.set_value.new.self.room ∙ ap (λ (j : ℕ). 192 * j) (c.set_value.ensures.frame.0 ∙ S.places) in
    let of = key_of_slot (slot_of view c.in-Some.i) c.args.key.now s.key in
    let stored = out view.salt v.store _ _ H s.walked.1.1.0 of.0 in
    (store_split n b _ m v _ k c.split_at_mut-words.ensures.front len
    (from_view n b m view _ E
    (subst (λ (j : Bytes). Holds view.places view.salt m (updated (data_record j (Some c.args.value.now)) v.store)) of.1 stored)))
    ))

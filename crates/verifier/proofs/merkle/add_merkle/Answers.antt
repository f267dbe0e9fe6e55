use Rattle.std.proofs.Common.{◌≡◌, ℕ, ◌*◌, ◌<◌, List, ◌∷◌, length, sym, ap, ◌∙◌, subst, rules, true}
use Rattle.model.specs.Records.{Path, Record}
use Rattle.model.specs.Verifier.{Stored}
use Rattle.path.specs.Packs.{path_in}
use Rattle.path.specs.Sides.{side_number}
use Rattle.slot.specs.Meant.{record_meant}
use Rattle.store.specs.Holding.{Holds}
use Rattle.store.specs.Stores.{stored_of}
use Rattle.conditions.specs.Ways.{after_link, pointing, record_after}
use Rattle.block.proofs.Framed.{viewed, relent, from_view, store_split, keeps_back}
use Rattle.verifier.proofs.Stepped.{right}
use Rattle.verifier.proofs.Told.{stored_after, named_path}
use Rattle.verifier.proofs.merkle.add_merkle.Goals as goal

pub returns-clause-step : goal.returns-clause-step
returns-clause-step c = λ t v k room bytes.
    right c.args.n _ (tt {0}) _ _ _ _ _ (c.in_ok-adding.ensures.may t v _ (viewed c.args.n c.args.block.now v c.store.result c.store.ensures k) (c.candidate-candidate.ensures c.args.record.named bytes)).step
    (keeps_back c.args.n _ _ c.add_merkle.new.store.words.now _ (search rules) (
    let n = c.args.n in
    let b = c.args.block.now in
    let x : Record = record_meant c.args.record.path c.args.record.contents in
    let E = c.store.ensures in
    let view = c.store.result in
    let H = viewed n b v view E k in
    let s = c.in_ok-adding.ensures.may t v x H (c.candidate-candidate.ensures c.args.record.named bytes) in
    let S = c.new-store.ensures in
    let out = rw (relent n b _ _ view E k.size S.words c.split_at_mut-words.ensures.back, S.places ∙ sym E.places, S.salt ∙ sym E.salt) at c.add_merkle.ensures.added in
    let m = c.add_merkle.new.store.words.now in
    let len : length m ≡ 192 * n = c.add_merkle.new.store.room ∙ ap (λ (j : ℕ). 192 * j) (c.add_merkle.ensures.frame.0 ∙ S.places) in
    let a = c.in_ok-adding.adding in
    let q = path_in c.args.above.now.len c.args.above.now.bits in
    let link : Path → List Stored = λ p. after_link a.way (pointing q (stored_of view a.above).rec (side_number a.side) p) v.store in
    let stored = out v.store _ _ H (subst (λ (j : ℕ). length v.store < j) (sym E.places) room) c.args.record.named c.in_ok-adding.ensures.led s.is_node s.own in
    (store_split n b _ m v _ k c.split_at_mut-words.ensures.front len
    (from_view n b m view _ E
    (subst (λ (p : Path). Holds view.places view.salt m (record { rec = record_after a.way x; by_merkle = true } ∷ link p)) (sym (named_path c.args.record.path c.args.record.contents c.args.record.named))
    (subst (λ (y : Record). Holds view.places view.salt m (record { rec = y; by_merkle = true } ∷ link (path_in c.args.record.path.len c.args.record.path.bits))) (stored_after a.way c.args.record.path c.args.record.contents s.over) stored))))
    ))

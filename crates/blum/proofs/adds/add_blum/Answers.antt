use Rattle.std.proofs.Common.{◌≡◌, ℕ, ◌*◌, false, ◌∷◌, length, ap, ◌∙◌, subst, rules}
use Rattle.model.specs.Records.{Record}
use Rattle.model.specs.Verifier.{Timestamp, just_after, advance_clock}
use Rattle.path.specs.Times.{timestamp_of}
use Rattle.slot.specs.Meant.{record_meant}
use Rattle.store.proofs.Asked.{added_there}
use Rattle.block.specs.Blocks.{Keeps, salt_in}
use Rattle.block.proofs.Framed.{rest_store, store_split, keeps_back}
use Rattle.verifier.proofs.Stepped.{wrong, right}
use Rattle.verifier.proofs.Told.{named_path}
use Rattle.blum.proofs.Stepped.{add_fails, adds}
use Rattle.blum.proofs.adds.add_blum.Goals as goal

pub returns-in_err-after-clause-step : goal.returns-in_err-after-clause-step
returns-in_err-after-clause-step c = λ t j v k room fits.
    wrong _ _ _ _ (add_fails v _ _ t j (c.in_err-after.ensures v _ k (named_path c.args.record.path c.args.record.contents c.args.record.named) fits)) c.from_residual.ensures.0

pub returns-clause-step : goal.returns-clause-step
returns-clause-step c = λ t j v k room fits.
    right c.args.n _ (tt {0}) _ _ _ _ _
    (adds v (record_meant c.args.record.path c.args.record.contents) (timestamp_of c.args.timestamp) t j (c.in_ok-after.ensures v _ k (named_path c.args.record.path c.args.record.contents c.args.record.named) fits).0)
    (keeps_back c.args.n _ _ c.add.new.self.words.now _ (search rules) (
    let n = c.args.n in
    let b = c.advance.new.block in
    let x : Record = record_meant c.args.record.path c.args.record.contents in
    let m = timestamp_of c.args.timestamp in
    let can = c.in_ok-after.ensures v x k (named_path c.args.record.path c.args.record.contents c.args.record.named) fits in
    let w = advance_clock v (just_after m) in
    let kept : Keeps n b w = subst (λ (o : Timestamp). Keeps n b (advance_clock v o)) can.1 (c.advance.ensures n v k) in
    let r = rest_store n b kept.size in
    let H = rw r at kept.store in
    let S = c.new-store.ensures in
    let full = rw (S.words, c.split_at_mut-words.ensures.back, S.places, S.salt) at c.add.ensures.full in
    let stored = rw (S.words, c.split_at_mut-words.ensures.back, S.places, S.salt) at c.add.ensures.stored in
    let ws = c.add.new.self.words.now in
    let len : length ws ≡ 192 * n = c.add.new.self.room ∙ ap (λ (i : ℕ). 192 * i) (c.add.ensures.frame.0 ∙ S.places) in
    store_split n b _ ws w (record { rec = x; by_merkle = false } ∷ v.store) kept c.split_at_mut-words.ensures.front len
    (added_there n (salt_in b) ws v.store _ c.add.result room (full v.store H) (stored v.store H c.args.record.named))
    ))

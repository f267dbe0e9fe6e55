use Rattle.std.proofs.Common.{◌≡◌, ℕ, ◌*◌, length, sym, ap, ◌∙◌, rules}
use Rattle.block.proofs.Framed.{viewed, relent, from_view, store_split, keeps_back}
use Rattle.verifier.proofs.Stepped.{right}
use Rattle.verifier.proofs.merkle.evict_merkle.Goals as goal

pub returns-clause-step : goal.returns-clause-step
returns-clause-step c = λ t v k.
    right c.args.n _ (tt {0}) _ _ _ _ _ (c.in_ok-edge.ensures.may t v (viewed c.args.n c.args.block.now v c.store.result c.store.ensures k)).step
    (keeps_back c.args.n _ _ c.evict_merkle.new.store.words.now _ (search rules) (
    let n = c.args.n in
    let b = c.args.block.now in
    let E = c.store.ensures in
    let H = viewed n b v c.store.result E k in
    let s = c.in_ok-edge.ensures.may t v H in
    let led = c.in_ok-edge.ensures.led in
    let S = c.new-store.ensures in
    let out = rw (relent n b _ _ c.store.result E k.size S.words c.split_at_mut-words.ensures.back, S.places ∙ sym E.places, S.salt ∙ sym E.salt) at c.evict_merkle.ensures.evicted in
    let m = c.evict_merkle.new.store.words.now in
    let len : length m ≡ 192 * n = c.evict_merkle.new.store.room ∙ ap (λ (j : ℕ). 192 * j) (c.evict_merkle.ensures.frame.0 ∙ S.places) in
    let stored = from_view n b m c.store.result _ E (out v.store _ _ H s.slot led.0 led.1 s.is_node) in
    (store_split n b _ m v _ k c.split_at_mut-words.ensures.front len stored)
    ))

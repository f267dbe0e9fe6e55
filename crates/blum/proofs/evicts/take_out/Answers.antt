use Rattle.std.proofs.Common.{◌≡◌, ℕ, ◌*◌, length, ap, ◌∙◌, rules}
use Rattle.block.proofs.Framed.{rest_store, store_split, keeps_back}
use Rattle.blum.proofs.evicts.take_out.Goals as goal

pub returns-clause-without : goal.returns-clause-without
returns-clause-without c = λ v j ws k walked.
    keeps_back c.args.n _ _ c.remove.new.self.words.now _ (search rules) (
    let n = c.args.n in
    let b = c.args.block.now in
    let r = rest_store n b k.size in
    let S = c.new-store.ensures in
    let out = rw (S.words, c.split_at_mut-words.ensures.back, S.places, S.salt) at c.remove.ensures.without in
    let m = c.remove.new.self.words.now in
    let len : length m ≡ 192 * n = c.remove.new.self.room ∙ ap (λ (i : ℕ). 192 * i) (c.remove.ensures.frame.0 ∙ S.places) in
    store_split n b _ m v _ k c.split_at_mut-words.ensures.front len (out v.store j ws (rw r at k.store) (rw r at walked.walked))
    )

use Rattle.std.proofs.Common.{◌≡◌, ℕ, ◌*◌, length, ap, ◌∙◌, rules}
use Rattle.block.specs.Blocks.{salt_in}
use Rattle.block.proofs.Framed.{rest_store, store_split, keeps_back}
use Rattle.blum.proofs.Framed.{leads_back, walked_split}
use Rattle.blum.proofs.evicts.mark.Goals as goal

pub returns-clause-marked : goal.returns-clause-marked
returns-clause-marked c = λ v j ws k walked nk.
    keeps_back c.args.n _ _ c.set_child.new.self.words.now _ (search rules) (
    let n = c.args.n in
    let b = c.args.block.now in
    let r = rest_store n b k.size in
    let S = c.new-store.ensures in
    let out = rw (S.words, c.split_at_mut-words.ensures.back, S.places) at c.set_child.ensures.stored in
    let m = c.set_child.new.self.words.now in
    let len : length m ≡ 192 * n = c.set_child.new.self.room ∙ ap (λ (i : ℕ). 192 * i) (c.set_child.ensures.frame.0 ∙ S.places) in
    store_split n b _ m v _ k c.split_at_mut-words.ensures.front len (rw (← r) at (out (salt_in b) v.store j ws (rw r at k.store) (rw r at walked.walked) (rw r at nk)))
    )

pub returns-clause-stay : goal.returns-clause-stay
returns-clause-stay c = λ j ws i walked.
    leads_back c.args.n _ _ c.set_child.new.self.words.now j ws i (search rules) (
    let n = c.args.n in
    let b = c.args.block.now in
    let r = rest_store n b c.requires.room in
    let S = c.new-store.ensures in
    let out = rw (S.words, c.split_at_mut-words.ensures.back, S.places) at c.set_child.ensures.stay in
    let m = c.set_child.new.self.words.now in
    let len : length m ≡ 192 * n = c.set_child.new.self.room ∙ ap (λ (i : ℕ). 192 * i) (c.set_child.ensures.frame.0 ∙ S.places) in
    walked_split n b _ m j ws i c.requires.room c.split_at_mut-words.ensures.front len (out (salt_in b) j ws i (rw r at walked.walked))
    )

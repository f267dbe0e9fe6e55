use Rattle.std.proofs.Common.{[], get_or, arith, rules, ◌∙◌}
use Rattle.sha256.proofs.Loading.{word_is, four_pieces, four_listed}
use Rattle.sha256.proofs.four_words.Goals as goal

pub returns : goal.returns
returns c =
    let xs = c.args.words.now in
    let long = c.told-words in
    let rs = c.from_fn.result in
    four_listed rs c.from_fn.ensures.items.long ∙
    four_pieces xs c.requires _ _ _ _
    (word_is (get_or xs 0 []) (long 0 (omega arith)) (get_or rs 0 0) (search rules)) (word_is (get_or xs 1 []) (long 1 (omega arith)) (get_or rs 1 0) (search rules))
    (word_is (get_or xs 2 []) (long 2 (omega arith)) (get_or rs 2 0) (search rules)) (word_is (get_or xs 3 []) (long 3 (omega arith)) (get_or rs 3 0) (search rules))

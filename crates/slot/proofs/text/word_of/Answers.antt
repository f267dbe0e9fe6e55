use Rattle.std.proofs.Common.{◌≡◌, ℕ, ◌+◌, ◌-◌, List, ◌++◌, length, drop, replicate, ap, ◌∙◌, arith, length-append}
use lib.ListN.{length-replicate}
use Rattle.model.specs.Records.{le_number}
use Rattle.record.proofs.Filled.{front_filled}
use Rattle.slot.proofs.Texts.{number_eight, number_filled}
use Rattle.slot.proofs.text.word_of.Goals as goal

pub returns : goal.returns
returns c =
    let bs = c.args.bytes.now in
    let ys = c.copy_from_slice.new.self in
    let e = front_filled 8 bs ys c.copy_from_slice.ensures.after in
    let zs : List ℕ = replicate (8 - length bs) 0 in
    let a : length (bs ++ zs) ≡ length bs + length zs = length-append bs zs in
    let b : length zs ≡ 8 - length bs = length-replicate (8 - length bs) 0 in
    let eight : length (bs ++ zs) ≡ 8 = omega (arith, c.requires) in
    c.from_le_bytes.ensures
    ∙ number_eight (ys ++ drop (length bs) (replicate 8 0)) (ap length e ∙ eight)
    ∙ ap le_number e ∙ number_filled bs (8 - length bs)

use Rattle.std.proofs.Common.{◌≡◌, ℕ, ◌++◌, length, take, sym, ap, arith, length-take-le}
use Rattle.model.specs.Records.{le_bytes}
use Rattle.slot.specs.Layout.{bytes_in}
use Rattle.slot.proofs.Texts.{length_bytes_in}
use Rattle.writer.proofs.Joined.{written_as, written_join}
use Rattle.gather.proofs.sized_bytes_into.Goals as goal

pub returns-clause-wrote : goal.returns-clause-wrote
returns-clause-wrote c =
    let n = c.args.n in
    let t = take n (bytes_in c.args.words.now) in
    let l = length_bytes_in c.args.words.now in
    let lt : length t ≡ n = length-take-le n (bytes_in c.args.words.now) (omega arith) in
    written_as _ _ _ _ (ap (λ (k : ℕ). le_bytes 2 k ++ t) (sym lt)) (written_join _ _ _ _ _ c.length.ensures.wrote c.bytes_into.ensures.wrote)

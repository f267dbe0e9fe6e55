use Rattle.std.proofs.Common.{◌≡◌, ℕ, ◌++◌, length, sym, ap}
use Rattle.model.specs.Records.{le_bytes}
use Rattle.path.specs.Packs.{path_in}
use Rattle.path.proofs.Words.{length_path}
use Rattle.writer.proofs.Joined.{written_as, written_join}
use Rattle.gather.proofs.sized_path_into.Goals as goal

pub returns-clause-wrote : goal.returns-clause-wrote
returns-clause-wrote c =
    let n = c.args.len in
    let t = path_in n c.args.bits.now in
    let lt : length t ≡ n = length_path n c.args.bits.now c.requires.bits in
    written_as _ _ _ _ (ap (λ (k : ℕ). le_bytes 2 k ++ t) (sym lt)) (written_join _ _ _ _ _ c.length.ensures.wrote c.bits_into.ensures.wrote)

use Rattle.std.proofs.Common.{ℕ, ap, ◌∙◌}
use Rattle.model.specs.Records.{present}
use Rattle.reader.specs.Meaning.{pointer_of}
use Rattle.range.proofs.Ranged.{present_good, hash_in}
use Rattle.range.proofs.fields.child.Goals as goal
use Rattle.slot.specs.Layout.{number_in}

pub returns-in_ok-path_from_bits-in-Present-clause-some : goal.returns-in_ok-path_from_bits-in-Present-clause-some
returns-in_ok-path_from_bits-in-Present-clause-some c =
    let q = c.in-Present.path.now in
    let b = c.in-Present.in_blum in
    let e = ap pointer_of c.in-Present.is ∙ ap (λ (n : ℕ). present q n b) (hash_in c.in-Present.hash) in
    present_good (pointer_of c.args.pointer) q (number_in c.in-Present.hash) b e c.in_ok-path_from_bits-in-Present.ensures.some c.present.ensures.fits

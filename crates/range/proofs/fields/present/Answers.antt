use Rattle.std.proofs.Common.{ℕ, List, ap}
use Rattle.model.specs.Records.{present as there}
use Rattle.range.specs.Packing.{bits_of}
use Rattle.range.proofs.Ranged.{four, hash_fits}
use Rattle.range.proofs.fields.present.Goals as goal
use Rattle.slot.specs.Layout.{number_in}

pub returns : goal.returns
returns c =
    let ws : List ℕ = c.args.hash.now in
    record { child = ap (λ (xs : List ℕ). there (bits_of c.args.path) (number_in xs) c.args.in_blum) (four ws c.requires); fits = hash_fits ws c.requires (λ i. (c.type_inv.hash i).fits) }

use Rattle.std.proofs.Common.{rules, ◌≡◌, max, nat_lt, ap, ◌∙◌}
use Rattle.std.specs.List.{fold}
use Rattle.record.proofs.Ones.{greatest_tells}
use Rattle.record.proofs.packing.are_bits.Goals as goal

pub returns : goal.returns
returns c =
    let greatest : c.fold.result ≡ fold max 0 c.args.bytes.now = search rules in
    ap (λ n. nat_lt n 2) greatest ∙ greatest_tells c.args.bytes.now

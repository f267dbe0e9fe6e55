use Rattle.std.proofs.Common.{ℕ, ◌-◌, ◌*◌, ◌/◌, ◌%◌, ◌^◌, ◌<◌, get_or, sym, ap, ◌∙◌, subst, arith}
use Rattle.std.proofs.lemmas.Nat.{and_mask, mod_below}
use Rattle.model.specs.Records.{bits}
use Rattle.record.proofs.Spread.{byte_bits}
use Rattle.record.proofs.unpacking.byte_of.Goals as goal

pub returns : goal.returns
returns c =
    let ws = c.args.words.now in
    let j = c.args.j in
    let x = get_or ws (j / 8) 0 / 2 ^ (56 - 8 * (j % 8)) in
    record {
      byte = subst (λ (y : ℕ). y < 256) (sym (and_mask x 8)) (mod_below x 256 (omega arith));
      bits = ap (bits 8) (and_mask x 8) ∙ byte_bits ws j c.requires;
    }

use Rattle.std.proofs.Common.{◌∙◌, rules}
use Rattle.path.specs.Packs.{Packs}
use Rattle.path.proofs.Words.{get_or_packed}
use Rattle.path.proofs.packed.Path.bit.Goals as goal

pub returns : goal.returns
returns c =
    let p = c.args.self.now in
    let k : Packs p.len p.bits = search rules in
    c.bit_of.ensures ∙ get_or_packed p.len p.bits c.args.i k (search rules)

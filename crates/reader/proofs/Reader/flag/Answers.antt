use Rattle.std.proofs.Common.{◌≡◌, ℕ, zero, suc, ◌<◌, eqb, refl, ap, ◌∙◌, arith}
use Rattle.std.specs.Int.{from_bool}
use Rattle.model.specs.Wire.{got}
use Rattle.wire_laws.proofs.Parts.{tag_below}
use Rattle.reader.proofs.Reader.flag.Goals as goal

-- a number below 2 is that of a flag
flag_number : (n : ℕ) → n < 2 → n ≡ from_bool (eqb n 1)
flag_number zero h = refl
flag_number (suc zero) h = refl
flag_number (suc (suc n)) h = absurd (omega arith)

pub returns : goal.returns
returns c =
    let h = tag_below 2 c.in_ok-tag.field-0 c.args.self.now.rest.now c.tag.new.self.rest.now c.in_ok-tag.ensures in
    c.in_ok-tag.ensures ∙ ap (λ n. got n c.tag.new.self.rest.now) (flag_number c.in_ok-tag.field-0 h)

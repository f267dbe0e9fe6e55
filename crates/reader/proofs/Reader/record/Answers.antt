use Rattle.std.proofs.Common.{◌≡◌, ◌-◌, length, take, ap, ◌∙◌, arith, rules}
use Rattle.reader.specs.Meaning.{contents_of}
use Rattle.wire_laws.proofs.Parts.{merkle_part, tag_below}
use Rattle.reader.proofs.Reader.record.Goals as goal

pub overflow_sub-merkle_bytes : goal.overflow_sub-merkle_bytes
overflow_sub-merkle_bytes c =
    omega (
      arith,
      (merkle_part c.sized.new.self.rest.now c.byte_len-size.ensures.small c.in_ok-kind.kind c.in_ok-name.name.now c.in_ok-just.field-0 c.just.new.self.rest.now (contents_of c.in_ok-name.name.now c.in_ok-contents.contents)
          c.contents.new.self.rest.now (tag_below 2 c.in_ok-kind.kind c.args.self.now.rest.now c.tag.new.self.rest.now c.in_ok-kind.ensures) c.in_ok-just.ensures c.in_ok-contents.ensures).0,
    )

pub returns : goal.returns
returns c =
    let p = merkle_part c.sized.new.self.rest.now c.byte_len-size.ensures.small c.in_ok-kind.kind c.in_ok-name.name.now c.in_ok-just.field-0 c.just.new.self.rest.now (contents_of c.in_ok-name.name.now c.in_ok-contents.contents)
    c.contents.new.self.rest.now (tag_below 2 c.in_ok-kind.kind c.args.self.now.rest.now c.tag.new.self.rest.now c.in_ok-kind.ensures) c.in_ok-just.ensures c.in_ok-contents.ensures in
    let e : (c.byte_len-size.result - length c.contents.new.self.rest.now) - 0 ≡ length c.sized.new.self.rest.now - length c.contents.new.self.rest.now = omega arith in
    record { reads = search rules; merkle = ap (λ k. take k c.sized.new.self.rest.now) e ∙ p.1 }

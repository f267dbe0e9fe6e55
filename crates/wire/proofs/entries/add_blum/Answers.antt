use Rattle.std.proofs.Common.{◌≡◌, ◌+◌, ◌-◌, length, take, ap, ◌∙◌, arith, rules}
use Rattle.reader.specs.Meaning.{record_of, timestamp_of}
use Rattle.wire_laws.proofs.Parts.{element_part, timestamp_within}
use Rattle.wire.proofs.entries.add_blum.Goals as goal

pub overflow_sub-used : goal.overflow_sub-used
overflow_sub-used c =
    omega (
      arith,
      timestamp_within c.args.reader.now.rest.now c.byte_len-size.ensures.small (record_of c.in_ok-record.record) c.record.new.self.rest.now (timestamp_of c.in_ok-timestamp.timestamp) c.timestamp.new.self.rest.now
          c.in_ok-record.ensures.reads c.in_ok-timestamp.ensures,
    )

pub slice_bounds-result-end : goal.slice_bounds-result-end
slice_bounds-result-end c =
    omega (
      arith,
      (element_part c.args.reader.now.rest.now c.byte_len-size.ensures.small (record_of c.in_ok-record.record) c.record.new.self.rest.now (timestamp_of c.in_ok-timestamp.timestamp) c.timestamp.new.self.rest.now
          c.in_ok-verifier.verifier c.number.new.self.rest.now c.in_ok-record.ensures.reads c.in_ok-timestamp.ensures c.in_ok-verifier.ensures).0,
    )

pub returns : goal.returns
returns c =
    let h = element_part c.args.reader.now.rest.now c.byte_len-size.ensures.small (record_of c.in_ok-record.record) c.record.new.self.rest.now (timestamp_of c.in_ok-timestamp.timestamp) c.timestamp.new.self.rest.now
    c.in_ok-verifier.verifier c.number.new.self.rest.now c.in_ok-record.ensures.reads c.in_ok-timestamp.ensures c.in_ok-verifier.ensures in
    let e : ((c.byte_len-size.result - length c.timestamp.new.self.rest.now) + 1) - 0 ≡ length c.args.reader.now.rest.now - length c.timestamp.new.self.rest.now + 1 = omega arith in
    record { reads = search rules; parts = (c.in_ok-record.ensures.merkle, λ small. ap (λ k. take k c.args.reader.now.rest.now) e ∙ h.1 small) }

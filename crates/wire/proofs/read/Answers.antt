use Rattle.std.proofs.Common.{length, sym, ap, ◌∙◌, arith}
use Rattle.model.specs.Readable.{readable}
use Rattle.model.specs.Wire.{whole}
use Rattle.wire.specs.Meaning.{logged_of}
use Rattle.wire_laws.proofs.Parts.{typed_bytes, left_at_value, left_at_stop, whole_more, whole_all, read_readable}
use Rattle.wire.proofs.read.Goals as goal

pub overflow_sub-result : goal.overflow_sub-result
overflow_sub-result c = left_at_stop c.args.bytes.now c.event.new.reader.rest.now c.type_inv.bytes c.in_default.ensures.reads

pub returns-in_default : goal.returns-in_default
unfolding whole
returns-in_default c =
    let e = sym (ap (whole (length c.args.bytes.now)) c.in_default.ensures.reads) in
    record { value = e; parts = tt; fits = ap readable e ∙ read_readable c.args.bytes.now (typed_bytes c.args.bytes.now c.type_inv.bytes) (omega arith) }

pub overflow_sub-result-then-left-gt0 : goal.overflow_sub-result-then-left-gt0
overflow_sub-result-then-left-gt0 c = left_at_value c.args.bytes.now c.event.new.reader.rest.now (logged_of c.in-Some.event) c.type_inv.bytes c.in-Some.ensures.reads

pub returns-then-left-gt0 : goal.returns-then-left-gt0
returns-then-left-gt0 c =
    let n = length c.args.bytes.now in
    let e = sym (ap (whole n) c.in-Some.ensures.reads ∙ whole_more n (logged_of c.in-Some.event) c.event.new.reader.rest.now c.if-left-gt0.true) in
    record { value = e; parts = tt; fits = ap readable e ∙ read_readable c.args.bytes.now (typed_bytes c.args.bytes.now c.type_inv.bytes) (omega arith) }

pub returns : goal.returns
returns c =
    let n = length c.args.bytes.now in
    let e = sym (ap (whole n) c.in-Some.ensures.reads ∙ whole_all n (logged_of c.in-Some.event) c.event.new.reader.rest.now c.if-left-gt0.false) in
    record { value = e; parts = c.in-Some.ensures.parts; fits = ap readable e ∙ read_readable c.args.bytes.now (typed_bytes c.args.bytes.now c.type_inv.bytes) (omega arith) }

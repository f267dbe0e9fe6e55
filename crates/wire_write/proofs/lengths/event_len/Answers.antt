use Rattle.std.proofs.Common.{◌≡◌, ◌+◌, Some, None, ◌∙◌, rules}
use Rattle.wire.specs.Meaning.{entry_of}
use Rattle.wire_write.specs.Lengths.{event_len}
use Rattle.wire_write.proofs.Measured.{event_is}
use Rattle.wire_write.proofs.lengths.event_len.Goals as goal

pub returns-in_err-fields : goal.returns-in_err-fields
returns-in_err-fields c =
    let e : None ≡ event_len c.args.verifier (entry_of c.args.entry) = search rules in
    rw c.from_residual.ensures (e ∙ event_is c.args.verifier (entry_of c.args.entry))

pub returns : goal.returns
returns c =
    let e : Some (c.number_len-head.result + 1 + c.in_ok-fields.fields) ≡ event_len c.args.verifier (entry_of c.args.entry) = search rules in
    e ∙ event_is c.args.verifier (entry_of c.args.entry)

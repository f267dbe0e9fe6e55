use Rattle.std.proofs.Common.{length, ap, ◌∙◌, arith, rules}
use Rattle.model.specs.Monitor.{logged}
use Rattle.model.specs.Readable.{readable}
use Rattle.model.specs.Wire.{event_bytes}
use Rattle.wire.specs.Meaning.{entry_of}
use Rattle.wire_write.specs.Written.{with_entry, with_number}
use Rattle.wire_write.proofs.Measured.{length_tells}
use Rattle.wire_write.proofs.Pages.{event_put, at_front, event_length}
use Rattle.wire_write.proofs.events.write_event.Goals as goal

pub number-requires : goal.number-requires
number-requires c =
    let t = c.args.verifier in
    let e = entry_of c.args.entry in
    omega (arith, event_length t e, (length_tells (readable (logged t e)) (length (event_bytes t e)) c.in_ok-len.len c.in_ok-len.ensures).1)

pub put_entry-requires : goal.put_entry-requires
put_entry-requires c =
    let t = c.args.verifier in
    let e = entry_of c.args.entry in
    omega (arith, event_length t e, (length_tells (readable (logged t e)) (length (event_bytes t e)) c.in_ok-len.len c.in_ok-len.ensures).1)

pub returns : goal.returns
returns c =
    let t = c.args.verifier in
    let e = entry_of c.args.entry in
    let l = length_tells (readable (logged t e)) (length (event_bytes t e)) c.in_ok-len.len c.in_ok-len.ensures in
    let w = c.put_entry.new.w in
    let f =
    at_front c.args.to.now w.to.now (event_bytes t e) w.at
    (c.put_entry.ensures.written ∙ (ap (λ p. with_entry p e) (c.number.ensures.written ∙ ap (λ p. with_number p t) c.new-w.ensures.written) ∙ event_put c.args.to.now t e)) in
    (l.0, f.0, search (rules, f.1))

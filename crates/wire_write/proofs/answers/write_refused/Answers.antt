use Rattle.std.proofs.Common.{ltb, ◌∷◌, refl, ap, ◌∙◌, arith, rules}
use Rattle.std.proofs.lemmas.Bool.{lt-ltb, and_from}
use Rattle.model.specs.Records.{le_bytes}
use Rattle.model.specs.Readable.{fits_64}
use Rattle.wire_laws.proofs.Numbers.{length_le_bytes}
use Rattle.wire_write.specs.Written.{with_byte, with_number}
use Rattle.wire_write.proofs.Pages.{refused_put, at_front}
use Rattle.wire_write.proofs.answers.write_refused.Goals as goal

pub returns-then-to-lt10 : goal.returns-then-to-lt10
returns-then-to-lt10 c = (λ _. omega (arith, length_le_bytes 8 c.args.place), refl)

pub returns : goal.returns
returns c =
    let k = c.args.refusal in
    let n = c.args.place in
    let w = c.number.new.self in
    let f =
    at_front c.args.to.now w.to.now (0 ∷ (k ∷ le_bytes 8 n)) w.at
    (c.number.ensures.written
    ∙ (ap (λ p. with_number p n) (c.byte-2.ensures.written ∙ ap (λ p. with_byte p k) (c.byte.ensures.written ∙ ap (λ p. with_byte p 0) c.new-w.ensures.written)) ∙ refused_put c.args.to.now k n)) in
    (and_from (ltb k 256) (fits_64 n) (lt-ltb k 256 (omega arith)) (lt-ltb n 18446744073709551616 c.number.ensures.fits), f.0, search (rules, f.1))

use Rattle.std.proofs.Common.{◌∷◌, refl, ap, ◌∙◌, arith, rules}
use Rattle.std.proofs.lemmas.Bool.{lt-ltb}
use Rattle.model.specs.Records.{le_bytes}
use Rattle.wire_laws.proofs.Numbers.{length_le_bytes}
use Rattle.wire_write.specs.Written.{with_byte, with_number}
use Rattle.wire_write.proofs.Pages.{certified_put, at_front}
use Rattle.wire_write.proofs.answers.write_certified.Goals as goal

pub returns-then-to-lt9 : goal.returns-then-to-lt9
returns-then-to-lt9 c = (λ _. omega (arith, length_le_bytes 8 c.args.epochs), refl)

pub returns : goal.returns
returns c =
    let n = c.args.epochs in
    let w = c.number.new.self in
    let f =
    at_front c.args.to.now w.to.now (3 ∷ le_bytes 8 n) w.at
    (c.number.ensures.written ∙ (ap (λ p. with_number p n) (c.byte.ensures.written ∙ ap (λ p. with_byte p 3) c.new-w.ensures.written) ∙ certified_put c.args.to.now n)) in
    (lt-ltb n 18446744073709551616 c.number.ensures.fits, f.0, search (rules, f.1))

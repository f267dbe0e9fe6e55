use Rattle.std.proofs.Common.{[], ◌∷◌, refl, ap, ◌∙◌, rules}
use Rattle.wire_write.specs.Written.{with_byte}
use Rattle.wire_write.proofs.Pages.{at_front}
use Rattle.wire_write.proofs.answers.write_kind.Goals as goal

pub returns : goal.returns
returns c =
    let k = c.args.kind in
    let w = c.byte.new.self in
    let f = at_front c.args.to.now w.to.now (k ∷ []) w.at (c.byte.ensures.written ∙ ap (λ p. with_byte p k) c.new-w.ensures.written) in
    (refl, f.0, search (rules, f.1))

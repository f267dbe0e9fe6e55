use Rattle.std.proofs.Common.{sym, refl, ap, ◌∙◌, subst}
use Rattle.model.specs.Verifier.{Timestamp, earlier}
use Rattle.path.specs.Times.{timestamp_of}
use Rattle.block.specs.Blocks.{Keeps}
use Rattle.blum.proofs.Moved.{clock_is, moves, stays}
use Rattle.blum.proofs.adds.advance.Goals as goal

pub returns-then-is_earlier : goal.returns-then-is_earlier
returns-then-is_earlier c = λ n v k.
    let m = timestamp_of c.args.timestamp in
    let test = ap (λ (o : Timestamp). earlier o m) (sym (c.clock.ensures n v k)) ∙ sym c.is_earlier.ensures ∙ c.if-is_earlier.true in
    subst (Keeps n c.set_clock.new.block) (sym (moves v m test)) (clock_is n _ v _ _ _ _ refl c.root.ensures.path (c.set_clock.ensures n v k))

pub returns-else-is_earlier : goal.returns-else-is_earlier
returns-else-is_earlier c = λ n v k.
    let m = timestamp_of c.args.timestamp in
    let test = ap (λ (o : Timestamp). earlier o m) (sym (c.clock.ensures n v k)) ∙ sym c.is_earlier.ensures ∙ c.if-is_earlier.false in
    subst (Keeps n c.args.block.now) (sym (stays v m test)) k

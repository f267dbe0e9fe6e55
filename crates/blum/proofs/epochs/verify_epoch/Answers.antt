use Rattle.std.proofs.Common.{◌≡◌, ℕ, suc, ◌+◌, true, refl, ap, subst, arith}
use Rattle.std.proofs.lemmas.Bool.{both_ways}
use Rattle.model.specs.Verifier.{Timestamp}
use Rattle.block.specs.Blocks.{Keeps, with_done}
use Rattle.conditions.specs.declared.parts.Failure.TheVariants.{ClockBehind}
use Rattle.verifier.proofs.Stepped.{failed, right}
use Rattle.blum.proofs.Moved.{clock_behind, epoch_done}
use Rattle.blum.proofs.epochs.verify_epoch.Goals as goal

pub returns-then-epoch-clock : goal.returns-then-epoch-clock
returns-then-epoch-clock c = record {
  same = λ _. refl;
  step = λ n t v k.
      let e = ap (λ (m : Timestamp). m.epoch) (c.clock.ensures n v k) in
      let d = c.done-epoch.ensures n v k in
      failed (Unit {0}) n _ ClockBehind _ (clock_behind t v (omega arith));
}

pub returns : goal.returns
returns c = record {
  same = λ e. absurd (both_ways true e refl);
  step = λ n t v k.
      let e = ap (λ (m : Timestamp). m.epoch) (c.clock.ensures n v k) in
      let d = c.done-epoch.ensures n v k in
      let next : c.done-epoch.result + 1 ≡ suc v.done = omega arith in
      right n _ (tt {0}) _ _ _ _ _ (epoch_done t v (omega arith)) (subst (λ (x : ℕ). Keeps n c.set_done.new.block (with_done v x)) next (c.set_done.ensures n v k));
}

use Rattle.std.proofs.Common.{ℕ, ◌+◌, true, refl, ap, ◌∙◌, add-one, arith}
use Rattle.std.proofs.lemmas.Bool.{both_ways}
use Rattle.model.specs.Verifier.{Timestamp}
use Rattle.verifier.proofs.Stepped.{right}
use Rattle.blum.proofs.Moved.{clock_is, goes_on}
use Rattle.blum.proofs.epochs.next_epoch.Goals as goal

pub returns-then-epoch : goal.returns-then-epoch
returns-then-epoch c = record {
  same = λ _. refl;
  step = λ n t v k h. absurd (let e = ap (λ (m : Timestamp). m.epoch) (c.clock-epoch.ensures n v k) in omega arith);
}

pub returns : goal.returns
returns c = record {
  same = λ e. absurd (both_ways true e refl);
  step = λ n t v k h.
      right n _ (tt {0}) _ _ _ _ _ (goes_on t v)
      (clock_is n _ v _ _ _ _ (ap (λ (m : Timestamp). record { epoch = m.epoch + 1; counter = 0 }) (c.clock-epoch.ensures n v k) ∙ ap (λ (e : ℕ). record { epoch = e; counter = 0 }) (add-one v.clock.epoch)) c.root.ensures.path (c.set_clock.ensures n v k));
}

use Rattle.std.proofs.Common.{◌≡◌, ℕ, Bool, true, false, eqb, refl, ap, ◌∙◌}
use Rattle.model.specs.Records.{pick}
use Rattle.epochs.proofs.header.is_stopped.Goals as goal

told : (b : Bool) → eqb (pick b 1 0) 1 ≡ b
unfolding pick
told true = refl
told false = refl

pub returns : goal.returns
returns c = record {
  kept = λ l s k. ap (λ (n : ℕ). eqb n 1) k.stopped ∙ told s.stopped;
  laid = λ l s k. ap (λ (n : ℕ). eqb n 1) k.stopped ∙ told s.stopped;
}

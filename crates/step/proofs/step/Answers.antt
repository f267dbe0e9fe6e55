use Rattle.std.proofs.Common.{ℕ, true, List, ◌++◌, Ok, Err, sym, refl, ap, ◌∙◌, subst}
use Rattle.std.proofs.lemmas.Bool.{both_ways}
use Rattle.model.specs.Records.{hash_of}
use Rattle.model.specs.Verifier as rules
use Rattle.model.specs.Monitor.{entry_code, is_add}
use Rattle.path.specs.Times.{timestamp_of}
use Rattle.reader.specs.Meaning.{record_of}
use Rattle.wire.specs.Meaning.{entry_of, EntryParts}
use Rattle.step.specs.Effects.{Stepped, Goes, Timely}
use Rattle.step.specs.declared.effect.Effect.TheVariants.{Added}
use Rattle.step.proofs.Quiet.{err_fails, err_stepped, quiet_done, blum_done, sums_none_of}
use Rattle.step.proofs.step.Goals as goal
use Rattle.slot.specs.Layout.{bytes_in}

pub returns-in_err-quiet_step-in_default : goal.returns-in_err-quiet_step-in_default
returns-in_err-quiet_step-in_default c = record {
  same = λ _. c.in_err-quiet_step-in_default.ensures.same refl;
  step = λ v k room parts timely.
      let none = sums_none_of c.args.entry c.in_default.not-AddBlum c.in_default.not-EvictBlum c.in_default.not-EvictBlumMerkle in
      err_stepped _ _ _ _ _ c.from_residual-in_err-quiet_step-in_default.ensures.0
      (err_fails c.args.n c.quiet_step.new.block (Err c.in_err-quiet_step-in_default.field-0.0) _ refl (c.in_err-quiet_step-in_default.ensures.step c.args.verifier v k room parts timely none));
}

pub returns-in_ok-quiet_step-in_default : goal.returns-in_ok-quiet_step-in_default
returns-in_ok-quiet_step-in_default c = record {
  same = λ e. absurd (both_ways true e refl);
  step = λ v k room parts timely.
      let none = sums_none_of c.args.entry c.in_default.not-AddBlum c.in_default.not-EvictBlum c.in_default.not-EvictBlumMerkle in
      quiet_done c.args.n c.quiet_step.new.block _ c.args.verifier v c.args.entry (Ok c.in_ok-quiet_step-in_default.field-0) none refl
      (c.in_ok-quiet_step-in_default.ensures.step c.args.verifier v k room parts timely none);
}

pub returns-in_err-add_blum-in-AddBlum : goal.returns-in_err-add_blum-in-AddBlum
unfolding entry_code
returns-in_err-add_blum-in-AddBlum c = record {
  same = λ _. c.in_err-add_blum-in-AddBlum.ensures.same refl;
  step = λ v k room parts timely.
      let is = ap entry_of c.in-AddBlum.is in
      let late = subst (Timely v) c.in-AddBlum.is timely in
      subst (λ (x : rules.Entry). Stepped c.args.n c.add_blum.new.block (bytes_in c.args.secret.now) c.from_residual.result (rules.verifier_step c.args.verifier v x)) (sym is)
      (err_stepped _ _ _ _ _ c.from_residual.ensures.0
      (err_fails c.args.n c.add_blum.new.block (Err c.in_err-add_blum-in-AddBlum.field-0.0) _ refl (c.in_err-add_blum-in-AddBlum.ensures.step c.args.verifier c.in-AddBlum.verifier v k (room (ap is_add is)) late.0)));
}

pub returns-in_ok-add_blum-in-AddBlum : goal.returns-in_ok-add_blum-in-AddBlum
unfolding entry_code
returns-in_ok-add_blum-in-AddBlum c = record {
  same = λ e. absurd (both_ways true e refl);
  step = λ v k room parts timely.
      let is = ap entry_of c.in-AddBlum.is in
      let late = subst (Timely v) c.in-AddBlum.is timely in
      let part = subst EntryParts c.in-AddBlum.is parts in
      let secret = bytes_in c.args.secret.now in
      let hash = c.element_hash-hash.ensures late.2 ∙ ap (λ (bs : List ℕ). hash_of (secret ++ bs)) (part.1 late.1) in
      subst (λ (x : rules.Entry). Goes c.args.n c.add_blum.new.block secret (Added c.in-AddBlum.timestamp.epoch c.element_hash-hash.result) (rules.verifier_step c.args.verifier v x)) (sym is)
      (blum_done c.args.n c.add_blum.new.block secret c.element_hash-hash.result c.args.verifier v (record_of c.in-AddBlum.record) (timestamp_of c.in-AddBlum.timestamp) c.in-AddBlum.verifier (Ok c.in_ok-add_blum-in-AddBlum.field-0) refl
      (c.in_ok-add_blum-in-AddBlum.ensures.step c.args.verifier c.in-AddBlum.verifier v k (room (ap is_add is)) late.0) hash);
}

use Rattle.std.proofs.Common.{◌≡◌, ℕ, ◌<◌, true, false, List, [], length, sym, refl, ap, ◌∙◌, subst, arith, rules}
use Rattle.std.proofs.lemmas.Bool.{le-ltb}
use Rattle.model.specs.Verifier.{Verifier, verifier_step}
use Rattle.model.specs.Monitor.{Limits as Meant, Event as Happened, State, state, verifier_at, is_add}
use Rattle.order.proofs.Sums.{settled}
use Rattle.step.specs.Effects.{Goes}
use Rattle.wire.specs.Meaning.{entry_of}
use Rattle.wire.specs.declared.parts.Answer.{Answer}
use Rattle.watch.specs.Promise.{Responds}
use Rattle.block.specs.Blocks.{Keeps}
use Rattle.memory.specs.Ranges.{with_rest}
use Rattle.memory.proofs.Spans.{block_within}
use Rattle.admission.proofs.Refusals.{no_verifier}
use Rattle.watch.proofs.Kept.{refused_kept, lent_keeps, wrong_kept, right_kept, looked, has_room, timely}
use Rattle.watch.proofs.events.logged.Goals as goal
use Rattle.slot.specs.Layout.{bytes_in}

pub returns-then-verifier-limits : goal.returns-then-verifier-limits
returns-then-verifier-limits c = record {
  same = λ _. refl;
  responds = λ l es g a k parts.
      let s = state l es in
      let e = a.verifiers in
      rw c.into.ensures (refused_kept l c.args.mem.now s c.args.verifier _ 2 k (no_verifier l s c.args.verifier _ (le-ltb c.args.verifier l.verifiers (omega (arith, c.if-verifier-limits.true)))) (omega arith));
}

pub slice_bounds-admitted-end : goal.slice_bounds-admitted-end
slice_bounds-admitted-end c =
    let h = block_within (with_rest (λ k. false) [] c.args.limits) c.args.verifier c.if-verifier-limits.false in
    omega (arith, c.requires.size, c.block_start-a.ensures)

pub slice_bounds-step-end : goal.slice_bounds-step-end
slice_bounds-step-end c =
    let h = block_within (with_rest (λ k. false) [] c.args.limits) c.args.verifier c.if-verifier-limits.false in
    omega (arith, c.requires.size, c.block_start-a.ensures)

-- the block, as the checks of refusals have it
block_for : (n p : ℕ) (b : List ℕ) (v : Verifier) → p ≡ n → Keeps n b v → Keeps p b v
block_for n p b v e k = subst (λ (x : ℕ). Keeps x b v) (sym e) k

within : (v n m : ℕ) → v < n → m ≡ n → v < m
within v n m h e = omega arith

pub returns-in-Err : goal.returns-in-Err
returns-in-Err c = record {
  same = λ _. refl;
  responds = λ l es g a k parts.
      let s = state l es in
      let m = c.args.mem.now in
      let t = c.args.verifier in
      let lt = c.if-verifier-limits.false in
      let keeps = lent_keeps l c.args.limits m s t a k lt c.block_start-a.result c.block_start-a.ensures in
      rw c.into-in-Err.ensures (refused_kept l m s t _ _ k
      (c.in-Err.ensures.refusal l s t g (c.standing-standing.ensures.stands l s a k) (within t _ l.verifiers lt a.verifiers) (block_for _ _ _ _ c.standing-standing.ensures.places keeps))
      (omega (arith, c.in-Err.ensures.listed)));
}

-- the words that were lent, once they are given back
given_back : (l : Meant) (s : State) (e : Happened) (x m : List ℕ) (r : Answer) → x ≡ m → Responds l s e m r → Responds l s e x r
given_back l s e x m r q h = subst (λ (k : List ℕ). Responds l s e k r) (sym q) h

pub returns-in-Ok-step : goal.returns-in-Ok-step
returns-in-Ok-step c = record {
  same = λ h. absurd (c.finish.ensures.looked h);
  responds = λ l es g a k parts. given_back l (state l es) _ _ c.finish.new.memory.words.now c.finish.result (search rules) (
      let s = state l es in
      let m = c.args.mem.now in
      let t = c.args.verifier in
      let x = c.args.limits in
      let e = entry_of c.args.entry in
      let lt = c.if-verifier-limits.false in
      let v = verifier_at s.verifiers t in
      let keeps = lent_keeps l x m s t a k lt c.block_start-a.result c.block_start-a.ensures in
      let ok = c.in-Ok.ensures.refusal l s t g (c.standing-standing.ensures.stands l s a k) (within t _ l.verifiers lt a.verifiers) (block_for _ _ _ _ c.standing-standing.ensures.places keeps) in
      let seen = looked l s t e ok in
      let room : is_add e ≡ true → length v.store < x.places = λ i. subst (λ (n : ℕ). length v.store < n) a.places (has_room l v e seen.room i) in
      let secret = ap bytes_in c.secret_of-secret.ensures ∙ k.secret in
      let g' : Goes x.places c.step.new.block l.secret c.in-Ok-step.effect (verifier_step t v e) =
      subst (λ (key : List ℕ). Goes x.places c.step.new.block key c.in-Ok-step.effect (verifier_step t v e)) secret (c.in-Ok-step.ensures.step v keeps room parts (timely l s t c.args.entry g seen parts)) in
      let st = settled l es in
      let at = c.block_start-a.result in
      let is = c.block_start-a.ensures in
      right_kept l x m s t a k lt at is e ok st c.step.new.block c.in-Ok-step.effect g' c.finish.new.memory.words.now c.finish.result c.verifies_epoch-verifies.result
      c.verifies_epoch-verifies.ensures (λ s₁ z laid ready. c.finish.ensures.finished l s₁ z a laid ready));
}

pub returns-in-Err-step : goal.returns-in-Err-step
returns-in-Err-step c = record {
  same = λ h. absurd h;
  responds = λ l es g a k parts.
      let s = state l es in
      let m = c.args.mem.now in
      let t = c.args.verifier in
      let x = c.args.limits in
      let e = entry_of c.args.entry in
      let lt = c.if-verifier-limits.false in
      let v = verifier_at s.verifiers t in
      let keeps = lent_keeps l x m s t a k lt c.block_start-a.result c.block_start-a.ensures in
      let ok = c.in-Ok.ensures.refusal l s t g (c.standing-standing.ensures.stands l s a k) (within t _ l.verifiers lt a.verifiers) (block_for _ _ _ _ c.standing-standing.ensures.places keeps) in
      let seen = looked l s t e ok in
      let room : is_add e ≡ true → length v.store < x.places = λ i. subst (λ (n : ℕ). length v.store < n) a.places (has_room l v e seen.room i) in
      wrong_kept l x m s t a k lt c.block_start-a.result c.block_start-a.ensures e ok c.step.new.block (c.in-Err-step.ensures.same refl)
      (c.in-Err-step.ensures.step v keeps room parts (timely l s t c.args.entry g seen parts));
}

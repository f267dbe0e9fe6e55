-- A right entry's sums and certified epochs.
use mathlib.Core.Path.{◌≡◌, refl, sym, ◌∙◌, ap, subst}
use mathlib.Core.Bool.{Bool, true, false, not, ◌&&◌}
use mathlib.Core.List.{List, [], ◌∷◌}
use Prim.Native.Nat.{ℕ, suc, ◌+◌, ◌<◌, ◌≤◌}
use Rattle.model.specs.Records.{Bytes, pick}
use Rattle.model.specs.Verifier.{Verifier, Element}
use Rattle.model.specs.Monitor.{Limits, State, Sum, all_done, sums_agree, sums_differ, stop, sum_at, add_elements, evict_elements}
use Rattle.wire.specs.declared.parts.Answer.TheVariants.{Wrong, Right, Certified}
use Rattle.memory.specs.Keeping.{Kept, Laid}
use Rattle.memory.proofs.Framed.{kept_from}
use Rattle.epochs.proofs.Again.{laid_again}
use Rattle.epochs.proofs.Waiting.{certify_waits}
use Rattle.step.specs.declared.effect.Effect.{Effect}
use Rattle.finish.specs.Finishing.{Ready, Finished}

-- the same memory keeps a state that differs in nothing that is kept
pub laid_same : (l : Limits) (m : List ℕ) (s z : State) → Laid l m s → z.verifiers ≡ s.verifiers → z.sums ≡ s.sums → z.certified ≡ s.certified → z.stopped ≡ s.stopped → Laid l m z
laid_same l m s z k vs ss cs st =
    laid_again l m m s z k refl (λ i h. refl) (k.stopped ∙ ap (λ (b : Bool). pick b 1 0) (sym st)) (k.certified ∙ sym cs) refl (λ t. refl) vs
    (λ e from to. k.sums e (subst (λ (c : ℕ). c ≤ e) cs from) (subst (λ (c : ℕ). e < c + l.epochs) cs to) ∙ ap (λ (xs : List Sum). sum_at xs e) (sym ss))
    (λ e h. ap (λ (xs : List Sum). sum_at xs e) ss ∙ k.later e (subst (λ (c : ℕ). c + l.epochs ≤ e) cs h))

pub no_sums : (k : Bytes) (ss : List Sum) (added evicted : List Element) → added ≡ [] → evicted ≡ [] → evict_elements k (add_elements k ss added) evicted ≡ ss
unfolding add_elements evict_elements
no_sums k ss added evicted a e = rw (a, e) refl

pub one_added : (k : Bytes) (ss : List Sum) (added evicted : List Element) (x : Element) → added ≡ x ∷ [] → evicted ≡ [] → evict_elements k (add_elements k ss added) evicted ≡ add_elements k ss (x ∷ [])
unfolding evict_elements
one_added k ss added evicted x a e = rw (a, e) refl

pub one_evicted : (k : Bytes) (ss : List Sum) (added evicted : List Element) (x : Element) → added ≡ [] → evicted ≡ x ∷ [] → evict_elements k (add_elements k ss added) evicted ≡ evict_elements k ss (x ∷ [])
unfolding add_elements
one_evicted k ss added evicted x a e = rw (a, e) refl

-- the state between: summed, and nothing certified yet
unfoldable pub between : State → State → State
between s z = record { verifiers = s.verifiers; sums = z.sums; certified = s.certified; stopped = s.stopped; adds = s.adds; evicts = s.evicts; hashed = s.hashed; calls = s.calls }

module _ (l : Limits) (s z : State) (f : Effect) where
  -- nothing is certified, and nothing differs
  pub finish_right : (m : List ℕ) → Laid l m (between s z) → Ready l s z f false → Finished l m z false Right
  unfolding pick between
  finish_right m k r =
      let w = r.waiting refl in
      let same : z.certified ≡ s.certified = r.certifies ∙ certify_waits (suc l.epochs) s.verifiers z.sums s.certified w in
      let waits : all_done z.verifiers z.certified ≡ false = ap (λ (n : ℕ). all_done z.verifiers n) same ∙ ap (λ (vs : List Verifier). all_done vs s.certified) r.verifiers ∙ w in
      let agree : sums_differ z ≡ false = ap (λ (b : Bool). b && not (sums_agree z.sums z.certified)) waits in
      record {
        answered = rw agree refl;
        kept = rw agree (kept_from l m z (laid_same l m (between s z) z k r.verifiers refl same (r.goes_on ∙ sym r.going)) (λ _. waits));
      }

  pub finish_certified : (m : List ℕ) (n : ℕ) → false ≡ sums_differ z → n ≡ z.certified → Kept l m z → Finished l m z true (Certified n)
  unfolding pick
  finish_certified m n agree e k = record { answered = rw (← agree, e) refl; kept = rw (← agree) k }

  pub finish_wrong : (m : List ℕ) → true ≡ sums_differ z → Kept l m (stop z) → Finished l m z true Wrong
  unfolding pick
  finish_wrong m differ k = record { answered = rw (← differ) refl; kept = rw (← differ) k }

-- What an event leaves and is answered, by whether it is refused and what its step is.
use Rattle.std.proofs.Common.{◌≡◌, ℕ, suc, Bool, true, false, eqb, List, refl, ap, ◌∙◌, arith}
use Rattle.std.proofs.lemmas.Bool.{ne_eqb}
use Rattle.model.specs.Records.{pick, Record}
use Rattle.model.specs.Verifier.{Verifier, Entry, Element, fails, goes, verifier_step}
use Rattle.model.specs.Monitor.{Limits, State, Event, Response, logged, refused, right, wrong, certified, refusal, place_of, respond, performed, by_step, stop, stopping, accepted, right_answer, sums_differ, verifier_at, entry_code}

pub picked : {A : Type 0} (b : Bool) (x y : A) → b ≡ true → pick b x y ≡ x
unfolding pick
picked b x y e = rw e

pub not_picked : {A : Type 0} (b : Bool) (x y : A) → b ≡ false → pick b x y ≡ y
unfolding pick
not_picked b x y e = rw e

pub refuses : (l : Limits) (s : State) (e : Event) (k : ℕ) → refusal l s e ≡ suc k → respond l s e ≡ record { state = s; answer = refused (suc k) (place_of e) }
unfolding respond
refuses l s e k h =
    not_picked (eqb (refusal l s e) 0) _ _ (ne_eqb (refusal l s e) 0 (omega (arith, h))) ∙ ap (λ (n : ℕ). record { state = s; answer = refused n (place_of e) }) h

pick_answer : (b : Bool) (x y : Response) → (pick b x y).answer ≡ pick b x.answer y.answer
unfolding pick
pick_answer true x y = refl
pick_answer false x y = refl

pick_state : (b : Bool) (x y : Response) → (pick b x y).state ≡ pick b x.state y.state
unfolding pick
pick_state true x y = refl
pick_state false x y = refl

-- an event that is looked at
module _ (l : Limits) (s : State) (t : ℕ) (e : Entry) (taken : refusal l s (logged t e) ≡ 0) where
  v : Verifier
  v = verifier_at s.verifiers t

  stepped : respond l s (logged t e) ≡ by_step l s t e (verifier_step t (verifier_at s.verifiers t) e)
  unfolding respond performed pick
  stepped = rw taken refl

  pub fails_then : verifier_step t (verifier_at s.verifiers t) e ≡ fails → respond l s (logged t e) ≡ stopping s
  unfolding by_step
  fails_then h = stepped ∙ ap (by_step l s t e) h

  module _ (v' : Verifier) (added evicted : List Element) (hashed : List Record) (is : verifier_step t (verifier_at s.verifiers t) e ≡ goes v' added evicted hashed) where
    finishes : respond l s (logged t e)
        ≡ pick (sums_differ (accepted l s t e v' added evicted hashed)) (stopping (accepted l s t e v' added evicted hashed))
        (record { state = accepted l s t e v' added evicted hashed; answer = right_answer e (accepted l s t e v' added evicted hashed) })
    unfolding by_step
    finishes = stepped ∙ ap (by_step l s t e) is

    pub goes_answer : (respond l s (logged t e)).answer
        ≡ pick (sums_differ (accepted l s t e v' added evicted hashed)) wrong (pick (eqb (entry_code e) 6) (certified (accepted l s t e v' added evicted hashed).certified) right)
    goes_answer = ap (λ (r : Response). r.answer) finishes ∙ pick_answer (sums_differ (accepted l s t e v' added evicted hashed)) _ _

    pub goes_state : (respond l s (logged t e)).state ≡ pick (sums_differ (accepted l s t e v' added evicted hashed)) (stop (accepted l s t e v' added evicted hashed)) (accepted l s t e v' added evicted hashed)
    goes_state = ap (λ (r : Response). r.state) finishes ∙ pick_state (sums_differ (accepted l s t e v' added evicted hashed)) _ _

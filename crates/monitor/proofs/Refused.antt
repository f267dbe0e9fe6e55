-- Events that are refused in every state: those that are none, and those whose entry can't be done.
use mathlib.Core.Path.{◌≡◌, refl, ap, ◌∙◌}
use mathlib.Core.Bool.{Bool, false, ◌&&◌}
use Prim.Native.Nat.{ℕ}
use lib.Dec.{ltb, eqb}
use Rattle.std.proofs.Math.Bool.{and-false}
use Rattle.model.specs.Records.{pick}
use Rattle.model.specs.Verifier.{Entry}
use Rattle.model.specs.Monitor.{Limits, State, logged, malformed, refused, verifier_at, entry_code, good_entry, epoch_named, fits_32, in_range, refusal, place_of, performed, respond, answer}

pub refuses_malformed : (l : Limits) (s : State) (n : ℕ) → answer l s (malformed n) ≡ refused 1 n
unfolding respond refusal place_of pick
refuses_malformed l s n = refl

not_picked : (b : Bool) (x y : ℕ) → b ≡ false → pick b x y ≡ y
unfolding pick
not_picked b x y e = rw e

pub refuses_unsupported : (l : Limits) (s : State) (t : ℕ) (e : Entry) → l.supports (entry_code e) ≡ false → answer l s (logged t e) ≡ refused 2 0
unfolding respond refusal place_of pick
refuses_unsupported l s t e h =
    ap (λ n. (pick (eqb n 0) (performed l s (logged t e)) (record { state = s; answer = refused n 0 })).answer) (not_picked (in_range l s t e) _ 2 out)
  where
    out : in_range l s t e ≡ false
    out =
        ap (λ b. ((ltb t l.verifiers && b) && good_entry l e) && fits_32 (epoch_named (verifier_at s.verifiers t) e)) h
        ∙ ap (λ b. (b && good_entry l e) && fits_32 (epoch_named (verifier_at s.verifiers t) e)) (and-false (ltb t l.verifiers))

-- The one-order theorem: all that was asked in certified epochs is in one order, or two things in this very log collide.
use Rattle.std.proofs.Common.{◌≡◌, ℕ, ◌<◌, ◌≤◌, true, ◌⊎◌, List, [], ◌∷◌, length, sym, refl, ap, ◌∙◌, subst, inl, inr, arith}
use Rattle.std.proofs.lemmas.Bool.{cases_eq, cases_lt}
use Rattle.model.specs.Verifier.{Element}
use Rattle.model.specs.Monitor.{State, state}
use Rattle.model.specs.Order.{gets_right, in_epochs_below, of_verifier, times_in, Member, OneOrderOrCollision, CertifiedIsOne}
use Rattle.order.proofs.Invariant.{Inv, Collide}
use Rattle.order.proofs.Replay.{Replayed, adds_of, evicts_of, hashes_of, calls_of, Pending, stores_after, replay_right}
use Rattle.order.proofs.Log.{Replays, state_replay}
use Rattle.order.proofs.Sort.{cut, sorted, cut_replay, sorted_replay, sorted_calls, sorted_length, cut_calls, collide_cut}
use Rattle.order.proofs.Matched.{Even, cut_matched}
use Rattle.order.proofs.Sums.{settled}

-- an element that was added not as often as it was evicted
abbrev Odd : ℕ → List Element → List Element → List Element → Type 0
Odd n adds evicts zs = (x : Element) × (Member x zs × (x.timestamp.epoch < n) × (times_in x adds ≡ times_in x evicts → ⊥))

even_or_odd : (n : ℕ) (adds evicts zs : List Element) →
    ((x : Element) → Member x zs → x.timestamp.epoch < n → times_in x adds ≡ times_in x evicts) ⊎ Odd n adds evicts zs
even_or_odd n adds evicts [] = inl (λ x h. absurd h)
even_or_odd n adds evicts (z ∷ zs) = go (even_or_odd n adds evicts zs) (cases_lt z.timestamp.epoch n) (cases_eq (times_in z adds) (times_in z evicts))
  where
    Same : Element → Type 0
    Same x = x.timestamp.epoch < n → times_in x adds ≡ times_in x evicts

    more : Same z → ((x : Element) → Member x zs → Same x) → (x : Element) → Member x (z ∷ zs) → Same x
    more a f x (inl i) = subst Same (sym i) a
    more a f x (inr h) = f x h

    go : ((x : Element) → Member x zs → Same x) ⊎ Odd n adds evicts zs → (z.timestamp.epoch < n) ⊎ (n ≤ z.timestamp.epoch) →
        (times_in z adds ≡ times_in z evicts) ⊎ (times_in z adds ≡ times_in z evicts → ⊥) → ((x : Element) → Member x (z ∷ zs) → Same x) ⊎ Odd n adds evicts (z ∷ zs)
    go (inr o) h e = inr (o.0, (inr o.1.0, o.1.1, o.1.2))
    go (inl f) h (inl e) = inl (more (λ k. e) f)
    go (inl f) (inl h) (inr m) = inr (z, (inl refl, h, m))
    go (inl f) (inr h) (inr m) = inl (more (λ k. absurd (omega arith)) f)

pub certified_is_one : CertifiedIsOne
unfolding CertifiedIsOne
certified_is_one l es = decide (even_or_odd n (adds_of ds) (evicts_of ds) (adds_of ds))
  where
    s : State
    s = state l es

    n : ℕ
    n = s.certified

    ds : List Replayed
    ds = (state_replay l es).0

    T : Replays l s ds
    T = (state_replay l es).1

    -- the order: the right entries of the certified epochs, sorted by clocks
    os : List Replayed
    os = sorted (cut n ds)

    calls_are : calls_of (cut n ds) ≡ in_epochs_below n s.calls
    calls_are = cut_calls n ds ∙ ap (in_epochs_below n) (sym T.calls)

    by : Collide (hashes_of os) ⊎ (Inv (stores_after os) (hashes_of os) (calls_of os) (Pending (adds_of os) (evicts_of os)) × (gets_right (calls_of os) ≡ true)) → OneOrderOrCollision s
    by (inl m) = two (subst Collide (sym T.hashed) (collide_cut n ds m))
      where
        two : Collide s.hashed → OneOrderOrCollision s
        two (inl a) = inr (inl a)
        two (inr b) = inr (inr (inl b))
    by (inr r) =
        inl (calls_of os, (r.1, (λ t. sorted_calls t (cut n ds) (cut_replay n ds T.valid) ∙ ap (of_verifier t) calls_are), sorted_length (cut n ds) ∙ ap length calls_are))

    decide : Even n ds ⊎ Odd n (adds_of ds) (evicts_of ds) (adds_of ds) → OneOrderOrCollision s
    decide (inl even) = by (replay_right os (sorted_replay (cut n ds) (cut_replay n ds T.valid)) (cut_matched l n ds T.valid T.good even))
    decide (inr o) = inr (inr (inr (x, (subst (Member x) (sym T.adds) o.1.0, o.1.1, differ, (settled l es).even x.timestamp.epoch o.1.1))))
      where
        x : Element
        x = o.0

        differ : times_in x s.adds ≡ times_in x s.evicts → ⊥
        differ e = o.1.2 (ap (times_in x) (sym T.adds) ∙ (e ∙ ap (times_in x) T.evicts))

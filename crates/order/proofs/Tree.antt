-- Without sums: all calls so far are right in the log's own order, or two records or keys in it collide.
use Rattle.std.proofs.Common.{◌≡◌, ℕ, true, ◌⊎◌, List, [], ◌∷◌, sym, refl, ap, ◌∙◌, subst, inl, inr}
use Rattle.std.proofs.lemmas.Bool.{false≢true}
use Rattle.model.specs.Verifier.{Entry, Verifier, Step, fails, goes, verifier_step}
use Rattle.model.specs.Monitor.{Limits, entry_code, state}
use Rattle.model.specs.Order.{gets_right, ValuesCollide, KeysCollide, merkle_only, OneOrderNow, OneByTheTree}
use Rattle.order.proofs.Ways.{by_ways}
use Rattle.order.proofs.Invariant.{Inv, Collide}
use Rattle.order.proofs.Replay.{Replayed, verifier_after, adds_of, evicts_of, hashes_of, calls_of, Pending, Replay, AllMatched, stores_after, replay_right}
use Rattle.order.proofs.Log.{AllLookedAt, Replays, state_replay}

abbrev AddsNone : Step → Type 0
AddsNone fails = Unit
AddsNone (goes v adds evicts hashes) = adds ≡ []

-- the entries without sums add nothing to them
adds_none : (t : ℕ) (v : Verifier) (e : Entry) → merkle_only (entry_code e) ≡ true → AddsNone (verifier_step t v e)
unfolding entry_code
adds_none t v =
    by_ways t v (λ e s. merkle_only (entry_code e) ≡ true → AddsNone s)
    (record {
      wrong = λ e g. tt;
      new_child = λ r q y a n e i g. refl;
      same_child = λ r q y a n e g. refl;
      new_node = λ r q y p h b a n e i d u g. refl;
      adds_blum = λ r m j z n d g. absurd (false≢true g);
      evicts_merkle = λ p q x y h b k a n e g. refl;
      evicts_blum = λ p m x k n g. refl;
      evicts_blum_merkle = λ p q m x y h k a e n g. refl;
      begins_epoch = λ g. refl;
      ends_epoch = λ d g. refl;
      gets = λ k w x n e g. refl;
      sets = λ k w x u n e g. refl;
    })

-- so nothing needs to be matched
matched : (l : Limits) → ((k : ℕ) → l.supports k ≡ merkle_only k) → (ds : List Replayed) → Replay ds → AllLookedAt l ds → AllMatched ds
matched l can [] v g = tt
matched l can (d ∷ ds) v g =
    (rw (subst AddsNone v.0 (adds_none d.who (verifier_after d.who ds) d.entry (sym (can (entry_code d.entry)) ∙ g.0.can))) tt, matched l can ds v.2 g.1)

pub one_by_the_tree : OneByTheTree
unfolding OneByTheTree
one_by_the_tree l es can = go (replay_right ds T.valid (matched l can ds T.valid T.good))
  where
    ds : List Replayed
    ds = (state_replay l es).0

    T : Replays l (state l es) ds
    T = (state_replay l es).1

    go : Collide (hashes_of ds) ⊎ (Inv (stores_after ds) (hashes_of ds) (calls_of ds) (Pending (adds_of ds) (evicts_of ds)) × (gets_right (calls_of ds) ≡ true)) →
        OneOrderNow (state l es) ⊎ (ValuesCollide (state l es).hashed ⊎ KeysCollide (state l es).hashed)
    go (inl m) = inr (subst Collide (sym T.hashed) m)
    go (inr r) = inl (ap gets_right T.calls ∙ r.1)

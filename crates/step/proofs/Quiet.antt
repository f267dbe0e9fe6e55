-- What is true of every right step: who is done with an epoch, and what is summed.
use Rattle.std.proofs.Common.{◌≡◌, ℕ, suc, true, false, eqb, List, [], ◌∷◌, is_ok, is_err, Ok, Err, Option, Result, sym, refl, Bor}
use Rattle.std.proofs.lemmas.Bool.{both_ways}
use Rattle.model.specs.Verifier.{Verifier, Entry, Element, Step, fails, goes, verifier_step}
use Rattle.model.specs.Monitor.{entry_code, epoch_named}
use Rattle.order.proofs.Ways.{Ways, by_ways}
use Rattle.order.proofs.Lists.{pick_both}
use Rattle.model.specs.Records as model
use Rattle.model.specs.Verifier as rules
use Rattle.model.specs.Verifier.{add_blum, add_blum_step, can_add_blum}
use Rattle.model.specs.Monitor.{element_hash}
use Rattle.path.specs.declared.times.Timestamp.{Timestamp}
use Rattle.reader.specs.declared.Record.{Record}
use Rattle.wire.specs.declared.parts.Entry as code
use Rattle.wire.specs.declared.parts.Entry.TheVariants.{AddMerkle, AddBlum, EvictMerkle, EvictBlum, EvictBlumMerkle, NextEpoch, VerifyEpoch, Get, Set}
use Rattle.wire.specs.Meaning.{entry_of}
use Rattle.conditions.specs.declared.parts.Failure.{Failure}
use Rattle.block.specs.Blocks.{Taken}
use Rattle.step.specs.Effects.{Goes, Stepped, sums_none}
use Rattle.step.specs.declared.effect.Effect.{Effect}
use Rattle.step.specs.declared.effect.Effect.TheVariants.{Nothing, Added}
use Rattle.slot.specs.Layout.{number_in}

abbrev pub AllOf : ℕ → List Element → Type 0
AllOf n [] = Unit {0}
AllOf n (x ∷ xs) = (x.timestamp.epoch ≡ n) × AllOf n xs

pub record Quiet (v w : Verifier) (e : Entry) (added evicted : List Element) : Type 0 where
  -- only VerifyEpoch is done with an epoch, with one more
  pub done : eqb (entry_code e) 6 ≡ false → w.done ≡ v.done
  pub done_more : eqb (entry_code e) 6 ≡ true → w.done ≡ suc v.done
  -- only AddBlum adds an element, and only EvictBlum and EvictBlumMerkle evict one
  pub added_none : eqb (entry_code e) 1 ≡ false → added ≡ []
  pub evicted_none : eqb (entry_code e) 3 ≡ false → eqb (entry_code e) 4 ≡ false → evicted ≡ []
  -- and each is of the epoch that the entry names
  pub added_named : AllOf (epoch_named v e) added
  pub evicted_named : AllOf (epoch_named v e) evicted

abbrev pub Quietly : Verifier → Entry → Step → Type 0
Quietly v e fails = Unit {0}
Quietly v e (goes w added evicted hashed) = Quiet v w e added evicted

no_way : {A : Type 0} → false ≡ true → A
no_way e = absurd (both_ways true (sym e) refl)

pub quietly : (t : ℕ) (v : Verifier) (e : Entry) → Quietly v e (verifier_step t v e)
unfolding entry_code epoch_named
quietly t v = by_ways t v (Quietly v) ways
  where
    -- but for VerifyEpoch
    nothing : (e : Entry) (w : Verifier) → eqb (entry_code e) 6 ≡ false → w.done ≡ v.done → Quiet v w e [] []
    nothing e w o h = record { done = λ _. h; done_more = λ i. absurd (both_ways (eqb (entry_code e) 6) o i); added_none = λ _. refl; evicted_none = λ _ _. refl; added_named = tt; evicted_named = tt }

    ways : Ways t v (Quietly v)
    ways = record {
      wrong = λ e. tt;
      new_child = λ r q y a f p i. nothing _ _ refl refl;
      same_child = λ r q y a f p. nothing _ _ refl refl;
      new_node = λ r q y p h b a f i j k z. nothing _ _ refl refl;
      adds_blum = λ r m j a b d. record { done = λ _. refl; done_more = λ e. no_way e; added_none = λ e. no_way (sym e); evicted_none = λ _ _. refl; added_named = (refl, tt); evicted_named = tt };
      evicts_merkle = λ p q x y h b f a c i. nothing _ _ refl refl;
      evicts_blum = λ p m x f e. record { done = λ _. refl; done_more = λ e. no_way e; added_none = λ _. refl; evicted_none = λ e _. no_way (sym e); added_named = tt; evicted_named = (refl, tt) };
      evicts_blum_merkle = λ p q m x y h f a i e. record { done = λ _. refl; done_more = λ e. no_way e; added_none = λ _. refl; evicted_none = λ _ e. no_way (sym e); added_named = tt; evicted_named = (refl, tt) };
      begins_epoch = nothing _ _ refl refl;
      ends_epoch = λ h. record { done = λ e. no_way (sym e); done_more = λ _. refl; added_none = λ _. refl; evicted_none = λ _ _. refl; added_named = tt; evicted_named = tt };
      gets = λ k w x f e. nothing _ _ refl refl;
      sets = λ k w x u f e. nothing _ _ refl refl;
    }

-- ---- what code was answered by a step, turned round

pub err_fails : (n : ℕ) (b : List ℕ) (r : Result (Unit {0}) Failure) (s : Step) → is_ok r ≡ false → Taken n b r s → s ≡ fails
err_fails n b r fails e h = refl
err_fails n b r (goes v added evicted hashed) e h = absurd (both_ways (is_ok r) e h.0)

quiet_goes : (n : ℕ) (b k : List ℕ) (v : Verifier) (e : Entry) (r : Result (Unit {0}) Failure) (s : Step) → is_ok r ≡ true → Taken n b r s → Quietly v e s
    → eqb (entry_code e) 1 ≡ false → eqb (entry_code e) 3 ≡ false → eqb (entry_code e) 4 ≡ false → Goes n b k Nothing s
quiet_goes n b k v e r fails o h q x y z = absurd (both_ways (is_ok r) h o)
quiet_goes n b k v e r (goes w added evicted hashed) o h q x y z =
    record { left = w; added = added; evicted = evicted; hashed = hashed; is = refl; keeps = h.1; effect = (q.added_none x, q.evicted_none y z) }

-- an entry of which nothing is summed
quiet_codes : (e : code.Entry) → sums_none e ≡ true → (eqb (entry_code (entry_of e)) 1 ≡ false) × (eqb (entry_code (entry_of e)) 3 ≡ false) × (eqb (entry_code (entry_of e)) 4 ≡ false)
unfolding entry_code
quiet_codes (AddMerkle r q) h = (refl, refl, refl)
quiet_codes (AddBlum r m j x) h = no_way h
quiet_codes (EvictMerkle p q) h = (refl, refl, refl)
quiet_codes (EvictBlum p m) h = no_way h
quiet_codes (EvictBlumMerkle p q m) h = no_way h
quiet_codes NextEpoch h = (refl, refl, refl)
quiet_codes VerifyEpoch h = (refl, refl, refl)
quiet_codes (Get k t) h = (refl, refl, refl)
quiet_codes (Set k t) h = (refl, refl, refl)

pub quiet_done : (n : ℕ) (b k : List ℕ) (t : ℕ) (v : Verifier) (e : code.Entry) (r : Result (Unit {0}) Failure) → sums_none e ≡ true → is_ok r ≡ true → Taken n b r (verifier_step t v (entry_of e))
    → Goes n b k Nothing (verifier_step t v (entry_of e))
quiet_done n b k t v e r h o taken = let c = quiet_codes e h in quiet_goes n b k v (entry_of e) r _ o taken (quietly t v (entry_of e)) c.0 c.1 c.2

abbrev Text : Type 0
Text = Bor (List ℕ)

pub sums_none_of : (e : code.Entry)
    → ((r : Record) (m : Timestamp) (j : ℕ) (x : Text) → e ≡ AddBlum r m j x → ⊥) → ((p : Text) (m : Timestamp) → e ≡ EvictBlum p m → ⊥) → ((p q : Text) (m : Timestamp) → e ≡ EvictBlumMerkle p q m → ⊥) → sums_none e ≡ true
sums_none_of (AddMerkle r q) a b c = refl
sums_none_of (AddBlum r m j x) a b c = absurd (a r m j x refl)
sums_none_of (EvictMerkle p q) a b c = refl
sums_none_of (EvictBlum p m) a b c = absurd (b p m refl)
sums_none_of (EvictBlumMerkle p q m) a b c = absurd (c p q m refl)
sums_none_of NextEpoch a b c = refl
sums_none_of VerifyEpoch a b c = refl
sums_none_of (Get k t) a b c = refl
sums_none_of (Set k t) a b c = refl

-- ---- AddBlum: the element that comes with the entry is the one that is added

only_added : (n : ℕ) (b k h : List ℕ) (v : Verifier) (x : model.Record) (m : rules.Timestamp) (j : ℕ) (r : Result (Unit {0}) Failure) → is_ok r ≡ true
    → Taken n b r (add_blum_step v x m j) → number_in h ≡ element_hash k (record { rec = x; timestamp = m; verifier = j }) → Goes n b k (Added m.epoch h) (add_blum_step v x m j)
only_added n b k h v x m j r o taken e =
    pick_both (λ s. Taken n b r s → Goes n b k (Added m.epoch h) s) (can_add_blum v x m) _ _
    (λ c t. record { left = _; added = _; evicted = _; hashed = _; is = refl; keeps = t.1; effect = (record { element = record { rec = x; timestamp = m; verifier = j }; only = refl; epoch = refl; hash = e }, refl) })
    (λ c t. absurd (both_ways (is_ok r) t o))
    taken

pub blum_done : (n : ℕ) (b k h : List ℕ) (t : ℕ) (v : Verifier) (x : model.Record) (m : rules.Timestamp) (j : ℕ) (r : Result (Unit {0}) Failure) → is_ok r ≡ true
    → Taken n b r (verifier_step t v (add_blum x m j)) → number_in h ≡ element_hash k (record { rec = x; timestamp = m; verifier = j }) → Goes n b k (Added m.epoch h) (verifier_step t v (add_blum x m j))
unfolding verifier_step
blum_done n b k h t v x m j r o taken e = only_added n b k h v x m j r o taken e

-- the others are all
pub no_other : (e : code.Entry) → ((r : Record) (q : Text) → e ≡ AddMerkle r q → ⊥) → ((p q : Text) → e ≡ EvictMerkle p q → ⊥) → (e ≡ NextEpoch → ⊥) → (e ≡ VerifyEpoch → ⊥)
    → ((k : Text) (v : Option Text) → e ≡ Get k v → ⊥) → ((k v : Text) → e ≡ Set k v → ⊥) → sums_none e ≡ true → ⊥
no_other (AddMerkle r q) a b c d g s h = a r q refl
no_other (AddBlum r m j x) a b c d g s h = both_ways true (sym h) refl
no_other (EvictMerkle p q) a b c d g s h = b p q refl
no_other (EvictBlum p m) a b c d g s h = both_ways true (sym h) refl
no_other (EvictBlumMerkle p q m) a b c d g s h = both_ways true (sym h) refl
no_other NextEpoch a b c d g s h = c refl
no_other VerifyEpoch a b c d g s h = d refl
no_other (Get k v) a b c d g s h = g k v refl
no_other (Set k v) a b c d g s h = s k v refl

pub err_stepped : (n : ℕ) (b k : List ℕ) (r : Result Effect Failure) (s : Step) → is_err r ≡ true → s ≡ fails → Stepped n b k r s
err_stepped n b k (Ok f) s h e = absurd (both_ways true (sym h) refl)
err_stepped n b k (Err f) s h e = e

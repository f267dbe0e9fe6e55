-- The entries of a log that are in certified epochs, in the order of the clocks that they leave.
use Rattle.std.proofs.Common.{◌≡◌, ℕ, ◌<◌, Bool, true, false, eqb, ltb, ◌⊎◌, List, [], ◌∷◌, ◌++◌, length, sym, refl, ap, ◌∙◌, subst, inl, inr, arith, length-append}
use Rattle.std.proofs.lemmas.Bool.{both_ways, ltb-true, lt-ltb, ne_eqb, cases_eq}
use Rattle.model.specs.Records.{pick, Record}
use Rattle.model.specs.Verifier.{Timestamp, earlier, verifier_step}
use Rattle.model.specs.Monitor.{Call, is_call}
use Rattle.model.specs.Order.{in_epochs_below, of_verifier, Member}
use Rattle.order.proofs.Lists.{picks, picks_not, All, all_map}
use Rattle.order.proofs.Invariant.{Collide, collide_map, FitEntry}
use Rattle.order.proofs.Replay.{Replayed, verifier_after, hashes_of, calls_of, StepOf, from_gathered, to_gathered, Replay}
use Rattle.order.proofs.Log.{after_at, after_off}
use Rattle.order.proofs.Clocks.{Upto, earlier_before, earlier_not, before_upto, upto_trans, before_not, upto_refl, upto_clock, Went, WentWell, well}

abbrev pub clock_of : Replayed → Timestamp
clock_of d = d.now.clock

-- how an entry went
pub went : (d : Replayed) (ds : List Replayed) → StepOf d ds → Went d.who (verifier_after d.who ds) d.now d.adds d.evicts
went d ds e = subst (WentWell d.who (verifier_after d.who ds)) e (well d.who (verifier_after d.who ds) d.entry)

abbrev pub cut : ℕ → List Replayed → List Replayed
cut n [] = []
cut n (d ∷ ds) = pick (ltb (clock_of d).epoch n) (d ∷ cut n ds) (cut n ds)

abbrev pub insert : Replayed → List Replayed → List Replayed
insert d [] = d ∷ []
insert d (x ∷ xs) = pick (earlier (clock_of d) (clock_of x)) (x ∷ insert d xs) (d ∷ (x ∷ xs))

abbrev pub sorted : List Replayed → List Replayed
sorted [] = []
sorted (d ∷ ds) = insert d (sorted ds)

-- ---- cut at an epoch

cut_in : (n : ℕ) (d : Replayed) (ds : List Replayed) → (clock_of d).epoch < n → cut n (d ∷ ds) ≡ d ∷ cut n ds
cut_in n d ds h = picks (ltb (clock_of d).epoch n) (d ∷ cut n ds) (cut n ds) (lt-ltb (clock_of d).epoch n h)

pub cut_after : (n : ℕ) (t : ℕ) (ds : List Replayed) → (verifier_after t ds).clock.epoch < n → verifier_after t (cut n ds) ≡ verifier_after t ds
unfolding pick
cut_after n t [] h = refl
cut_after n t (d ∷ ds) h = go (cases_eq t d.who) (cut_after n t ds)
  where
    go : (t ≡ d.who) ⊎ (t ≡ d.who → ⊥) → ((verifier_after t ds).clock.epoch < n → verifier_after t (cut n ds) ≡ verifier_after t ds) → verifier_after t (cut n (d ∷ ds)) ≡ verifier_after t (d ∷ ds)
    go (inl i) ih =
        ap (verifier_after t) (cut_in n d ds (let e : (verifier_after t (d ∷ ds)).clock.epoch ≡ (clock_of d).epoch = ap (λ c. c.clock.epoch) (after_at t d ds i) in omega arith))
        ∙ (after_at t d (cut n ds) i ∙ sym (after_at t d ds i))
    go (inr m) ih = by (ltb (clock_of d).epoch n) ∙ (ih (let e : (verifier_after t (d ∷ ds)).clock.epoch ≡ (verifier_after t ds).clock.epoch = ap (λ c. c.clock.epoch) (after_off t d ds m) in omega arith) ∙ sym (after_off t d ds m))
      where
        by : (b : Bool) → verifier_after t (pick b (d ∷ cut n ds) (cut n ds)) ≡ verifier_after t (cut n ds)
        by true = after_off t d (cut n ds) m
        by false = refl

pub cut_replay : (n : ℕ) (ds : List Replayed) → Replay ds → Replay (cut n ds)
unfolding pick
cut_replay n [] v = tt
cut_replay n (d ∷ ds) v = go (ltb (clock_of d).epoch n) refl (cut_replay n ds v.2)
  where
    go : (b : Bool) → ltb (clock_of d).epoch n ≡ b → Replay (cut n ds) → Replay (pick b (d ∷ cut n ds) (cut n ds))
    go true i ih =
        let w = (upto_clock (verifier_after d.who ds).clock (verifier_after d.who ds).last_evicted d.now.clock d.now.last_evicted (went d ds v.0).onward).0 in
        let k = ltb-true (clock_of d).epoch n i in
        (ap (λ c. verifier_step d.who c d.entry) (cut_after n d.who ds (omega arith)) ∙ v.0, v.1, ih)
    go false i ih = ih

pub cut_all : (P : Replayed → Type 0) (n : ℕ) (ds : List Replayed) → All P ds → All P (cut n ds)
unfolding pick
cut_all P n [] a = tt
cut_all P n (d ∷ ds) a = go (ltb (clock_of d).epoch n) (cut_all P n ds a.1)
  where
    go : (b : Bool) → All P (cut n ds) → All P (pick b (d ∷ cut n ds) (cut n ds))
    go true ih = (a.0, ih)
    go false ih = ih

-- ---- sorted by the clock

pub insert_all : (P : Replayed → Type 0) (d : Replayed) (os : List Replayed) → P d → All P os → All P (insert d os)
unfolding pick
insert_all P d [] p a = (p, tt)
insert_all P d (x ∷ xs) p a = go (earlier (clock_of d) (clock_of x)) (insert_all P d xs p a.1)
  where
    go : (b : Bool) → All P (insert d xs) → All P (pick b (x ∷ insert d xs) (d ∷ (x ∷ xs)))
    go true ih = (a.0, ih)
    go false ih = (p, a)

pub sorted_all : (P : Replayed → Type 0) (ds : List Replayed) → All P ds → All P (sorted ds)
sorted_all P [] a = tt
sorted_all P (d ∷ ds) a = insert_all P d (sorted ds) a.0 (sorted_all P ds a.1)

-- an entry comes after its verifier's own
abbrev pub Own : Replayed → Replayed → Type 0
Own d x = x.who ≡ d.who → earlier (clock_of d) (clock_of x) ≡ false

pub insert_after : (t : ℕ) (d : Replayed) (os : List Replayed) → All (Own d) os → verifier_after t (insert d os) ≡ verifier_after t (d ∷ os)
unfolding pick
insert_after t d [] a = refl
insert_after t d (x ∷ xs) a = go (earlier (clock_of d) (clock_of x)) refl (insert_after t d xs a.1)
  where
    go : (b : Bool) → earlier (clock_of d) (clock_of x) ≡ b → verifier_after t (insert d xs) ≡ verifier_after t (d ∷ xs) → verifier_after t (pick b (x ∷ insert d xs) (d ∷ (x ∷ xs))) ≡ verifier_after t (d ∷ (x ∷ xs))
    go false i ih = refl
    go true i ih = by (cases_eq t x.who) (cases_eq t d.who)
      where
        apart : x.who ≡ d.who → ⊥
        apart j = both_ways (earlier (clock_of d) (clock_of x)) (a.0 j) i

        by : (t ≡ x.who) ⊎ (t ≡ x.who → ⊥) → (t ≡ d.who) ⊎ (t ≡ d.who → ⊥) → verifier_after t (x ∷ insert d xs) ≡ verifier_after t (d ∷ (x ∷ xs))
        by (inl j) (inl k) = absurd (apart (sym j ∙ k))
        by (inl j) (inr k) = after_at t x (insert d xs) j ∙ sym (after_off t d (x ∷ xs) k ∙ after_at t x xs j)
        by (inr j) (inl k) = after_off t x (insert d xs) j ∙ (ih ∙ (after_at t d xs k ∙ sym (after_at t d (x ∷ xs) k)))
        by (inr j) (inr k) = after_off t x (insert d xs) j ∙ (ih ∙ (after_off t d xs k ∙ sym (after_off t d (x ∷ xs) k ∙ after_off t x xs j)))

pub insert_replay : (d : Replayed) (os : List Replayed) → All (Own d) os → Replay os → StepOf d os → FitEntry d.entry → Replay (insert d os)
unfolding pick
insert_replay d [] a v s f = (s, f, tt)
insert_replay d (x ∷ xs) a v s f = go (earlier (clock_of d) (clock_of x)) refl (insert_replay d xs a.1 v.2)
  where
    go : (b : Bool) → earlier (clock_of d) (clock_of x) ≡ b → (StepOf d xs → FitEntry d.entry → Replay (insert d xs)) → Replay (pick b (x ∷ insert d xs) (d ∷ (x ∷ xs)))
    go false i ih = (s, f, v)
    go true i ih = (
      ap (λ c. verifier_step x.who c x.entry) (insert_after x.who d xs a.1 ∙ after_off x.who d xs apart) ∙ v.0,
      v.1,
      ih (ap (λ c. verifier_step d.who c d.entry) (sym (after_off d.who x xs (λ j. apart (sym j)))) ∙ s) f,
    )
      where
        apart : x.who ≡ d.who → ⊥
        apart j = both_ways (earlier (clock_of d) (clock_of x)) (a.0 j) i

pub last_on : (t : ℕ) (d : Replayed) (ds : List Replayed) → StepOf d ds → Upto (verifier_after t ds).clock (verifier_after t (d ∷ ds)).clock
last_on t d ds e = go (cases_eq t d.who)
  where
    go : (t ≡ d.who) ⊎ (t ≡ d.who → ⊥) → Upto (verifier_after t ds).clock (verifier_after t (d ∷ ds)).clock
    go (inl i) =
        subst (λ c. Upto (verifier_after t ds).clock c.clock) (sym (after_at t d ds i))
        (subst (λ u. Upto (verifier_after u ds).clock (clock_of d)) (sym i) (upto_clock (verifier_after d.who ds).clock (verifier_after d.who ds).last_evicted d.now.clock d.now.last_evicted (went d ds e).onward))
    go (inr n) = subst (λ c. Upto (verifier_after t ds).clock c.clock) (sym (after_off t d ds n)) (upto_refl (verifier_after t ds).clock)

-- a verifier's clock is not before those of its entries
pub own_le : (ds : List Replayed) → Replay ds → (t : ℕ) → All (λ x. x.who ≡ t → Upto (clock_of x) (verifier_after t ds).clock) ds
own_le [] v t = tt
own_le (d ∷ ds) v t = (
  (λ i. subst (λ c. Upto (clock_of d) c.clock) (sym (after_at t d ds (sym i))) (upto_refl (clock_of d))),
  all_map (λ x. x.who ≡ t → Upto (clock_of x) (verifier_after t ds).clock) (λ x. x.who ≡ t → Upto (clock_of x) (verifier_after t (d ∷ ds)).clock) ds
      (λ x f i. upto_trans (clock_of x) (verifier_after t ds).clock (verifier_after t (d ∷ ds)).clock (f i) (last_on t d ds v.0)) (own_le ds v.2 t),
)

not_before : (a b : Timestamp) → Upto b a → earlier a b ≡ false
not_before a b h = go (earlier a b) refl
  where
    go : (x : Bool) → earlier a b ≡ x → x ≡ false
    go true e = absurd (before_not a b (earlier_before a b e) h)
    go false e = refl

owns : (d : Replayed) (ds : List Replayed) → Replay (d ∷ ds) → All (Own d) (sorted ds)
owns d ds v =
    sorted_all (Own d) ds (all_map (λ x. x.who ≡ d.who → Upto (clock_of x) (verifier_after d.who ds).clock) (Own d) ds
    (λ x f i. not_before (clock_of d) (clock_of x) (upto_trans (clock_of x) (verifier_after d.who ds).clock (clock_of d) (f i)
    (upto_clock (verifier_after d.who ds).clock (verifier_after d.who ds).last_evicted d.now.clock d.now.last_evicted (went d ds v.0).onward)))
    (own_le ds v.2 d.who))

pub sorted_last : (t : ℕ) (ds : List Replayed) → Replay ds → verifier_after t (sorted ds) ≡ verifier_after t ds
sorted_last t [] v = refl
sorted_last t (d ∷ ds) v = insert_after t d (sorted ds) (owns d ds v) ∙ ap (λ c. pick (eqb t d.who) d.now c) (sorted_last t ds v.2)

pub sorted_replay : (ds : List Replayed) → Replay ds → Replay (sorted ds)
sorted_replay [] v = tt
sorted_replay (d ∷ ds) v =
    insert_replay d (sorted ds) (owns d ds v) (sorted_replay ds v.2) (ap (λ c. verifier_step d.who c d.entry) (sorted_last d.who ds v.2) ∙ v.0) v.1

-- the latest clock first
abbrev pub Down : List Replayed → Type 0
Down [] = Unit
Down (x ∷ xs) = All (λ y. Upto (clock_of y) (clock_of x)) xs × Down xs

pub insert_down : (d : Replayed) (os : List Replayed) → Down os → Down (insert d os)
unfolding pick
insert_down d [] h = (tt, tt)
insert_down d (x ∷ xs) h = go (earlier (clock_of d) (clock_of x)) refl (insert_down d xs h.1)
  where
    go : (b : Bool) → earlier (clock_of d) (clock_of x) ≡ b → Down (insert d xs) → Down (pick b (x ∷ insert d xs) (d ∷ (x ∷ xs)))
    go true i ih = (insert_all (λ y. Upto (clock_of y) (clock_of x)) d xs (before_upto (clock_of d) (clock_of x) (earlier_before (clock_of d) (clock_of x) i)) h.0, ih)
    go false i ih =
        ((earlier_not (clock_of d) (clock_of x) i, all_map (λ y. Upto (clock_of y) (clock_of x)) (λ y. Upto (clock_of y) (clock_of d)) xs (λ y f. upto_trans (clock_of y) (clock_of x) (clock_of d) f (earlier_not (clock_of d) (clock_of x) i)) h.0), h)

pub sorted_down : (ds : List Replayed) → Down (sorted ds)
sorted_down [] = tt
sorted_down (d ∷ ds) = insert_down d (sorted ds) (sorted_down ds)

-- ---- calls

abbrev pub call_of : Replayed → List Call
call_of d = pick (is_call d.entry) (record { verifier = d.who; epoch = d.now.clock.epoch; entry = d.entry } ∷ []) []

of_split : (t : ℕ) (xs ys : List Call) → of_verifier t (xs ++ ys) ≡ of_verifier t xs ++ of_verifier t ys
unfolding of_verifier pick
of_split t [] ys = refl
of_split t (x ∷ xs) ys = go (eqb t x.verifier) (of_split t xs ys)
  where
    go : (b : Bool) → of_verifier t (xs ++ ys) ≡ of_verifier t xs ++ of_verifier t ys →
        pick b (x ∷ of_verifier t (xs ++ ys)) (of_verifier t (xs ++ ys)) ≡ pick b (x ∷ of_verifier t xs) (of_verifier t xs) ++ of_verifier t ys
    go true ih = ap (λ l. x ∷ l) ih
    go false ih = ih

of_none : (t : ℕ) (d : Replayed) → (t ≡ d.who → ⊥) → of_verifier t (call_of d) ≡ []
unfolding of_verifier pick
of_none t d n = go (is_call d.entry)
  where
    a : Call
    a = record { verifier = d.who; epoch = d.now.clock.epoch; entry = d.entry }

    go : (b : Bool) → of_verifier t (pick b (a ∷ []) []) ≡ []
    go true = picks_not (eqb t d.who) (a ∷ []) [] (ne_eqb t d.who n)
    go false = refl

-- two calls of different verifiers may change places
of_swap : (t : ℕ) (x d : Replayed) (ys : List Call) → (x.who ≡ d.who → ⊥) → of_verifier t (call_of x ++ (call_of d ++ ys)) ≡ of_verifier t (call_of d ++ (call_of x ++ ys))
of_swap t x d ys n = go (cases_eq t x.who)
  where
    spread : (a b : Replayed) → of_verifier t (call_of a ++ (call_of b ++ ys)) ≡ of_verifier t (call_of a) ++ (of_verifier t (call_of b) ++ of_verifier t ys)
    spread a b = of_split t (call_of a) (call_of b ++ ys) ∙ ap (λ l. of_verifier t (call_of a) ++ l) (of_split t (call_of b) ys)

    go : (t ≡ x.who) ⊎ (t ≡ x.who → ⊥) → of_verifier t (call_of x ++ (call_of d ++ ys)) ≡ of_verifier t (call_of d ++ (call_of x ++ ys))
    go (inl i) =
        let z = of_none t d (λ j. n (sym i ∙ j)) in
        spread x d ∙ (ap (λ l. of_verifier t (call_of x) ++ (l ++ of_verifier t ys)) z ∙ sym (spread d x ∙ ap (λ l. l ++ (of_verifier t (call_of x) ++ of_verifier t ys)) z))
    go (inr m) =
        let z = of_none t x m in
        spread x d ∙ (ap (λ l. l ++ (of_verifier t (call_of d) ++ of_verifier t ys)) z ∙ sym (spread d x ∙ ap (λ l. of_verifier t (call_of d) ++ (l ++ of_verifier t ys)) z))

pub insert_calls : (t : ℕ) (d : Replayed) (os : List Replayed) → All (Own d) os → of_verifier t (calls_of (insert d os)) ≡ of_verifier t (calls_of (d ∷ os))
unfolding pick
insert_calls t d [] a = refl
insert_calls t d (x ∷ xs) a = go (earlier (clock_of d) (clock_of x)) refl (insert_calls t d xs a.1)
  where
    go : (b : Bool) → earlier (clock_of d) (clock_of x) ≡ b → of_verifier t (calls_of (insert d xs)) ≡ of_verifier t (calls_of (d ∷ xs)) →
        of_verifier t (calls_of (pick b (x ∷ insert d xs) (d ∷ (x ∷ xs)))) ≡ of_verifier t (calls_of (d ∷ (x ∷ xs)))
    go false i ih = refl
    go true i ih =
        of_split t (call_of x) (calls_of (insert d xs))
        ∙ (ap (λ l. of_verifier t (call_of x) ++ l) ih ∙ (sym (of_split t (call_of x) (calls_of (d ∷ xs))) ∙ of_swap t x d (calls_of xs) (λ j. both_ways (earlier (clock_of d) (clock_of x)) (a.0 j) i)))

pub sorted_calls : (t : ℕ) (ds : List Replayed) → Replay ds → of_verifier t (calls_of (sorted ds)) ≡ of_verifier t (calls_of ds)
sorted_calls t [] v = refl
sorted_calls t (d ∷ ds) v =
    insert_calls t d (sorted ds) (owns d ds v)
    ∙ (of_split t (call_of d) (calls_of (sorted ds)) ∙ (ap (λ l. of_verifier t (call_of d) ++ l) (sorted_calls t ds v.2) ∙ sym (of_split t (call_of d) (calls_of ds))))

pub insert_length : (d : Replayed) (os : List Replayed) → length (calls_of (insert d os)) ≡ length (calls_of (d ∷ os))
unfolding pick
insert_length d [] = refl
insert_length d (x ∷ xs) = go (earlier (clock_of d) (clock_of x)) (insert_length d xs)
  where
    go : (b : Bool) → length (calls_of (insert d xs)) ≡ length (calls_of (d ∷ xs)) → length (calls_of (pick b (x ∷ insert d xs) (d ∷ (x ∷ xs)))) ≡ length (calls_of (d ∷ (x ∷ xs)))
    go false ih = refl
    go true ih =
        let a = length-append (call_of x) (calls_of (insert d xs)) in
        let b = length-append (call_of d) (calls_of xs) in
        let c = length-append (call_of d) (calls_of (x ∷ xs)) in
        let e = length-append (call_of x) (calls_of xs) in
        omega arith

pub sorted_length : (ds : List Replayed) → length (calls_of (sorted ds)) ≡ length (calls_of ds)
sorted_length [] = refl
sorted_length (d ∷ ds) =
    let a = insert_length d (sorted ds) in
    let b = length-append (call_of d) (calls_of (sorted ds)) in
    let c = length-append (call_of d) (calls_of ds) in
    let e = sorted_length ds in
    omega arith

below_call : (n : ℕ) (a : Call) (ys : List Call) (b : Bool) → in_epochs_below n (pick b (a ∷ []) [] ++ ys) ≡ pick (ltb a.epoch n) (pick b (a ∷ []) []) [] ++ in_epochs_below n ys
unfolding in_epochs_below pick
below_call n a ys true = go (ltb a.epoch n)
  where
    go : (e : Bool) → pick e (a ∷ in_epochs_below n ys) (in_epochs_below n ys) ≡ pick e (a ∷ []) [] ++ in_epochs_below n ys
    go true = refl
    go false = refl
below_call n a ys false = go (ltb a.epoch n)
  where
    go : (e : Bool) → in_epochs_below n ys ≡ pick e [] [] ++ in_epochs_below n ys
    go true = refl
    go false = refl

pub cut_calls : (n : ℕ) (ds : List Replayed) → calls_of (cut n ds) ≡ in_epochs_below n (calls_of ds)
unfolding in_epochs_below pick
cut_calls n [] = refl
cut_calls n (d ∷ ds) = go (ltb (clock_of d).epoch n) ∙ (ap (λ l. pick (ltb (clock_of d).epoch n) (call_of d) [] ++ l) (cut_calls n ds) ∙ sym (below_call n a (calls_of ds) (is_call d.entry)))
  where
    a : Call
    a = record { verifier = d.who; epoch = d.now.clock.epoch; entry = d.entry }

    go : (e : Bool) → calls_of (pick e (d ∷ cut n ds) (cut n ds)) ≡ pick e (call_of d) [] ++ calls_of (cut n ds)
    go true = refl
    go false = refl

-- ---- the same entries

pub in_cut : (d : Replayed) (n : ℕ) (ds : List Replayed) → Member d ds → (clock_of d).epoch < n → Member d (cut n ds)
unfolding pick
in_cut d n [] h k = absurd h
in_cut d n (x ∷ xs) (inl i) k = subst (Member d) (sym (picks (ltb (clock_of x).epoch n) (x ∷ cut n xs) (cut n xs) (lt-ltb (clock_of x).epoch n (subst (λ z. (clock_of z).epoch < n) i k)))) (inl i)
in_cut d n (x ∷ xs) (inr h) k = go (ltb (clock_of x).epoch n) (in_cut d n xs h k)
  where
    go : (b : Bool) → Member d (cut n xs) → Member d (pick b (x ∷ cut n xs) (cut n xs))
    go true ih = inr ih
    go false ih = ih

pub cut_in_all : (d : Replayed) (n : ℕ) (ds : List Replayed) → Member d (cut n ds) → Member d ds × ((clock_of d).epoch < n)
unfolding pick
cut_in_all d n [] h = absurd h
cut_in_all d n (x ∷ xs) h = go (ltb (clock_of x).epoch n) refl h (cut_in_all d n xs)
  where
    go : (b : Bool) → ltb (clock_of x).epoch n ≡ b → Member d (pick b (x ∷ cut n xs) (cut n xs)) → (Member d (cut n xs) → Member d xs × ((clock_of d).epoch < n)) → Member d (x ∷ xs) × ((clock_of d).epoch < n)
    go true i (inl j) ih = (inl j, subst (λ z. (clock_of z).epoch < n) (sym j) (ltb-true (clock_of x).epoch n i))
    go true i (inr k) ih = (inr (ih k).0, (ih k).1)
    go false i k ih = (inr (ih k).0, (ih k).1)

in_insert : (x d : Replayed) (os : List Replayed) → Member x (d ∷ os) → Member x (insert d os)
unfolding pick
in_insert x d [] h = h
in_insert x d (y ∷ ys) h = go (earlier (clock_of d) (clock_of y)) h (in_insert x d ys)
  where
    go : (b : Bool) → Member x (d ∷ (y ∷ ys)) → (Member x (d ∷ ys) → Member x (insert d ys)) → Member x (pick b (y ∷ insert d ys) (d ∷ (y ∷ ys)))
    go false k ih = k
    go true (inl i) ih = inr (ih (inl i))
    go true (inr (inl j)) ih = inl j
    go true (inr (inr k)) ih = inr (ih (inr k))

insert_in : (x d : Replayed) (os : List Replayed) → Member x (insert d os) → Member x (d ∷ os)
unfolding pick
insert_in x d [] h = h
insert_in x d (y ∷ ys) h = go (earlier (clock_of d) (clock_of y)) h (insert_in x d ys)
  where
    swap : Member x (d ∷ ys) → Member x (d ∷ (y ∷ ys))
    swap (inl i) = inl i
    swap (inr k) = inr (inr k)

    go : (b : Bool) → Member x (pick b (y ∷ insert d ys) (d ∷ (y ∷ ys))) → (Member x (insert d ys) → Member x (d ∷ ys)) → Member x (d ∷ (y ∷ ys))
    go false k ih = k
    go true (inl i) ih = inr (inl i)
    go true (inr k) ih = swap (ih k)

pub in_sorted : (x : Replayed) (ds : List Replayed) → Member x ds → Member x (sorted ds)
in_sorted x [] h = h
in_sorted x (d ∷ ds) (inl i) = in_insert x d (sorted ds) (inl i)
in_sorted x (d ∷ ds) (inr h) = in_insert x d (sorted ds) (inr (in_sorted x ds h))

pub sorted_in : (x : Replayed) (ds : List Replayed) → Member x (sorted ds) → Member x ds
sorted_in x [] h = h
sorted_in x (d ∷ ds) h = go (insert_in x d (sorted ds) h) (sorted_in x ds)
  where
    go : Member x (d ∷ sorted ds) → (Member x (sorted ds) → Member x ds) → Member x (d ∷ ds)
    go (inl i) ih = inl i
    go (inr k) ih = inr (ih k)

-- what collides in the cut collides in the log
pub collide_cut : (n : ℕ) (ds : List Replayed) → Collide (hashes_of (sorted (cut n ds))) → Collide (hashes_of ds)
collide_cut n ds = collide_map (hashes_of (sorted (cut n ds))) (hashes_of ds) to
  where
    to : (r : Record) → Member r (hashes_of (sorted (cut n ds))) → Member r (hashes_of ds)
    to r h =
        let F = from_gathered (λ d. d.hashes) r (sorted (cut n ds)) h in
        to_gathered (λ d. d.hashes) r F.entry ds (cut_in_all F.entry n ds (sorted_in F.entry (cut n ds) F.among)).0 F.has

-- The eight statements.
use Rattle.std.proofs.Common.{◌≡◌, ℕ, zero, suc, ◌+◌, ◌%◌, ◌<◌, ◌≤◌, Bool, true, false, ◌&&◌, eqb, ltb, leb, ◌⊎◌, List, [], ◌∷◌, ◌++◌, length, Some, None, sym, refl, ap, ◌∙◌, subst, ap₂, inl, inr, add_comm, arith}
use Rattle.std.proofs.lemmas.Bool.{and_parts, or_parts, or_from, ltb-true, le-ltb, leb-true, eqb-true, eq-eqb, ne_eqb, cases_eq, cases_lt}
use Rattle.model.specs.Records.{pick, Bytes, same_bytes, Path, Pointer, absent, present, Value, Record, data_record, node, no_children, path_of, record_bytes}
use Rattle.model.specs.Verifier.{Timestamp, earlier_with, Entry, add_merkle, add_blum, evict_merkle, evict_blum, evict_blum_merkle, next_epoch, verify_epoch, get, set, Verifier, find, nonempty, updated, Element, Step, fails, goes, verifier_step}
use Rattle.model.specs.Monitor.{Limits, Event, logged, malformed, refused, wrong, right, certified, Sum, Call, State, verifier_at, with_verifier, sum_at, with_sum, modulus, element_hash, add_elements, evict_elements, entry_code, is_call, in_range, store_full, too_far_ahead, epoch_named, refusal, place_of, stop, called, accepted, performed, respond, after, answer, state}
use Rattle.model.specs.Order.{in_epochs_below, certified_calls}
use Rattle.model.specs.Readable.{all_below, readable_bytes, readable_value, readable_pointer, readable_record}
use Rattle.model.specs.Statements.{of_epoch, SameEpoch, StaysCertified, same_eviction, evicted_again, evicted_twice, EvictedOnce, sum_of, SumsAreSums, stored_twice, StoredOnce, NotLater, Earlier, clock_of, last_of, ClockAdvances, AddBlumPasses, EvictBlumAdvances, EvictBlumMerkleAdvances, StaysStopped, WrongIsFinal, BytesDetermine, RefusedUnchanged}
use Rattle.order.proofs.Lists.{picks, picks_not, All, all_map}
use Rattle.order.proofs.Paths.{same_is}
use Rattle.order.proofs.Stores.{stores_updated, once_updated, once_without, once_more}
use Rattle.order.proofs.Bytes.{FitPointer, FitValue, FitRecord, record_tells}
use Rattle.order.proofs.Ways.{by_ways}
use Rattle.order.proofs.Replay.{Replayed, verifier_after, evicts_of, Replay}
use Rattle.order.proofs.Log.{LookedAt, refusing, by_responses, by_states, malformed_stays, Replays, state_replay, at_put, at_off, at_absent}
use Rattle.order.proofs.Clocks.{Upto, Before, upto_refl, UptoWith, upto_clock, before_not_with, Put, Went, WentWell, well_adds_blum, well}
use Rattle.order.proofs.Sort.{went}
use Rattle.order.proofs.Matched.{evicts_behind}
use Rattle.order.proofs.Sums.{Settled, settled, certify_on, Late, late, sums_kept, sum_off}

-- ---- 8: what is refused changes nothing

refuses : (l : Limits) (s : State) (e : Event) → 0 < refusal l s e → respond l s e ≡ refusing l s e
unfolding respond
refuses l s e h = picks_not (eqb (refusal l s e) 0) (performed l s e) (refusing l s e) (ne_eqb (refusal l s e) 0 (λ i. omega arith))

pub refused_unchanged : RefusedUnchanged
unfolding RefusedUnchanged
refused_unchanged l s e h = ap (λ r. r.state) (refuses l s e h)

-- ---- 6: a log that was wrong is never right again

stopped_refuses : (l : Limits) (s : State) (e : Event) → s.stopped ≡ true → 0 < refusal l s e
unfolding refusal pick
stopped_refuses l s (malformed n) h = omega arith
stopped_refuses l s (logged t e) h = go (in_range l s t e)
  where
    v : Verifier
    v = verifier_at s.verifiers t

    go : (b : Bool) → 0 < pick b (pick s.stopped 3 (pick (store_full l v e) 4 (pick (too_far_ahead l s (epoch_named v e)) 5 0))) 2
    go true = rw h (omega arith)
    go false = omega arith

pub stays_stopped : StaysStopped
unfolding StaysStopped RefusedUnchanged
stays_stopped l s e h = refused_unchanged l s e (stopped_refuses l s e h)

wrong_stops : (l : Limits) (s : State) (e : Event) → answer l s e ≡ wrong → (after l s e).stopped ≡ true
unfolding pick
wrong_stops l s (malformed n) h =
    let i : refused 1 n ≡ wrong = sym (ap (λ r. r.answer) (malformed_stays l s n)) ∙ h in
    let z : ◌≡◌ {A = ℕ} 0 1 = cc i in absurd (omega arith)
wrong_stops l s (logged t e) h =
    by_responses (λ r. r.answer ≡ wrong → r.state.stopped ≡ true) l s t e
    (record {
      refuses = λ _ i. let z : ◌≡◌ {A = ℕ} 0 1 = cc i in absurd (omega arith);
      fails_here = λ _ _ _. refl;
      differs = λ v adds evicts hashes _ _ _. refl;
      accepts = λ v adds evicts hashes _ _ _ i. absurd (not_wrong (eqb (entry_code e) 6) (accepted l s t e v adds evicts hashes).certified i);
    }) h
  where
    not_wrong : (b : Bool) (n : ℕ) → pick b (certified n) right ≡ wrong → ⊥
    not_wrong true n i = let z : ◌≡◌ {A = ℕ} 0 1 = cc i in omega arith
    not_wrong false n i = let z : ◌≡◌ {A = ℕ} 0 1 = cc i in omega arith

pub wrong_is_final : WrongIsFinal
unfolding WrongIsFinal state RefusedUnchanged
wrong_is_final l es e more f h =
    let s : State = state l (more ++ (e ∷ es)) in
    (refusal l s f, (place_of f, (stopped_refuses l s f (ever more), ap (λ r. r.answer) (refuses l s f (stopped_refuses l s f (ever more))))))
  where
    ever : (fs : List Event) → (state l (fs ++ (e ∷ es))).stopped ≡ true
    ever [] = wrong_stops l (state l es) e h
    ever (g ∷ fs) = let k = ever fs in ap (λ z. z.stopped) (refused_unchanged l (state l (fs ++ (e ∷ es))) g (stopped_refuses l (state l (fs ++ (e ∷ es))) g k)) ∙ k

-- ---- 7: records with the same bytes are the same

pub bytes_determine : BytesDetermine
unfolding BytesDetermine readable_record readable_pointer readable_value
bytes_determine r q f g e = (record_tells r q [] [] (fits r f) (fits q g) (ap (λ l. l ++ []) (same_is (record_bytes r) (record_bytes q) e))).0
  where
    short : (t : Bytes) → readable_bytes t ≡ true → length t ≤ 65535
    short t h = leb-true (length t) 65535 (and_parts (all_below 256 t) (leb (length t) 65535) h).1

    pointer : (s : Pointer) → readable_pointer s ≡ true → FitPointer s
    pointer absent h = tt
    pointer (present p k b) h = let a = and_parts (readable_bytes p) (ltb k modulus) h in (short p a.0, ltb-true k modulus a.1)

    value : (v : Value) → readable_value v ≡ true → FitValue v
    value None h = tt
    value (Some t) h = short t h

    fits : (r : Record) → readable_record r ≡ true → FitRecord r
    fits (data_record k v) h = let a = and_parts (readable_bytes k) (readable_value v) h in (short k a.0, value v a.1)
    fits (node p c) h =
        let a = and_parts (readable_bytes p) (readable_pointer c.left && readable_pointer c.right) h in
        let b = and_parts (readable_pointer c.left) (readable_pointer c.right) a.1 in
        (short p a.0, pointer c.left b.0, pointer c.right b.1)

-- how a right entry went
went_well : (l : Limits) (s : State) (t : ℕ) (e : Entry) (v : Verifier) (adds evicts : List Element) (hashes : List Record) →
    verifier_step t (verifier_at s.verifiers t) e ≡ goes v adds evicts hashes → Went t (verifier_at s.verifiers t) v adds evicts
went_well l s t e v adds evicts hashes i = subst (WentWell t (verifier_at s.verifiers t)) i (well t (verifier_at s.verifiers t) e)

-- ---- 5: a clock never goes back

clock_on : (l : Limits) (s : State) → length s.verifiers ≡ l.verifiers → (e : Event) (u : ℕ) → Upto (clock_of s u) (clock_of (after l s e) u)
unfolding respond refusal pick
clock_on l s many (malformed n) u = upto_refl (clock_of s u)
clock_on l s many (logged t e) u =
    by_states (λ z. Upto (clock_of s u) (clock_of z u)) l s t e (omega arith) (omega arith) (λ v adds evicts hashes k i. (step v adds evicts hashes k i, step v adds evicts hashes k i))
  where
    v₀ : Verifier
    v₀ = verifier_at s.verifiers t

    step : (v : Verifier) (adds evicts : List Element) (hashes : List Record) → LookedAt l t e → verifier_step t v₀ e ≡ goes v adds evicts hashes →
        Upto (clock_of s u) (verifier_at (with_verifier s.verifiers t v) u).clock
    step v adds evicts hashes k i = go (cases_eq u t)
      where
        go : (u ≡ t) ⊎ (u ≡ t → ⊥) → Upto (clock_of s u) (verifier_at (with_verifier s.verifiers t v) u).clock
        go (inl j) =
            rw (j, at_put s.verifiers t v (let m = many in let a = k.there in omega arith))
            (upto_clock v₀.clock v₀.last_evicted v.clock v.last_evicted (went_well l s t e v adds evicts hashes i).onward)
        go (inr n) = rw (at_off s.verifiers t v u n) (omega arith)

pub clock_advances : ClockAdvances
unfolding ClockAdvances state
clock_advances l es e t = go (clock_on l (state l es) (settled l es).many e t) (cases_lt (clock_of (state l es) t).epoch (clock_of (after l (state l es) e) t).epoch)
  where
    a : Timestamp
    a = clock_of (state l es) t

    b : Timestamp
    b = clock_of (after l (state l es) e) t

    go : Upto a b → (a.epoch < b.epoch) ⊎ (b.epoch ≤ a.epoch) → NotLater a b
    go m (inl i) = inl i
    go m (inr i) = let k : a.epoch ≡ b.epoch = omega arith in inr (k, m.1 k)

-- where an AddBlum or an evict by Blum leaves the clock
abbrev Moves : Verifier → Entry → Step → Type 0
Moves v e fails = Unit
Moves v (add_blum r m j) (goes d adds evicts hashes) = Before m d.clock
Moves v (evict_blum p m) (goes d adds evicts hashes) = (earlier_with v.clock v.last_evicted m p ≡ true) × (d.clock ≡ m) × (d.last_evicted ≡ p)
Moves v (evict_blum_merkle p q m) (goes d adds evicts hashes) = (earlier_with v.clock v.last_evicted m p ≡ true) × (d.clock ≡ m) × (d.last_evicted ≡ p)
Moves v (add_merkle r q) (goes d adds evicts hashes) = Unit
Moves v (evict_merkle p q) (goes d adds evicts hashes) = Unit
Moves v next_epoch (goes d adds evicts hashes) = Unit
Moves v verify_epoch (goes d adds evicts hashes) = Unit
Moves v (get k w) (goes d adds evicts hashes) = Unit
Moves v (set k w) (goes d adds evicts hashes) = Unit

moves : (t : ℕ) (v : Verifier) (e : Entry) → Moves v e (verifier_step t v e)
moves t v =
    by_ways t v (Moves v)
    (record {
      wrong = λ e. tt;
      new_child = λ r q y a n e i. tt;
      same_child = λ r q y a n e. tt;
      new_node = λ r q y p h b a n e i d u. tt;
      adds_blum = λ r m j z n d. (well_adds_blum t v r m j d).came.0.past;
      evicts_merkle = λ p q x y h b k a n e. tt;
      evicts_blum = λ p m x k n. (n.later, refl, refl);
      evicts_blum_merkle = λ p q m x y h k a e n. (n.later, refl, refl);
      begins_epoch = tt;
      ends_epoch = λ d. tt;
      gets = λ k w x n e. tt;
      sets = λ k w x u n e. tt;
    })

-- what a right entry leaves its own verifier
when_right : (l : Limits) (es : List Event) (t : ℕ) (e : Entry) (Q : Verifier → Type 0) →
    ((v : Verifier) (adds evicts : List Element) (hashes : List Record) → Moves (verifier_at (state l es).verifiers t) e (goes v adds evicts hashes) → Q v) →
    answer l (state l es) (logged t e) ≡ right → Q (verifier_at (after l (state l es) (logged t e)).verifiers t)
when_right l es t e Q f =
    by_responses (λ r. r.answer ≡ right → Q (verifier_at r.state.verifiers t)) l s t e
    (record {
      refuses = λ _ i. let z : ◌≡◌ {A = ℕ} 0 1 = cc i in absurd (omega arith);
      fails_here = λ _ _ i. let z : ◌≡◌ {A = ℕ} 0 1 = cc i in absurd (omega arith);
      differs = λ v adds evicts hashes _ _ i. let z : ◌≡◌ {A = ℕ} 0 1 = cc i in absurd (omega arith);
      accepts = λ v adds evicts hashes k i _ _.
          subst Q (sym (at_put s.verifiers t v (let m = (settled l es).many in let a = k.there in omega arith)))
          (f v adds evicts hashes (subst (Moves (verifier_at s.verifiers t) e) i (moves t (verifier_at s.verifiers t) e)));
    })
  where
    s : State
    s = state l es

pub add_blum_passes : AddBlumPasses
unfolding AddBlumPasses state
add_blum_passes l es t j r m = when_right l es t (add_blum r m j) (λ v. Earlier m v.clock) (λ v adds evicts hashes k. go v.clock k (cases_lt m.epoch v.clock.epoch))
  where
    go : (c : Timestamp) → Before m c → (m.epoch < c.epoch) ⊎ (c.epoch ≤ m.epoch) → Earlier m c
    go c k (inl i) = inl i
    go c k (inr i) = let x : m.epoch ≡ c.epoch = omega arith in inr (x, k.1 x)

abbrev Moved : State → ℕ → Path → Timestamp → Verifier → Type 0
Moved s t p m v = (earlier_with (clock_of s t) (last_of s t) v.clock v.last_evicted ≡ true) × (v.clock ≡ m) × (v.last_evicted ≡ p)

moved : (s : State) (t : ℕ) (p : Path) (m : Timestamp) (v : Verifier) → (earlier_with (clock_of s t) (last_of s t) m p ≡ true) × (v.clock ≡ m) × (v.last_evicted ≡ p) → Moved s t p m v
moved s t p m v k = (ap₂ (λ a b. earlier_with (clock_of s t) (last_of s t) a b) k.1 k.2 ∙ k.0, k.1, k.2)

pub evict_blum_advances : EvictBlumAdvances
unfolding EvictBlumAdvances state
evict_blum_advances l es t p m = when_right l es t (evict_blum p m) (Moved (state l es) t p m) (λ v adds evicts hashes k. moved (state l es) t p m v k)

pub evict_blum_merkle_advances : EvictBlumMerkleAdvances
unfolding EvictBlumMerkleAdvances state
evict_blum_merkle_advances l es t p q m = when_right l es t (evict_blum_merkle p q m) (Moved (state l es) t p m) (λ v adds evicts hashes k. moved (state l es) t p m v k)

-- ---- 1: what is certified stays so

below_off : (n : ℕ) (t : ℕ) (v : Verifier) (e : Entry) (cs : List Call) → n ≤ v.clock.epoch → in_epochs_below n (called t v e cs) ≡ in_epochs_below n cs
unfolding in_epochs_below pick
below_off n t v e cs h = go (is_call e)
  where
    c : Call
    c = record { verifier = t; epoch = v.clock.epoch; entry = e }

    go : (b : Bool) → in_epochs_below n (pick b (c ∷ []) [] ++ cs) ≡ in_epochs_below n cs
    go true = picks_not (ltb v.clock.epoch n) (c ∷ in_epochs_below n cs) (in_epochs_below n cs) (le-ltb v.clock.epoch n h)
    go false = refl

epoch_off : (n d : ℕ) (xs ys : List Element) → d < n → All (λ x. n ≤ x.timestamp.epoch) xs → of_epoch d (xs ++ ys) ≡ of_epoch d ys
unfolding of_epoch
epoch_off n d [] ys h a = refl
epoch_off n d (x ∷ xs) ys h a =
    let b = a.0 in
    picks_not (eqb x.timestamp.epoch d) (x ∷ of_epoch d (xs ++ ys)) (of_epoch d (xs ++ ys)) (ne_eqb x.timestamp.epoch d (λ i. omega arith)) ∙ epoch_off n d xs ys h a.1

abbrev Stays : State → State → Type 0
Stays s z =
    (s.certified ≤ z.certified) × (in_epochs_below s.certified z.calls ≡ certified_calls s) × ((n : ℕ) → n < s.certified → SameEpoch n s z)

stays_so : (s : State) → Stays s s
stays_so s = (omega arith, refl, λ n h. record { adds = refl; evicts = refl; sums = refl })

pub stays_certified : StaysCertified
unfolding StaysCertified state respond refusal pick
stays_certified l es (malformed n) = stays_so (state l es)
stays_certified l es (logged t e) =
    by_states (Stays s) l s t e (stays_so s) (omega arith, refl, λ n h. record { adds = refl; evicts = refl; sums = refl }) (λ v adds evicts hashes k i. (stopped v adds evicts hashes (step v adds evicts hashes k i), step v adds evicts hashes k i))
  where
    s : State
    s = state l es

    stopped : (v : Verifier) (adds evicts : List Element) (hashes : List Record) → Stays s (accepted l s t e v adds evicts hashes) → Stays s (stop (accepted l s t e v adds evicts hashes))
    stopped v adds evicts hashes S = (S.0, S.1, λ n h. record { adds = (S.2 n h).adds; evicts = (S.2 n h).evicts; sums = (S.2 n h).sums })

    step : (v : Verifier) (adds evicts : List Element) (hashes : List Record) → LookedAt l t e → verifier_step t (verifier_at s.verifiers t) e ≡ goes v adds evicts hashes → Stays s (accepted l s t e v adds evicts hashes)
    step v adds evicts hashes k i = (
      certify_on (suc l.epochs) (with_verifier s.verifiers t v) (evict_elements l.secret (add_elements l.secret s.sums adds) evicts) s.certified,
      below_off s.certified t v e s.calls clock_late,
      λ n h. record {
        adds = epoch_off s.certified n adds s.adds h L.added;
        evicts = epoch_off s.certified n evicts s.evicts h L.evicted;
        sums = sums_kept l.secret s.sums s.certified adds evicts L n h;
      },
    )
      where
        S : Settled l s
        S = settled l es

        w : Went t (verifier_at s.verifiers t) v adds evicts
        w = went_well l s t e v adds evicts hashes i

        L : Late s.certified adds evicts
        L = late l s S t k.there v adds evicts w

        clock_late : s.certified ≤ v.clock.epoch
        clock_late =
            let a = S.ends t k.there in
            let b = w.done_on in
            let d = w.done_in (S.within_clock t k.there) in
            omega arith

-- ---- 2: no path is evicted by Blum twice at one timestamp by one verifier

Apart : Element → Element → Type 0
Apart y z =
    same_eviction y z ≡ false

once_more_evicted : (x : Element) (xs : List Element) → All (Apart x) xs → evicted_twice xs ≡ false → evicted_twice (x ∷ xs) ≡ false
unfolding evicted_twice evicted_again Apart
once_more_evicted x [] a p = refl
once_more_evicted x (z ∷ zs) a p =
    let q = or_parts _ (evicted_twice zs) p in
    let r = or_parts _ (evicted_twice zs) (once_more_evicted x zs a.1 q.1) in
    or_from _ (evicted_twice (z ∷ zs)) (or_from _ _ a.0 r.0) p

none_twice : (ds : List Replayed) → Replay ds → evicted_twice (evicts_of ds) ≡ false
unfolding evicted_twice Apart
none_twice [] v = refl
none_twice (d ∷ ds) v = go d.evicts w.few w.put (none_twice ds v.2)
  where
    c₀ : Verifier
    c₀ = verifier_after d.who ds

    w : Went d.who c₀ d.now d.adds d.evicts
    w = went d ds v.0

    different : (x : Element) → Put d.who c₀ d.now x → (z : Element) → UptoWith z.timestamp (path_of z.rec) (verifier_after z.verifier ds).clock (verifier_after z.verifier ds).last_evicted → Apart x z
    different x p z b = go (same_eviction x z) refl
      where
        go : (y : Bool) → (same_eviction x z) ≡ y → y ≡ false
        go false i = refl
        go true i = absurd (before_not_with c₀.clock c₀.last_evicted d.now.clock d.now.last_evicted p.goes_past behind)
          where
            i1 : (same_bytes (path_of x.rec) (path_of z.rec) ≡ true) × ((eqb x.timestamp.epoch z.timestamp.epoch && (eqb x.timestamp.counter z.timestamp.counter && eqb x.verifier z.verifier)) ≡ true)
            i1 = and_parts (same_bytes (path_of x.rec) (path_of z.rec)) (eqb x.timestamp.epoch z.timestamp.epoch && (eqb x.timestamp.counter z.timestamp.counter && eqb x.verifier z.verifier)) i

            i2 : (eqb x.timestamp.epoch z.timestamp.epoch ≡ true) × ((eqb x.timestamp.counter z.timestamp.counter && eqb x.verifier z.verifier) ≡ true)
            i2 = and_parts (eqb x.timestamp.epoch z.timestamp.epoch) (eqb x.timestamp.counter z.timestamp.counter && eqb x.verifier z.verifier) i1.1

            i3 : (eqb x.timestamp.counter z.timestamp.counter ≡ true) × (eqb x.verifier z.verifier ≡ true)
            i3 = and_parts (eqb x.timestamp.counter z.timestamp.counter) (eqb x.verifier z.verifier) i2.1

            path : path_of z.rec ≡ d.now.last_evicted
            path = sym (same_is (path_of x.rec) (path_of z.rec) i1.0) ∙ p.at_last

            timestamp : z.timestamp ≡ d.now.clock
            timestamp = sym (λ k. record { epoch = eqb-true x.timestamp.epoch z.timestamp.epoch i2.0 k; counter = eqb-true x.timestamp.counter z.timestamp.counter i3.0 k }) ∙ p.at_clock

            who : z.verifier ≡ d.who
            who = sym (eqb-true x.verifier z.verifier i3.1) ∙ p.by_it

            behind : UptoWith d.now.clock d.now.last_evicted c₀.clock c₀.last_evicted
            behind =
                subst (λ m. UptoWith m d.now.last_evicted c₀.clock c₀.last_evicted) timestamp
                (subst (λ q. UptoWith z.timestamp q c₀.clock c₀.last_evicted) path
                (subst (λ t. UptoWith z.timestamp (path_of z.rec) (verifier_after t ds).clock (verifier_after t ds).last_evicted) who b))

    go : (xs : List Element) → length xs ≤ 1 → All (Put d.who c₀ d.now) xs → evicted_twice (evicts_of ds) ≡ false → evicted_twice (xs ++ evicts_of ds) ≡ false
    go [] h p ih = ih
    go (x ∷ []) h p ih =
        once_more_evicted x (evicts_of ds) (all_map (λ z. UptoWith z.timestamp (path_of z.rec) (verifier_after z.verifier ds).clock (verifier_after z.verifier ds).last_evicted) (Apart x) (evicts_of ds) (different x p.0) (evicts_behind ds v.2)) ih
    go (x ∷ (y ∷ xs)) h p ih = absurd (omega arith)

pub evicted_once : EvictedOnce
unfolding EvictedOnce
evicted_once l es = ap evicted_twice (state_replay l es).1.evicts ∙ none_twice (state_replay l es).0 (state_replay l es).1.valid

-- ---- 3: the sums are the sums of what was added and evicted

sum_on : (ss : List Sum) (i : ℕ) (x : Sum) → sum_at (with_sum ss i x) i ≡ x
unfolding sum_at with_sum
sum_on [] zero x = refl
sum_on [] (suc i) x = sum_on [] i x
sum_on (s ∷ ss) zero x = refl
sum_on (s ∷ ss) (suc i) x = sum_on ss i x

-- of one of the two sums, f: an element more, or as it was
one_more : (f : Sum → ℕ) (k : Bytes) (ss : List Sum) (x : Element) (xs : List Element) (e : ℕ) (y : Sum) → f y ≡ (f (sum_at ss x.timestamp.epoch) + element_hash k x) % modulus →
    f (sum_at ss e) ≡ sum_of k e xs → f (sum_at (with_sum ss x.timestamp.epoch y) e) ≡ sum_of k e (x ∷ xs)
unfolding sum_of
one_more f k ss x xs e y j h = go (cases_eq x.timestamp.epoch e)
  where
    n : ℕ
    n = x.timestamp.epoch

    go : (n ≡ e) ⊎ (n ≡ e → ⊥) → f (sum_at (with_sum ss n y) e) ≡ pick (eqb n e) ((element_hash k x + sum_of k e xs) % modulus) (sum_of k e xs)
    go (inl i) =
        ap (λ z. f (sum_at (with_sum ss n y) z)) (sym i)
        ∙ (ap f (sum_on ss n y)
        ∙ (j ∙ (ap (λ z. z % modulus) (add_comm (f (sum_at ss n)) (element_hash k x) ∙ ap (λ z. element_hash k x + z) (ap (λ z. f (sum_at ss z)) i ∙ h))
        ∙ sym (picks (eqb n e) ((element_hash k x + sum_of k e xs) % modulus) (sum_of k e xs) (eq-eqb n e i)))))
    go (inr m) = ap f (sum_off ss n e y (λ i. m (sym i))) ∙ (h ∙ sym (picks_not (eqb n e) ((element_hash k x + sum_of k e xs) % modulus) (sum_of k e xs) (ne_eqb n e m)))

none_more : (f : Sum → ℕ) (ss : List Sum) (n e : ℕ) (y : Sum) → f y ≡ f (sum_at ss n) → f (sum_at (with_sum ss n y) e) ≡ f (sum_at ss e)
none_more f ss n e y j = go (cases_eq n e)
  where
    go : (n ≡ e) ⊎ (n ≡ e → ⊥) → f (sum_at (with_sum ss n y) e) ≡ f (sum_at ss e)
    go (inl i) = ap (λ z. f (sum_at (with_sum ss n y) z)) (sym i) ∙ (ap f (sum_on ss n y) ∙ (j ∙ ap (λ z. f (sum_at ss z)) i))
    go (inr m) = ap f (sum_off ss n e y (λ i. m (sym i)))

abbrev Total : Limits → State → Type 0
Total l s = (e : ℕ) → ((sum_at s.sums e).added ≡ sum_of l.secret e s.adds) × ((sum_at s.sums e).evicted ≡ sum_of l.secret e s.evicts)

totals : (l : Limits) (es : List Event) → Total l (state l es)
unfolding state sum_at sum_of add_elements evict_elements respond refusal pick
totals l [] = λ e. (refl, refl)
totals l (malformed n ∷ es) = totals l es
totals l (logged t e ∷ es) =
    by_states (Total l) l s t e (totals l es) (totals l es) (λ v adds evicts hashes k i. (step (totals l es) v adds evicts hashes i, step (totals l es) v adds evicts hashes i))
  where
    s : State
    s = state l es

    k : Bytes
    k = l.secret

    adding : (ss : List Sum) (adds : List Element) → length adds ≤ 1 → (xs : List Element) (d : ℕ) → (sum_at ss d).added ≡ sum_of k d xs →
        ((sum_at (add_elements k ss adds) d).added ≡ sum_of k d (adds ++ xs)) × ((sum_at (add_elements k ss adds) d).evicted ≡ (sum_at ss d).evicted)
    adding ss [] h xs d i = (i, refl)
    adding ss (x ∷ []) h xs d i = (one_more (λ z. z.added) k ss x xs d _ refl i, none_more (λ z. z.evicted) ss x.timestamp.epoch d _ refl)
    adding ss (x ∷ (y ∷ zs)) h xs d i = absurd (omega arith)

    evicting : (ss : List Sum) (evicts : List Element) → length evicts ≤ 1 → (xs : List Element) (d : ℕ) → (sum_at ss d).evicted ≡ sum_of k d xs →
        ((sum_at (evict_elements k ss evicts) d).evicted ≡ sum_of k d (evicts ++ xs)) × ((sum_at (evict_elements k ss evicts) d).added ≡ (sum_at ss d).added)
    evicting ss [] h xs d i = (i, refl)
    evicting ss (x ∷ []) h xs d i = (one_more (λ z. z.evicted) k ss x xs d _ refl i, none_more (λ z. z.added) ss x.timestamp.epoch d _ refl)
    evicting ss (x ∷ (y ∷ zs)) h xs d i = absurd (omega arith)

    step : Total l s → (v : Verifier) (adds evicts : List Element) (hashes : List Record) → verifier_step t (verifier_at s.verifiers t) e ≡ goes v adds evicts hashes → (d : ℕ) →
        ((sum_at (evict_elements k (add_elements k s.sums adds) evicts) d).added ≡ sum_of k d (adds ++ s.adds)) × ((sum_at (evict_elements k (add_elements k s.sums adds) evicts) d).evicted ≡ sum_of k d (evicts ++ s.evicts))
    step T v adds evicts hashes i d =
        let w = went_well l s t e v adds evicts hashes i in
        let a = adding s.sums adds w.few_in s.adds d (T d).0 in
        let b = evicting (add_elements k s.sums adds) evicts w.few s.evicts d (a.1 ∙ (T d).1) in
        (b.1 ∙ a.0, b.0)

pub sums_are_sums : SumsAreSums
unfolding SumsAreSums
sums_are_sums l es e = totals l es e

-- ---- 4: a store has each path once

abbrev Once : Step → Type 0
Once fails = Unit
Once (goes d adds evicts hashes) = stored_twice d.store ≡ false

once_step : (t : ℕ) (v : Verifier) → stored_twice v.store ≡ false → (e : Entry) → Once (verifier_step t v e)
unfolding path_of nonempty
once_step t v o =
    by_ways t v (λ e s. Once s)
    (record {
      wrong = λ e. tt;
      new_child = λ r q y a n e i. once_more _ _ (stores_updated (path_of r) _ v.store ∙ ap nonempty n) (written _);
      same_child = λ r q y a n e. once_more _ v.store (ap nonempty n) o;
      new_node = λ r q y p h b a n e i d u. once_more _ _ (stores_updated (path_of r) _ v.store ∙ ap nonempty n) (written _);
      adds_blum = λ r m j z n d. once_more _ v.store (ap nonempty n) o;
      evicts_merkle = λ p q x y h b k a n e. once_without p _ (written _);
      evicts_blum = λ p m x k n. once_without p v.store o;
      evicts_blum_merkle = λ p q m x y h k a e n. once_without p _ (written _);
      begins_epoch = o;
      ends_epoch = λ d. o;
      gets = λ k w x n e. o;
      sets = λ k w x u n e. written _;
    })
  where
    written : (r : Record) → stored_twice (updated r v.store) ≡ false
    written r = once_updated r v.store ∙ o

once_after : (ds : List Replayed) → Replay ds → (t : ℕ) → stored_twice (verifier_after t ds).store ≡ false
unfolding stored_twice pick nonempty find
once_after [] r t = go (eqb t 0)
  where
    go : (b : Bool) → stored_twice (pick b (record { rec = node [] no_children; by_merkle = true } ∷ []) []) ≡ false
    go true = refl
    go false = refl
once_after (d ∷ ds) r t = go (eqb t d.who) (once_after ds r.2 t) (once_after ds r.2 d.who)
  where
    go : (b : Bool) → stored_twice (verifier_after t ds).store ≡ false → stored_twice (verifier_after d.who ds).store ≡ false → stored_twice (pick b d.now (verifier_after t ds)).store ≡ false
    go true i k = subst Once r.0 (once_step d.who (verifier_after d.who ds) k d.entry)
    go false i k = i

pub stored_once : StoredOnce
unfolding StoredOnce stored_twice
stored_once l es t = go (cases_lt t l.verifiers)
  where
    T : Replays l (state l es) (state_replay l es).0
    T = (state_replay l es).1

    go : (t < l.verifiers) ⊎ (l.verifiers ≤ t) → stored_twice (verifier_at (state l es).verifiers t).store ≡ false
    go (inl h) = ap (λ v. stored_twice v.store) (T.lasts t h) ∙ once_after (state_replay l es).0 T.valid t
    go (inr h) = ap (λ v. stored_twice v.store) (at_absent (state l es).verifiers t (let m = T.many in omega arith))

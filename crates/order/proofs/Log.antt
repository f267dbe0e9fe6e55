-- A log's right entries are a replay; and how an event is answered, case by case.
use Rattle.std.proofs.Common.{◌≡◌, ℕ, zero, suc, ◌+◌, ◌<◌, ◌≤◌, Bool, true, false, ◌&&◌, eqb, ltb, leb, ◌⊎◌, List, [], ◌∷◌, ◌++◌, length, Some, None, sym, refl, ap, ◌∙◌, inl, inr, add-zero, zero-add, arith}
use Rattle.std.proofs.lemmas.Bool.{and_parts, ltb-true, leb-true, eq-eqb, ne_eqb, eqb-true, eqb-false, cases_eq}
use Rattle.model.specs.Records.{pick, Pointer, absent, present, Value, Record, data_record, node}
use Rattle.model.specs.Verifier.{Entry, add_merkle, add_blum, evict_merkle, evict_blum, evict_blum_merkle, next_epoch, verify_epoch, get, set, Verifier, Element, Step, fails, goes, verifier_step, new_verifier, absent_verifier}
use Rattle.model.specs.Monitor.{Limits, Event, logged, malformed, refused, State, new_verifiers, verifier_at, with_verifier, modulus, entry_code, are_bits, good_path, good_node_path, good_pointer, good_key, good_value, good_record, good_entry, fits_32, epoch_named, in_range, store_full, too_far_ahead, refusal, place_of, Response, stop, stopping, called, accepted, right_answer, sums_differ, by_step, performed, respond, after, state}
use Rattle.order.proofs.Lists.{picks, picks_not}
use Rattle.order.proofs.Bytes.{FitPointer, FitValue, FitRecord}
use Rattle.order.proofs.Invariant.{FitEntry}
use Rattle.order.proofs.Replay.{Replayed, verifier_after, adds_of, evicts_of, hashes_of, calls_of, Replay}

-- ---- what is in range can be told by its bytes

pub fit_pointer : (s : Pointer) → good_pointer s ≡ true → FitPointer s
unfolding good_pointer
fit_pointer absent e = tt
fit_pointer (present p h b) e =
    let a = and_parts (good_path p) (ltb h modulus) e in
    let c = leb-true (length p) 256 (and_parts (are_bits p) (leb (length p) 256) a.0).1 in
    (omega arith, ltb-true h modulus a.1)

fit_key : (k : List ℕ) → good_key k ≡ true → length k ≤ 65535
fit_key k e = let h = leb-true (length k) 64 e in omega arith

fit_value : (v : Value) → good_value v ≡ true → FitValue v
unfolding good_value
fit_value None e = tt
fit_value (Some t) e = let h = leb-true (length t) 1024 e in omega arith

pub fit_record : (r : Record) → good_record r ≡ true → FitRecord r
unfolding good_record
fit_record (data_record k v) e = let a = and_parts (good_key k) (good_value v) e in (fit_key k a.0, fit_value v a.1)
fit_record (node p c) e =
    let a = and_parts (good_node_path p) (good_pointer c.left && good_pointer c.right) e in
    let b = and_parts (good_pointer c.left) (good_pointer c.right) a.1 in
    let d = ltb-true (length p) 256 (and_parts (are_bits p) (ltb (length p) 256) a.0).1 in
    (omega arith, fit_pointer c.left b.0, fit_pointer c.right b.1)

pub fit_entry : (l : Limits) (e : Entry) → good_entry l e ≡ true → FitEntry e
unfolding good_entry
fit_entry l (add_merkle r q) g = fit_record r (and_parts (good_record r) (good_node_path q) g).0
fit_entry l (add_blum r m j) g = tt
fit_entry l (evict_merkle p q) g = tt
fit_entry l (evict_blum p m) g = tt
fit_entry l (evict_blum_merkle p q m) g = tt
fit_entry l next_epoch g = tt
fit_entry l verify_epoch g = tt
fit_entry l (get k v) g = tt
fit_entry l (set k v) g = let a = and_parts (good_key k) (good_value (Some v)) g in (fit_key k a.0, fit_value (Some v) a.1)

-- ---- how an event is answered

-- an entry that isn't refused
pub record LookedAt (l : Limits) (t : ℕ) (e : Entry) : Type 0 where
  pub there : t < l.verifiers
  pub can : l.supports (entry_code e) ≡ true
  pub good : good_entry l e ≡ true

looked_at : (l : Limits) (s : State) (t : ℕ) (e : Entry) → refusal l s (logged t e) ≡ 0 → LookedAt l t e
unfolding refusal
looked_at l s t e h = go (in_range l s t e) refl h
  where
    v : Verifier
    v = verifier_at s.verifiers t

    go : (b : Bool) → in_range l s t e ≡ b → pick {A = ℕ} b (pick s.stopped 3 (pick (store_full l v e) 4 (pick (too_far_ahead l s (epoch_named v e)) 5 0))) 2 ≡ 0 → LookedAt l t e
    go true i k =
        let a = and_parts ((ltb t l.verifiers && l.supports (entry_code e)) && good_entry l e) (fits_32 (epoch_named v e)) i in
        let b = and_parts (ltb t l.verifiers && l.supports (entry_code e)) (good_entry l e) a.0 in
        let d = and_parts (ltb t l.verifiers) (l.supports (entry_code e)) b.0 in
        record { there = ltb-true t l.verifiers d.0; can = d.1; good = b.1 }
    go false i k = absurd (unfold pick in omega arith)

abbrev pub refusing : Limits → State → Event → Response
refusing l s e = record { state = s; answer = refused (refusal l s e) (place_of e) }

abbrev pub accepting : Entry → State → Response
accepting e z = record { state = z; answer = right_answer e z }

-- an entry is refused; or it is wrong; or it is right, and sums differ then, or don't
pub record Responses (l : Limits) (s : State) (t : ℕ) (e : Entry) (P : Response → Type 0) : Type 0 where
  pub refuses : (0 < refusal l s (logged t e)) → P (refusing l s (logged t e))
  pub fails_here : LookedAt l t e → verifier_step t (verifier_at s.verifiers t) e ≡ fails → P (stopping s)
  pub differs : (v : Verifier) (adds evicts : List Element) (hashes : List Record) → LookedAt l t e → verifier_step t (verifier_at s.verifiers t) e ≡ goes v adds evicts hashes →
      P (stopping (accepted l s t e v adds evicts hashes))
  pub accepts : (v : Verifier) (adds evicts : List Element) (hashes : List Record) → LookedAt l t e → verifier_step t (verifier_at s.verifiers t) e ≡ goes v adds evicts hashes →
      sums_differ (accepted l s t e v adds evicts hashes) ≡ false → P (accepting e (accepted l s t e v adds evicts hashes))

pub by_responses : (P : Response → Type 0) (l : Limits) (s : State) (t : ℕ) (e : Entry) → Responses l s t e P → P (respond l s (logged t e))
unfolding respond performed by_step pick
by_responses P l s t e R = go (eqb (refusal l s (logged t e)) 0) refl
  where
    either : (b : Bool) (z : State) → (b ≡ true → P (stopping z)) → (b ≡ false → P (accepting e z)) → P (pick b (stopping z) (accepting e z))
    either true z f g = f refl
    either false z f g = g refl

    steps : LookedAt l t e → (z : Step) → verifier_step t (verifier_at s.verifiers t) e ≡ z → P (by_step l s t e z)
    steps k fails i = R.fails_here k i
    steps k (goes v adds evicts hashes) i = either _ (accepted l s t e v adds evicts hashes) (λ d. R.differs v adds evicts hashes k i) (R.accepts v adds evicts hashes k i)

    go : (b : Bool) → eqb (refusal l s (logged t e)) 0 ≡ b → P (pick b (performed l s (logged t e)) (refusing l s (logged t e)))
    go true k = steps (looked_at l s t e (eqb-true (refusal l s (logged t e)) 0 k)) (verifier_step t (verifier_at s.verifiers t) e) refl
    go false k = R.refuses (let n = eqb-false (refusal l s (logged t e)) 0 k in positive (refusal l s (logged t e)) n)
      where
        positive : (n : ℕ) → (n ≡ 0 → ⊥) → 0 < n
        positive zero n = absurd (n refl)
        positive (suc n) m = omega arith

-- bytes that are no event change nothing
pub malformed_stays : (l : Limits) (s : State) (n : ℕ) → respond l s (malformed n) ≡ record { state = s; answer = refused 1 n }
unfolding respond refusal place_of pick
malformed_stays l s n = refl

-- the same of the state alone: an entry leaves it, stops it, or goes on
pub by_states : (P : State → Type 0) (l : Limits) (s : State) (t : ℕ) (e : Entry) → P s → P (stop s) →
    ((v : Verifier) (adds evicts : List Element) (hashes : List Record) → LookedAt l t e → verifier_step t (verifier_at s.verifiers t) e ≡ goes v adds evicts hashes →
    P (stop (accepted l s t e v adds evicts hashes)) × P (accepted l s t e v adds evicts hashes)) →
    P (after l s (logged t e))
by_states P l s t e p q f =
    by_responses (λ r. P r.state) l s t e
    (record { refuses = λ _. p; fails_here = λ _ _. q; differs = λ v adds evicts hashes k i. (f v adds evicts hashes k i).0; accepts = λ v adds evicts hashes k i _. (f v adds evicts hashes k i).1 })

-- ---- the list of verifiers

pub at_new : (n k t : ℕ) → t < n → verifier_at (new_verifiers n k) t ≡ new_verifier (k + t)
unfolding new_verifiers verifier_at
at_new zero k t h = absurd (omega arith)
at_new (suc n) k zero h = ap new_verifier (sym (add-zero k))
at_new (suc n) k (suc t) h = at_new n (suc k) t (omega arith) ∙ ap new_verifier (let e : suc k + t ≡ k + suc t = omega arith in e)

pub length_new : (n k : ℕ) → length (new_verifiers n k) ≡ n
unfolding new_verifiers
length_new zero k = refl
length_new (suc n) k = ap suc (length_new n (suc k))

pub at_put : (vs : List Verifier) (t : ℕ) (v : Verifier) → t < length vs → verifier_at (with_verifier vs t v) t ≡ v
unfolding with_verifier verifier_at
at_put [] t v h = absurd (omega arith)
at_put (x ∷ vs) zero v h = refl
at_put (x ∷ vs) (suc t) v h = at_put vs t v (omega arith)

pub at_off : (vs : List Verifier) (t : ℕ) (v : Verifier) (u : ℕ) → (u ≡ t → ⊥) → verifier_at (with_verifier vs t v) u ≡ verifier_at vs u
unfolding with_verifier verifier_at
at_off [] t v u n = refl
at_off (x ∷ vs) zero v zero n = absurd (n refl)
at_off (x ∷ vs) zero v (suc u) n = refl
at_off (x ∷ vs) (suc t) v zero n = refl
at_off (x ∷ vs) (suc t) v (suc u) n = at_off vs t v u (λ e. n (ap suc e))

-- who isn't there has nothing
pub at_absent : (vs : List Verifier) (t : ℕ) → length vs ≤ t → verifier_at vs t ≡ absent_verifier
unfolding verifier_at
at_absent [] t h = refl
at_absent (v ∷ vs) zero h = absurd (omega arith)
at_absent (v ∷ vs) (suc t) h = at_absent vs t (omega arith)

pub length_put : (vs : List Verifier) (t : ℕ) (v : Verifier) → length (with_verifier vs t v) ≡ length vs
unfolding with_verifier
length_put [] t v = refl
length_put (x ∷ vs) zero v = refl
length_put (x ∷ vs) (suc t) v = ap suc (length_put vs t v)

pub after_at : (t : ℕ) (d : Replayed) (ds : List Replayed) → t ≡ d.who → verifier_after t (d ∷ ds) ≡ d.now
after_at t d ds i = picks (eqb t d.who) d.now (verifier_after t ds) (eq-eqb t d.who i)

pub after_off : (t : ℕ) (d : Replayed) (ds : List Replayed) → (t ≡ d.who → ⊥) → verifier_after t (d ∷ ds) ≡ verifier_after t ds
after_off t d ds n = picks_not (eqb t d.who) d.now (verifier_after t ds) (ne_eqb t d.who n)

-- ---- the replay that left a state

abbrev pub AllLookedAt : Limits → List Replayed → Type 0
AllLookedAt l [] = Unit
AllLookedAt l (d ∷ ds) = LookedAt l d.who d.entry × AllLookedAt l ds

pub record Replays (l : Limits) (s : State) (ds : List Replayed) : Type 0 where
  pub many : length s.verifiers ≡ l.verifiers
  pub lasts : (t : ℕ) → t < l.verifiers → verifier_at s.verifiers t ≡ verifier_after t ds
  pub valid : Replay ds
  pub good : AllLookedAt l ds
  pub hashed : s.hashed ≡ hashes_of ds
  pub calls : s.calls ≡ calls_of ds
  pub adds : s.adds ≡ adds_of ds
  pub evicts : s.evicts ≡ evicts_of ds

pub stopped_too : (l : Limits) (z : State) (ds : List Replayed) → Replays l z ds → Replays l (stop z) ds
stopped_too l z ds T = record { many = T.many; lasts = T.lasts; valid = T.valid; good = T.good; hashed = T.hashed; calls = T.calls; adds = T.adds; evicts = T.evicts }

-- one right entry more
replays_more : (l : Limits) (s : State) (t : ℕ) (e : Entry) (v : Verifier) (adds evicts : List Element) (hashes : List Record) (ds : List Replayed) → Replays l s ds → LookedAt l t e →
    verifier_step t (verifier_at s.verifiers t) e ≡ goes v adds evicts hashes →
    Replays l (accepted l s t e v adds evicts hashes) (record { who = t; entry = e; now = v; adds = adds; evicts = evicts; hashes = hashes } ∷ ds)
replays_more l s t e v adds evicts hashes ds T k i =
    record {
      many = length_put s.verifiers t v ∙ T.many;
      lasts = lasts;
      valid = (ap (λ x. verifier_step t x e) (sym (T.lasts t k.there)) ∙ i, fit_entry l e k.good, T.valid);
      good = (k, T.good);
      hashed = ap (λ x. hashes ++ x) T.hashed;
      calls = ap (λ x. called t v e x) T.calls;
      adds = ap (λ x. adds ++ x) T.adds;
      evicts = ap (λ x. evicts ++ x) T.evicts;
    }
  where
    d : Replayed
    d = record { who = t; entry = e; now = v; adds = adds; evicts = evicts; hashes = hashes }

    lasts : (u : ℕ) → u < l.verifiers → verifier_at (with_verifier s.verifiers t v) u ≡ verifier_after u (d ∷ ds)
    lasts u h = by (cases_eq u t)
      where
        by : (u ≡ t) ⊎ (u ≡ t → ⊥) → verifier_at (with_verifier s.verifiers t v) u ≡ verifier_after u (d ∷ ds)
        by (inl j) = ap (λ x. verifier_at (with_verifier s.verifiers t v) x) j ∙ (at_put s.verifiers t v (let m = T.many in let w = k.there in omega arith) ∙ sym (after_at u d ds j))
        by (inr n) = at_off s.verifiers t v u n ∙ (T.lasts u h ∙ sym (after_off u d ds n))

pub state_replay : (l : Limits) (es : List Event) → (ds : List Replayed) × Replays l (state l es) ds
unfolding state respond refusal pick
state_replay l [] =
    ([], record { many = length_new l.verifiers 0; lasts = λ t h. at_new l.verifiers 0 t h ∙ ap new_verifier (zero-add t); valid = tt; good = tt; hashed = refl; calls = refl; adds = refl; evicts = refl })
state_replay l (malformed n ∷ es) = state_replay l es
state_replay l (logged t e ∷ es) = go (state_replay l es)
  where
    s : State
    s = state l es

    go : (ds : List Replayed) × Replays l s ds → (ds' : List Replayed) × Replays l (after l s (logged t e)) ds'
    go D =
        by_states (λ z. (ds' : List Replayed) × Replays l z ds') l s t e D (D.0, stopped_too l s D.0 D.1)
        (λ v adds evicts hashes k i.
        let d : Replayed = record { who = t; entry = e; now = v; adds = adds; evicts = evicts; hashes = hashes } in
        let T = replays_more l s t e v adds evicts hashes D.0 D.1 k i in
        ((d ∷ D.0, stopped_too l (accepted l s t e v adds evicts hashes) (d ∷ D.0) T), (d ∷ D.0, T)))

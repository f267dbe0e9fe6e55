-- From equal counts to matched: in the order of clocks, what is added by Blum was evicted before, and not added before.
use Rattle.std.proofs.Common.{◌≡◌, ℕ, ◌+◌, ◌<◌, ◌≤◌, Bool, true, false, ◌&&◌, eqb, ltb, ◌⊎◌, List, [], ◌∷◌, ◌++◌, length, sym, refl, ap, ◌∙◌, subst, inl, inr, arith}
use Rattle.std.proofs.lemmas.Bool.{and_parts, and_from, eq-eqb, cases_eq, cases_lt}
use Rattle.model.specs.Records.{pick, same_bytes, path_of}
use Rattle.model.specs.Verifier.{earlier, Element}
use Rattle.model.specs.Monitor.{Limits, element_bytes}
use Rattle.model.specs.Order.{times_in, Member}
use Rattle.order.proofs.Lists.{picks, in_left, in_right, All, all_map, all_append, all_in}
use Rattle.order.proofs.Paths.{same_is, same_refl}
use Rattle.order.proofs.Bytes.{FitElement, element_tells}
use Rattle.order.proofs.Invariant.{Matched}
use Rattle.order.proofs.Replay.{Replayed, verifier_after, adds_of, evicts_of, From, from_gathered, to_gathered, Pending, Replay, AllMatched}
use Rattle.order.proofs.Log.{AllLookedAt, after_at, after_off}
use Rattle.order.proofs.Clocks.{Upto, Before, before_not, upto_refl, UptoWith, upto_trans_with, before_not_with, Came, Put, Went}
use Rattle.order.proofs.Fits.{FitReplay, replay_fits}
use Rattle.order.proofs.Sort.{clock_of, went, cut, insert, sorted, Down, sorted_down, in_cut, cut_in_all, in_sorted, sorted_in}

-- how often an element is among others
pub times_split : (x : Element) (xs ys : List Element) → times_in x (xs ++ ys) ≡ times_in x xs + times_in x ys
unfolding times_in
times_split x [] ys = omega arith
times_split x (y ∷ xs) ys = let h = times_split x xs ys in omega arith

pub times_member : (x : Element) (xs : List Element) → Member x xs → 1 ≤ times_in x xs
unfolding times_in
times_member x [] h = absurd h
times_member x (y ∷ ys) (inl i) =
    let k : (eqb y.timestamp.epoch x.timestamp.epoch && same_bytes (element_bytes x) (element_bytes y)) ≡ true =
    and_from (eqb y.timestamp.epoch x.timestamp.epoch) (same_bytes (element_bytes x) (element_bytes y)) (eq-eqb y.timestamp.epoch x.timestamp.epoch (ap (λ z. z.timestamp.epoch) (sym i)))
    (ap (λ z. same_bytes (element_bytes x) (element_bytes z)) (sym i) ∙ same_refl (element_bytes x)) in
    let l = picks {A = ℕ} (eqb y.timestamp.epoch x.timestamp.epoch && same_bytes (element_bytes x) (element_bytes y)) 1 0 k in
    omega arith
times_member x (y ∷ ys) (inr h) = let k = times_member x ys h in omega arith

pub record Like (x : Element) (xs : List Element) : Type 0 where
  pub which : Element
  pub there : Member which xs
  pub alike : element_bytes x ≡ element_bytes which

pub times_some : (x : Element) (xs : List Element) → 1 ≤ times_in x xs → Like x xs
unfolding times_in pick
times_some x [] h = absurd (omega arith)
times_some x (y ∷ ys) h = go (eqb y.timestamp.epoch x.timestamp.epoch && same_bytes (element_bytes x) (element_bytes y)) refl h (times_some x ys)
  where
    go : (b : Bool) → (eqb y.timestamp.epoch x.timestamp.epoch && same_bytes (element_bytes x) (element_bytes y)) ≡ b → 1 ≤ pick b 1 0 + times_in x ys → (1 ≤ times_in x ys → Like x ys) → Like x (y ∷ ys)
    go true i k ih = record { which = y; there = inl refl; alike = same_is (element_bytes x) (element_bytes y) (and_parts (eqb y.timestamp.epoch x.timestamp.epoch) (same_bytes (element_bytes x) (element_bytes y)) i).1 }
    go false i k ih = let l : Like x ys = ih (omega arith) in record { which = l.which; there = inr l.there; alike = l.alike }

times_one : (x : Element) (xs : List Element) → length xs ≤ 1 → times_in x xs ≤ 1
unfolding times_in pick
times_one x [] h = omega arith
times_one x (y ∷ []) h = go (eqb y.timestamp.epoch x.timestamp.epoch && same_bytes (element_bytes x) (element_bytes y))
  where
    go : (b : Bool) → pick b 1 0 + 0 ≤ 1
    go true = omega arith
    go false = omega arith
times_one x (y ∷ (z ∷ zs)) h = absurd (omega arith)

pub times_insert : (x : Element) (d : Replayed) (os : List Replayed) → times_in x (adds_of (insert d os)) ≡ times_in x (adds_of (d ∷ os))
unfolding pick
times_insert x d [] = refl
times_insert x d (y ∷ ys) = go (earlier (clock_of d) (clock_of y)) (times_insert x d ys)
  where
    go : (b : Bool) → times_in x (adds_of (insert d ys)) ≡ times_in x (adds_of (d ∷ ys)) → times_in x (adds_of (pick b (y ∷ insert d ys) (d ∷ (y ∷ ys)))) ≡ times_in x (adds_of (d ∷ (y ∷ ys)))
    go false ih = refl
    go true ih =
        let a = times_split x y.adds (adds_of (insert d ys)) in
        let b = times_split x d.adds (adds_of ys) in
        let c = times_split x d.adds (y.adds ++ adds_of ys) in
        let f = times_split x y.adds (adds_of ys) in
        omega arith

pub times_sorted : (x : Element) (ds : List Replayed) → times_in x (adds_of (sorted ds)) ≡ times_in x (adds_of ds)
times_sorted x [] = refl
times_sorted x (d ∷ ds) =
    let a = times_insert x d (sorted ds) in
    let b = times_split x d.adds (adds_of (sorted ds)) in
    let c = times_split x d.adds (adds_of ds) in
    let f = times_sorted x ds in
    omega arith

pub times_cut : (x : Element) (n : ℕ) (ds : List Replayed) → times_in x (adds_of (cut n ds)) ≤ times_in x (adds_of ds)
unfolding pick
times_cut x n [] = omega arith
times_cut x n (d ∷ ds) = go (ltb (clock_of d).epoch n) (times_cut x n ds)
  where
    go : (b : Bool) → times_in x (adds_of (cut n ds)) ≤ times_in x (adds_of ds) → times_in x (adds_of (pick b (d ∷ cut n ds) (cut n ds))) ≤ times_in x (adds_of (d ∷ ds))
    go true ih =
        let a = times_split x d.adds (adds_of (cut n ds)) in
        let c = times_split x d.adds (adds_of ds) in
        omega arith
    go false ih = let c = times_split x d.adds (adds_of ds) in omega arith

-- what was evicted is behind its verifier's clock, with the last evicted path
abbrev Behind : List Replayed → Element → Type 0
Behind ds x = UptoWith x.timestamp (path_of x.rec) (verifier_after x.verifier ds).clock (verifier_after x.verifier ds).last_evicted

pub evicts_behind : (ds : List Replayed) → Replay ds → All (Behind ds) (evicts_of ds)
evicts_behind [] v = tt
evicts_behind (d ∷ ds) v =
    all_append (Behind (d ∷ ds)) d.evicts (evicts_of ds)
    (all_map (Put d.who (verifier_after d.who ds) d.now) (Behind (d ∷ ds)) d.evicts new w.put)
    (all_map (Behind ds) (Behind (d ∷ ds)) (evicts_of ds) old (evicts_behind ds v.2))
  where
    w : Went d.who (verifier_after d.who ds) d.now d.adds d.evicts
    w = went d ds v.0

    new : (x : Element) → Put d.who (verifier_after d.who ds) d.now x → Behind (d ∷ ds) x
    new x p =
        subst (λ c. UptoWith x.timestamp (path_of x.rec) c.clock c.last_evicted) (sym (after_at x.verifier d ds p.by_it))
        (inr (p.at_clock, inl p.at_last))

    old : (x : Element) → Behind ds x → Behind (d ∷ ds) x
    old x b = go (cases_eq x.verifier d.who)
      where
        go : (x.verifier ≡ d.who) ⊎ (x.verifier ≡ d.who → ⊥) → Behind (d ∷ ds) x
        go (inl i) =
            subst (λ c. UptoWith x.timestamp (path_of x.rec) c.clock c.last_evicted) (sym (after_at x.verifier d ds i))
            (upto_trans_with x.timestamp (path_of x.rec) (verifier_after d.who ds).clock (verifier_after d.who ds).last_evicted d.now.clock d.now.last_evicted
            (subst (λ t. UptoWith x.timestamp (path_of x.rec) (verifier_after t ds).clock (verifier_after t ds).last_evicted) i b) w.onward)
        go (inr n) = subst (λ c. UptoWith x.timestamp (path_of x.rec) c.clock c.last_evicted) (sym (after_off x.verifier d ds n)) b

-- so each is evicted once
pub evicts_once : (l : Limits) (ds : List Replayed) → Replay ds → AllLookedAt l ds → (x : Element) → times_in x (evicts_of ds) ≤ 1
unfolding times_in
evicts_once l [] v g x = omega arith
evicts_once l (d ∷ ds) v g x = go (cases_lt (times_in x d.evicts) 1) (cases_lt (times_in x (evicts_of ds)) 1) (evicts_once l ds v.2 g.1 x)
  where
    w : Went d.who (verifier_after d.who ds) d.now d.adds d.evicts
    w = went d ds v.0

    F : FitReplay (d ∷ ds)
    F = replay_fits l (d ∷ ds) v g

    both : times_in x (d.evicts ++ evicts_of ds) ≡ times_in x d.evicts + times_in x (evicts_of ds)
    both = times_split x d.evicts (evicts_of ds)

    one : times_in x d.evicts ≤ 1
    one = times_one x d.evicts w.few

    never : Like x d.evicts → Like x (evicts_of ds) → ⊥
    never a b =
        before_not_with (verifier_after d.who ds).clock (verifier_after d.who ds).last_evicted d.now.clock d.now.last_evicted p.goes_past
        (subst (λ y. UptoWith y d.now.last_evicted (verifier_after d.who ds).clock (verifier_after d.who ds).last_evicted) p.at_clock
        (subst (λ y. UptoWith a.which.timestamp y (verifier_after d.who ds).clock (verifier_after d.who ds).last_evicted) p.at_last
        (subst (λ y. UptoWith a.which.timestamp (path_of a.which.rec) (verifier_after y ds).clock (verifier_after y ds).last_evicted) p.by_it behind)))
      where
        p : Put d.who (verifier_after d.who ds) d.now a.which
        p = all_in (Put d.who (verifier_after d.who ds) d.now) a.which d.evicts a.there w.put

        same : b.which ≡ a.which
        same =
            element_tells b.which a.which (all_in FitElement b.which (d.evicts ++ evicts_of ds) (in_right b.which d.evicts (evicts_of ds) b.there) F.evicts)
            (all_in FitElement a.which (d.evicts ++ evicts_of ds) (in_left a.which d.evicts (evicts_of ds) a.there) F.evicts) (sym b.alike ∙ a.alike)

        behind : Behind ds a.which
        behind = subst (Behind ds) same (all_in (Behind ds) b.which (evicts_of ds) b.there (evicts_behind ds v.2))

    go : (times_in x d.evicts < 1) ⊎ (1 ≤ times_in x d.evicts) → (times_in x (evicts_of ds) < 1) ⊎ (1 ≤ times_in x (evicts_of ds)) → times_in x (evicts_of ds) ≤ 1 →
        times_in x (d.evicts ++ evicts_of ds) ≤ 1
    go (inl a) k ih = let b = both in omega arith
    go (inr a) (inl k) ih = let b = both in let o = one in omega arith
    go (inr a) (inr k) ih = absurd (never (times_some x d.evicts a) (times_some x (evicts_of ds) k))

-- each entry's elements, by its clock
abbrev Timed : Replayed → Type 0
Timed d = All (λ x. Before x.timestamp (clock_of d)) d.adds × All (λ x. x.timestamp ≡ clock_of d) d.evicts

timed : (ds : List Replayed) → Replay ds → All Timed ds
timed [] v = tt
timed (d ∷ ds) v =
    let w = went d ds v.0 in (
      (
        all_map (Came (verifier_after d.who ds) d.now) (λ x. Before x.timestamp (clock_of d)) d.adds (λ x c. c.past) w.came,
        all_map (Put d.who (verifier_after d.who ds) d.now) (λ x. x.timestamp ≡ clock_of d) d.evicts (λ x p. p.at_clock) w.put,
      ),
      timed ds v.2,
    )

-- each that is added was evicted by an entry that left an earlier clock, and is added once
pub record Supplied (x : Element) (d : Replayed) (os : List Replayed) : Type 0 where
  pub by : Replayed
  pub in_them : Member by os
  pub put : Member x by.evicts
  pub sooner : Before (clock_of by) (clock_of d)

matched_each : (P : Element → Type 0) (xs : List Element) → ((x : Element) → Member x xs → P x) → Matched P xs
matched_each P [] f = tt
matched_each P (x ∷ xs) f = (f x (inl refl), matched_each P xs (λ y h. f y (inr h)))

pub matched_down : (os : List Replayed) → Down os →
    ((d : Replayed) → Member d os → (x : Element) → Member x d.adds → Supplied x d os) →
    ((x : Element) → Member x (adds_of os) → times_in x (adds_of os) ≤ 1) → AllMatched os
matched_down [] h s o = tt
matched_down (d ∷ os) h s o = (
  matched_each (Pending (adds_of os) (evicts_of os)) d.adds pending,
  matched_down os h.1 (λ y i x k. shift y i x (s y (inr i) x k))
      (λ x k. let a = o x (in_right x d.adds (adds_of os) k) in let b = times_split x d.adds (adds_of os) in omega arith),
)
  where
    pending : (x : Element) → Member x d.adds → Pending (adds_of os) (evicts_of os) x
    pending x k = (away (s d (inl refl) x k), twice)
      where
        away : Supplied x d (d ∷ os) → Member x (evicts_of os)
        away S = go S.in_them
          where
            go : Member S.by (d ∷ os) → Member x (evicts_of os)
            go (inl i) = absurd (before_not (clock_of S.by) (clock_of d) S.sooner (subst (λ z. Upto (clock_of d) (clock_of z)) (sym i) (upto_refl (clock_of d))))
            go (inr j) = to_gathered (λ y. y.evicts) x S.by os j S.put

        twice : Member x (adds_of os) → ⊥
        twice l =
            let a = times_member x d.adds k in
            let b = times_member x (adds_of os) l in
            let c = times_split x d.adds (adds_of os) in
            let e = o x (in_left x d.adds (adds_of os) k) in
            omega arith

    shift : (y : Replayed) → Member y os → (x : Element) → Supplied x y (d ∷ os) → Supplied x y os
    shift y i x S = go S.in_them
      where
        go : Member S.by (d ∷ os) → Supplied x y os
        go (inl j) = absurd (before_not (clock_of S.by) (clock_of y) S.sooner (subst (λ z. Upto (clock_of y) (clock_of z)) (sym j) (all_in (λ z. Upto (clock_of z) (clock_of d)) y os i h.0)))
        go (inr k) = record { by = S.by; in_them = k; put = S.put; sooner = S.sooner }

-- as often evicted as added, in the epochs below n
abbrev pub Even : ℕ → List Replayed → Type 0
Even n ds = (x : Element) → Member x (adds_of ds) → x.timestamp.epoch < n → times_in x (adds_of ds) ≡ times_in x (evicts_of ds)

pub cut_matched : (l : Limits) (n : ℕ) (ds : List Replayed) → Replay ds → AllLookedAt l ds → Even n ds → AllMatched (sorted (cut n ds))
cut_matched l n ds v g even = matched_down (sorted (cut n ds)) (sorted_down (cut n ds)) supply single
  where
    F : FitReplay ds
    F = replay_fits l ds v g

    T : All Timed ds
    T = timed ds v

    back : (d : Replayed) → Member d (sorted (cut n ds)) → Member d ds × ((clock_of d).epoch < n)
    back d i = cut_in_all d n ds (sorted_in d (cut n ds) i)

    early : (d : Replayed) → Member d ds → (clock_of d).epoch < n → (x : Element) → Member x d.adds → Before x.timestamp (clock_of d) × (x.timestamp.epoch < n)
    early d i k x h =
        let m : Before x.timestamp (clock_of d) = all_in (λ y. Before y.timestamp (clock_of d)) x d.adds h (all_in Timed d ds i T).0 in
        (m, let a = m.0 in omega arith)

    supply : (d : Replayed) → Member d (sorted (cut n ds)) → (x : Element) → Member x d.adds → Supplied x d (sorted (cut n ds))
    supply d i x h = go (times_some x (evicts_of ds) many)
      where
        d_in : Member d ds × ((clock_of d).epoch < n)
        d_in = back d i

        x_in : Member x (adds_of ds)
        x_in = to_gathered (λ y. y.adds) x d ds d_in.0 h

        when_x : Before x.timestamp (clock_of d) × (x.timestamp.epoch < n)
        when_x = early d d_in.0 d_in.1 x h

        many : 1 ≤ times_in x (evicts_of ds)
        many = let a = times_member x (adds_of ds) x_in in let b = even x x_in when_x.1 in omega arith

        go : Like x (evicts_of ds) → Supplied x d (sorted (cut n ds))
        go L = by (from_gathered (λ y. y.evicts) x ds (subst (λ y. Member y (evicts_of ds)) (sym same) L.there))
          where
            same : x ≡ L.which
            same = element_tells x L.which (all_in FitElement x (adds_of ds) x_in F.adds) (all_in FitElement L.which (evicts_of ds) L.there F.evicts) L.alike

            by : From (λ y. y.evicts) x ds → Supplied x d (sorted (cut n ds))
            by R =
                let at_it : x.timestamp ≡ clock_of R.entry = all_in (λ y. y.timestamp ≡ clock_of R.entry) x R.entry.evicts R.has (all_in Timed R.entry ds R.among T).1 in
                record {
                  by = R.entry;
                  in_them = in_sorted R.entry (cut n ds) (in_cut R.entry n ds R.among (subst (λ m. m.epoch < n) at_it when_x.1));
                  put = R.has;
                  sooner = subst (λ m. Before m (clock_of d)) at_it when_x.0;
                }

    single : (x : Element) → Member x (adds_of (sorted (cut n ds))) → times_in x (adds_of (sorted (cut n ds))) ≤ 1
    single x h = go (from_gathered (λ y. y.adds) x (sorted (cut n ds)) h)
      where
        go : From (λ y. y.adds) x (sorted (cut n ds)) → times_in x (adds_of (sorted (cut n ds))) ≤ 1
        go R =
            let d_in = back R.entry R.among in
            let a = times_sorted x (cut n ds) in
            let b = times_cut x n ds in
            let c = even x (to_gathered (λ y. y.adds) x R.entry ds d_in.0 R.has) (early R.entry d_in.0 d_in.1 x R.has).1 in
            let e = evicts_once l ds v g x in
            omega arith

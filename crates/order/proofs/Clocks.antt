-- Clocks go on: an AddBlum leaves the clock past the timestamp that it names, an evict by Blum at it.
use Rattle.std.proofs.Common.{◌≡◌, ℕ, ◌<◌, ◌≤◌, Bool, true, false, not, ◌&&◌, ◌||◌, eqb, ltb, ◌⊎◌, List, [], ◌∷◌, length, sym, refl, ap, ◌∙◌, subst, inl, inr, arith}
use Rattle.std.proofs.lemmas.Bool.{false≢true, both_ways, and_parts, and_from, and_cases, or_cases, or_parts, eqb-true, eqb-false, eq-eqb, ltb-true, ltb-false, not-true, or_left, or_right, lt-ltb}
use Rattle.model.specs.Records.{pick, less_bytes, Path, Record, path_of}
use Rattle.model.specs.Verifier.{Timestamp, earlier, later, just_after, earlier_with, Entry, Stored, Verifier, goes, Element, Step, fails, with_store, verifier_step}
use Rattle.order.proofs.Lists.{picks, picks_not, All}
use Rattle.order.proofs.Stores.{find_path}
use Rattle.order.proofs.Ways.{Found, Evictable, added_by_blum, evicted_at, marked_blum, element, by_ways}

abbrev pub Upto : Timestamp → Timestamp → Type 0
Upto a b = (a.epoch ≤ b.epoch) × (a.epoch ≡ b.epoch → a.counter ≤ b.counter)

abbrev pub Before : Timestamp → Timestamp → Type 0
Before a b = (a.epoch ≤ b.epoch) × (a.epoch ≡ b.epoch → a.counter < b.counter)

pub earlier_before : (a b : Timestamp) → earlier a b ≡ true → Before a b
earlier_before a b e = go (or_cases (ltb a.epoch b.epoch) (eqb a.epoch b.epoch && ltb a.counter b.counter) e)
  where
    go : (ltb a.epoch b.epoch ≡ true) ⊎ ((eqb a.epoch b.epoch && ltb a.counter b.counter) ≡ true) → Before a b
    go (inl i) = let h = ltb-true a.epoch b.epoch i in omega arith
    go (inr j) =
        let k = and_parts (eqb a.epoch b.epoch) (ltb a.counter b.counter) j in
        let x = eqb-true a.epoch b.epoch k.0 in
        let y = ltb-true a.counter b.counter k.1 in
        omega arith

pub earlier_not : (a b : Timestamp) → earlier a b ≡ false → Upto b a
earlier_not a b e = go (and_cases (eqb a.epoch b.epoch) (ltb a.counter b.counter) h.1)
  where
    h : (ltb a.epoch b.epoch ≡ false) × ((eqb a.epoch b.epoch && ltb a.counter b.counter) ≡ false)
    h = or_parts (ltb a.epoch b.epoch) (eqb a.epoch b.epoch && ltb a.counter b.counter) e

    first : b.epoch ≤ a.epoch
    first = ltb-false a.epoch b.epoch h.0

    go : (eqb a.epoch b.epoch ≡ false) ⊎ (ltb a.counter b.counter ≡ false) → Upto b a
    go (inl i) = (first, λ j. absurd (eqb-false a.epoch b.epoch i (sym j)))
    go (inr i) = (first, λ j. ltb-false a.counter b.counter i)

pub before_upto : (a b : Timestamp) → Before a b → Upto a b
before_upto a b h = (h.0, λ e. let k = h.1 e in omega arith)

pub upto_trans : (a b c : Timestamp) → Upto a b → Upto b c → Upto a c
upto_trans a b c h k = (omega arith, λ e. let x : a.epoch ≡ b.epoch = omega arith in let y : b.epoch ≡ c.epoch = omega arith in let u = h.1 x in let v = k.1 y in omega arith)

pub before_upto_trans : (a b c : Timestamp) → Before a b → Upto b c → Before a c
before_upto_trans a b c h k = (omega arith, λ e. let x : a.epoch ≡ b.epoch = omega arith in let y : b.epoch ≡ c.epoch = omega arith in let u = h.1 x in let v = k.1 y in omega arith)

pub upto_before_trans : (a b c : Timestamp) → Upto a b → Before b c → Before a c
upto_before_trans a b c h k = (omega arith, λ e. let x : a.epoch ≡ b.epoch = omega arith in let y : b.epoch ≡ c.epoch = omega arith in let u = h.1 x in let v = k.1 y in omega arith)

pub before_not : (a b : Timestamp) → Before a b → Upto b a → ⊥
before_not a b h k = let x : a.epoch ≡ b.epoch = omega arith in let u = h.1 x in let v = k.1 (sym x) in omega arith

pub upto_both : (a b : Timestamp) → Upto a b → Upto b a → a ≡ b
upto_both a b h k =
    let x : a.epoch ≡ b.epoch = omega arith in
    let u = h.1 x in
    let v = k.1 (sym x) in
    let y : a.counter ≡ b.counter = omega arith in
    (λ i. record { epoch = x i; counter = y i })

pub upto_refl : (a : Timestamp) → Upto a a
upto_refl a = omega arith

-- paths in order
pub less_self : (x : List ℕ) → less_bytes x x ≡ true → ⊥
unfolding less_bytes
less_self [] e = false≢true e
less_self (x ∷ xs) e = go (or_cases (ltb x x) (eqb x x && less_bytes xs xs) e) (less_self xs)
  where
    go : (ltb x x ≡ true) ⊎ ((eqb x x && less_bytes xs xs) ≡ true) → (less_bytes xs xs ≡ true → ⊥) → ⊥
    go (inl i) r = let h = ltb-true x x i in omega arith
    go (inr i) r = r (and_parts (eqb x x) (less_bytes xs xs) i).1

pub less_trans : (x y z : List ℕ) → less_bytes x y ≡ true → less_bytes y z ≡ true → less_bytes x z ≡ true
unfolding less_bytes
less_trans [] [] z e f = absurd (false≢true e)
less_trans [] (y ∷ ys) [] e f = f
less_trans [] (y ∷ ys) (z ∷ zs) e f = refl
less_trans (x ∷ xs) [] z e f = absurd (false≢true e)
less_trans (x ∷ xs) (y ∷ ys) [] e f = f
less_trans (x ∷ xs) (y ∷ ys) (z ∷ zs) e f =
    go (or_cases (ltb x y) (eqb x y && less_bytes xs ys) e) (or_cases (ltb y z) (eqb y z && less_bytes ys zs) f) (less_trans xs ys zs)
  where
    small : x < z → (ltb x z || (eqb x z && less_bytes xs zs)) ≡ true
    small h = or_left (ltb x z) (eqb x z && less_bytes xs zs) (lt-ltb x z h)

    go : (ltb x y ≡ true) ⊎ ((eqb x y && less_bytes xs ys) ≡ true) → (ltb y z ≡ true) ⊎ ((eqb y z && less_bytes ys zs) ≡ true) → (less_bytes xs ys ≡ true → less_bytes ys zs ≡ true → less_bytes xs zs ≡ true) →
        (ltb x z || (eqb x z && less_bytes xs zs)) ≡ true
    go (inl a) (inl b) r = small (let h = ltb-true x y a in let k = ltb-true y z b in omega arith)
    go (inl a) (inr b) r = small (let h = ltb-true x y a in let k = eqb-true y z (and_parts (eqb y z) (less_bytes ys zs) b).0 in omega arith)
    go (inr a) (inl b) r = small (let h = eqb-true x y (and_parts (eqb x y) (less_bytes xs ys) a).0 in let k = ltb-true y z b in omega arith)
    go (inr a) (inr b) r =
        let h = and_parts (eqb x y) (less_bytes xs ys) a in
        let k = and_parts (eqb y z) (less_bytes ys zs) b in
        or_right (ltb x z) (eqb x z && less_bytes xs zs) (and_from (eqb x z) (less_bytes xs zs) (eq-eqb x z (eqb-true x y h.0 ∙ eqb-true y z k.0)) (r h.1 k.1))

-- a timestamp with a path, before another or not after it
abbrev pub BeforeWith : Timestamp → Path → Timestamp → Path → Type 0
BeforeWith a p b q = Before a b ⊎ ((a ≡ b) × (less_bytes p q ≡ true))

abbrev pub UptoWith : Timestamp → Path → Timestamp → Path → Type 0
UptoWith a p b q = Before a b ⊎ ((a ≡ b) × ((p ≡ q) ⊎ (less_bytes p q ≡ true)))

pub before_upto_with : (a : Timestamp) (p : Path) (b : Timestamp) (q : Path) → BeforeWith a p b q → UptoWith a p b q
before_upto_with a p b q (inl h) = inl h
before_upto_with a p b q (inr h) = inr (h.0, inr h.1)

pub upto_refl_with : (a : Timestamp) (p : Path) → UptoWith a p a p
upto_refl_with a p = inr (refl, inl refl)

pub upto_trans_with : (a : Timestamp) (p : Path) (b : Timestamp) (q : Path) (c : Timestamp) (r : Path) → UptoWith a p b q → UptoWith b q c r → UptoWith a p c r
upto_trans_with a p b q c r (inl h) (inl k) = inl (before_upto_trans a b c h (before_upto b c k))
upto_trans_with a p b q c r (inl h) (inr k) = inl (subst (λ x. Before a x) k.0 h)
upto_trans_with a p b q c r (inr h) (inl k) = inl (subst (λ x. Before x c) (sym h.0) k)
upto_trans_with a p b q c r (inr h) (inr k) = inr (h.0 ∙ k.0, go h.1 k.1)
  where
    go : (p ≡ q) ⊎ (less_bytes p q ≡ true) → (q ≡ r) ⊎ (less_bytes q r ≡ true) → (p ≡ r) ⊎ (less_bytes p r ≡ true)
    go (inl i) (inl j) = inl (i ∙ j)
    go (inl i) (inr j) = inr (rw i j)
    go (inr i) (inl j) = inr (rw (← j) i)
    go (inr i) (inr j) = inr (less_trans p q r i j)

pub before_not_with : (a : Timestamp) (p : Path) (b : Timestamp) (q : Path) → BeforeWith a p b q → UptoWith b q a p → ⊥
before_not_with a p b q (inl h) (inl k) = before_not a b h (before_upto b a k)
before_not_with a p b q (inl h) (inr k) = before_not a b h (rw k.0 (upto_refl a))
before_not_with a p b q (inr h) (inl k) = before_not b a k (rw h.0 (upto_refl b))
before_not_with a p b q (inr h) (inr k) = go k.1
  where
    go : (q ≡ p) ⊎ (less_bytes q p ≡ true) → ⊥
    go (inl i) = less_self p (rw i at h.1)
    go (inr i) = less_self p (less_trans p q p h.1 i)

pub upto_clock : (a : Timestamp) (p : Path) (b : Timestamp) (q : Path) → UptoWith a p b q → Upto a b
upto_clock a p b q (inl h) = before_upto a b h
upto_clock a p b q (inr h) = rw h.0 (upto_refl b)

pub earlier_before_with : (a : Timestamp) (p : Path) (b : Timestamp) (q : Path) → earlier_with a p b q ≡ true → BeforeWith a p b q
earlier_before_with a p b q e = go (earlier a b) refl (or_cases (earlier a b) (not (earlier b a) && less_bytes p q) e)
  where
    go : (x : Bool) → earlier a b ≡ x → (earlier a b ≡ true) ⊎ ((not (earlier b a) && less_bytes p q) ≡ true) → BeforeWith a p b q
    go true i k = inl (earlier_before a b i)
    go false i (inl k) = absurd (both_ways (earlier a b) i k)
    go false i (inr k) =
        let h = and_parts (not (earlier b a)) (less_bytes p q) k in
        inr (upto_both a b (earlier_not b a (not-true (earlier b a) h.0)) (earlier_not a b i), h.1)

pub record Came (c d : Verifier) (x : Element) : Type 0 where
  pub open_still : c.done ≤ x.timestamp.epoch
  pub past : Before x.timestamp d.clock

pub record Put (t : ℕ) (c d : Verifier) (x : Element) : Type 0 where
  pub at_clock : x.timestamp ≡ d.clock
  pub at_last : path_of x.rec ≡ d.last_evicted
  pub by_it : x.verifier ≡ t
  pub goes_past : BeforeWith c.clock c.last_evicted d.clock d.last_evicted

pub record Went (t : ℕ) (c d : Verifier) (adds evicts : List Element) : Type 0 where
  pub onward : UptoWith c.clock c.last_evicted d.clock d.last_evicted
  pub done_on : c.done ≤ d.done
  pub done_in : c.done ≤ c.clock.epoch → d.done ≤ d.clock.epoch
  pub came : All (Came c d) adds
  pub put : All (Put t c d) evicts
  pub few : length evicts ≤ 1
  pub few_in : length adds ≤ 1

abbrev pub WentWell : ℕ → Verifier → Step → Type 0
WentWell t c fails = Unit
WentWell t c (goes d adds evicts nh) = Went t c d adds evicts

-- only the store changes
still : (t : ℕ) (v : Verifier) (xs : List Stored) → Went t v (with_store v xs) [] []
still t v xs = record { onward = upto_refl_with v.clock v.last_evicted; done_on = omega arith; done_in = λ h. h; came = tt; put = tt; few = omega arith; few_in = omega arith }

-- an evict by Blum, from the store as it is or with a pointer written
well_evicts : (t : ℕ) (v : Verifier) (xs : List Stored) (p : Path) (m : Timestamp) (by : Bool) (x : Stored) → Found v p x → Evictable (with_store v xs) p m by x →
    Went t v (evicted_at (with_store v xs) p m) [] (element x m t ∷ [])
well_evicts t v xs p m by x f k =
    let l : BeforeWith v.clock v.last_evicted m p = earlier_before_with v.clock v.last_evicted m p k.later in
    let n = upto_clock v.clock v.last_evicted m p (before_upto_with v.clock v.last_evicted m p l) in
    record {
      onward = before_upto_with v.clock v.last_evicted m p l;
      done_on = omega arith;
      done_in = λ h. let w = n.0 in omega arith;
      came = tt;
      put = (record { at_clock = refl; at_last = find_path p v.store x f.others f.is; by_it = refl; goes_past = l }, tt);
      few = omega arith;
      few_in = omega arith;
    }

pub well_adds_blum : (t : ℕ) (v : Verifier) (r : Record) (m : Timestamp) (j : ℕ) → v.done ≤ m.epoch → Went t v (added_by_blum v r m) (record { rec = r; timestamp = m; verifier = j } ∷ []) []
well_adds_blum t v r m j h = go (earlier v.clock (just_after m)) refl
  where
    n : Timestamp
    n = later v.clock (just_after m)

    not_self : earlier v.clock v.clock ≡ false
    not_self = go (earlier v.clock v.clock) refl
      where
        go : (b : Bool) → earlier v.clock v.clock ≡ b → b ≡ false
        go true e = absurd (before_not v.clock v.clock (earlier_before v.clock v.clock e) (upto_refl v.clock))
        go false e = refl

    made : UptoWith v.clock v.last_evicted n (pick (earlier v.clock n) [] v.last_evicted) → Before m n →
        Went t v (added_by_blum v r m) (record { rec = r; timestamp = m; verifier = j } ∷ []) []
    made l p =
        let w = (upto_clock v.clock v.last_evicted n (pick (earlier v.clock n) [] v.last_evicted) l).0 in
        record { onward = l; done_on = omega arith; done_in = λ k. omega arith; came = (record { open_still = h; past = p }, tt); put = tt; few = omega arith; few_in = omega arith }

    go : (b : Bool) → earlier v.clock (just_after m) ≡ b → Went t v (added_by_blum v r m) (record { rec = r; timestamp = m; verifier = j } ∷ []) []
    go true e = made (inl (subst (λ x. Before v.clock x) (sym is) (earlier_before v.clock (just_after m) e))) (subst (λ x. Before m x) (sym is) (omega arith))
      where
        is : n ≡ just_after m
        is = picks (earlier v.clock (just_after m)) (just_after m) v.clock e
    go false e =
        let k : Upto (just_after m) v.clock = earlier_not v.clock (just_after m) e in
        made (inr (sym is, inl (sym (picks_not (earlier v.clock n) [] v.last_evicted (ap (earlier v.clock) is ∙ not_self)))))
        (subst (λ x. Before m x) (sym is) (before_upto_trans m (just_after m) v.clock (omega arith) k))
      where
        is : n ≡ v.clock
        is = picks_not (earlier v.clock (just_after m)) (just_after m) v.clock e

pub well : (t : ℕ) (v : Verifier) (e : Entry) → WentWell t v (verifier_step t v e)
well t v =
    by_ways t v (λ e. WentWell t v)
    (record {
      wrong = λ e. tt;
      new_child = λ r q y a g e f. still t v _;
      same_child = λ r q y a g e. still t v _;
      new_node = λ r q y p h b a g e f k l. still t v _;
      adds_blum = λ r m j z g d. well_adds_blum t v r m j d;
      evicts_merkle = λ p q x y h b f a k e. still t v _;
      evicts_blum = λ p m x f k. well_evicts t v v.store p m false x f k;
      evicts_blum_merkle = λ p q m x y h f a e k. well_evicts t v (marked_blum v p q y h).store p m true x f k;
      begins_epoch = record { onward = inl (omega arith); done_on = omega arith; done_in = λ h. omega arith; came = tt; put = tt; few = omega arith; few_in = omega arith };
      ends_epoch = λ h. record { onward = upto_refl_with v.clock v.last_evicted; done_on = omega arith; done_in = λ k. omega arith; came = tt; put = tt; few = omega arith; few_in = omega arith };
      gets = λ k w x f e. still t v v.store;
      sets = λ k w x u f e. still t v _;
    })

-- What is certified: all verifiers are done with it, its sums agree, and nothing is added to it any more.
use Rattle.std.proofs.Common.{◌≡◌, ℕ, zero, suc, ◌<◌, ◌≤◌, Bool, true, false, ◌&&◌, eqb, ltb, ◌⊎◌, List, [], ◌∷◌, length, refl, ap, ◌∙◌, subst, inl, inr, arith}
use Rattle.std.proofs.lemmas.Bool.{and_parts, ltb-true, eqb-true, cases_eq, cases_lt}
use Rattle.model.specs.Records.{pick, Record}
use Rattle.model.specs.Verifier.{Entry, Verifier, goes, Element, verifier_step}
use Rattle.model.specs.Monitor.{State, Limits, Event, logged, malformed, Sum, state, verifier_at, with_verifier, sum_at, with_sum, add_element, evict_element, add_elements, evict_elements, all_done, certify, after, refusal, stop, accepted, respond}
use Rattle.order.proofs.Lists.{All, all_map}
use Rattle.order.proofs.Log.{LookedAt, at_new, length_new, at_put, at_off, length_put, by_states}
use Rattle.order.proofs.Clocks.{upto_clock, Came, Put, Went, WentWell, well}

pub sum_off : (ss : List Sum) (i e : ℕ) (x : Sum) → (e ≡ i → ⊥) → sum_at (with_sum ss i x) e ≡ sum_at ss e
unfolding sum_at with_sum
sum_off [] zero zero x n = absurd (n refl)
sum_off [] zero (suc e) x n = refl
sum_off [] (suc i) zero x n = refl
sum_off [] (suc i) (suc e) x n = sum_off [] i e x (λ j. n (ap suc j))
sum_off (s ∷ ss) zero zero x n = absurd (n refl)
sum_off (s ∷ ss) zero (suc e) x n = refl
sum_off (s ∷ ss) (suc i) zero x n = refl
sum_off (s ∷ ss) (suc i) (suc e) x n = sum_off ss i e x (λ j. n (ap suc j))

pub added_off : (k : List ℕ) (ss : List Sum) (xs : List Element) (e : ℕ) → All (λ x. e < x.timestamp.epoch) xs → sum_at (add_elements k ss xs) e ≡ sum_at ss e
unfolding add_elements
added_off k ss [] e a = refl
added_off k ss (x ∷ xs) e a =
    let h = a.0 in
    added_off k (add_element k ss x) xs e a.1 ∙ sum_off ss x.timestamp.epoch e _ (λ i. omega arith)

pub evicted_off : (k : List ℕ) (ss : List Sum) (xs : List Element) (e : ℕ) → All (λ x. e < x.timestamp.epoch) xs → sum_at (evict_elements k ss xs) e ≡ sum_at ss e
unfolding evict_elements
evicted_off k ss [] e a = refl
evicted_off k ss (x ∷ xs) e a =
    let h = a.0 in
    evicted_off k (evict_element k ss x) xs e a.1 ∙ sum_off ss x.timestamp.epoch e _ (λ i. omega arith)

pub certify_on : (n : ℕ) (cs : List Verifier) (ss : List Sum) (e : ℕ) → e ≤ certify n cs ss e
unfolding certify pick
certify_on zero cs ss e = omega arith
certify_on (suc n) cs ss e = go (all_done cs e && eqb (sum_at ss e).added (sum_at ss e).evicted) (certify_on n cs ss (suc e))
  where
    go : (b : Bool) → suc e ≤ certify n cs ss (suc e) → e ≤ pick b (certify n cs ss (suc e)) e
    go true ih = omega arith
    go false ih = omega arith

pub certify_ok : (n : ℕ) (cs : List Verifier) (ss : List Sum) (e d : ℕ) → e ≤ d → d < certify n cs ss e → (all_done cs d ≡ true) × ((sum_at ss d).added ≡ (sum_at ss d).evicted)
unfolding certify pick
certify_ok zero cs ss e d h k = absurd (omega arith)
certify_ok (suc n) cs ss e d h k = go (all_done cs e && eqb (sum_at ss e).added (sum_at ss e).evicted) refl k (certify_ok n cs ss (suc e) d)
  where
    go : (b : Bool) → (all_done cs e && eqb (sum_at ss e).added (sum_at ss e).evicted) ≡ b → d < pick b (certify n cs ss (suc e)) e →
        (suc e ≤ d → d < certify n cs ss (suc e) → (all_done cs d ≡ true) × ((sum_at ss d).added ≡ (sum_at ss d).evicted)) → (all_done cs d ≡ true) × ((sum_at ss d).added ≡ (sum_at ss d).evicted)
    go true i l ih = by (cases_eq e d)
      where
        by : (e ≡ d) ⊎ (e ≡ d → ⊥) → (all_done cs d ≡ true) × ((sum_at ss d).added ≡ (sum_at ss d).evicted)
        by (inl j) =
            let a = and_parts (all_done cs e) (eqb (sum_at ss e).added (sum_at ss e).evicted) i in
            rw (← j) (a.0, eqb-true (sum_at ss e).added (sum_at ss e).evicted a.1)
        by (inr m) = ih (omega arith) l
    go false i l ih = absurd (omega arith)

done_at : (cs : List Verifier) (e u : ℕ) → all_done cs e ≡ true → u < length cs → e < (verifier_at cs u).done
unfolding all_done verifier_at
done_at [] e u a h = absurd (omega arith)
done_at (c ∷ cs) e zero a h = ltb-true e c.done (and_parts (ltb e c.done) (all_done cs e) a).0
done_at (c ∷ cs) e (suc u) a h = done_at cs e u (and_parts (ltb e c.done) (all_done cs e) a).1 (omega arith)

pub record Settled (l : Limits) (s : State) : Type 0 where
  pub many : length s.verifiers ≡ l.verifiers
  pub ends : (t : ℕ) → t < l.verifiers → s.certified ≤ (verifier_at s.verifiers t).done
  pub within_clock : (t : ℕ) → t < l.verifiers → (verifier_at s.verifiers t).done ≤ (verifier_at s.verifiers t).clock.epoch
  pub even : (e : ℕ) → e < s.certified → (sum_at s.sums e).added ≡ (sum_at s.sums e).evicted

settled_stop : (l : Limits) (z : State) → Settled l z → Settled l (stop z)
settled_stop l z S = record { many = S.many; ends = S.ends; within_clock = S.within_clock; even = S.even }

-- what a right entry adds and evicts is of an epoch that isn't certified
pub record Late (n : ℕ) (adds evicts : List Element) : Type 0 where
  pub added : All (λ x. n ≤ x.timestamp.epoch) adds
  pub evicted : All (λ x. n ≤ x.timestamp.epoch) evicts

pub late : (l : Limits) (s : State) → Settled l s → (t : ℕ) → t < l.verifiers → (v : Verifier) (adds evicts : List Element) → Went t (verifier_at s.verifiers t) v adds evicts →
    Late s.certified adds evicts
late l s S t tn v adds evicts w =
    record {
      added = all_map (Came v₀ v) (λ x. s.certified ≤ x.timestamp.epoch) adds (λ x p. let a = S.ends t tn in let b = p.open_still in omega arith) w.came;
      evicted = all_map (Put t v₀ v) (λ x. s.certified ≤ x.timestamp.epoch) evicts puts w.put;
    }
  where
    v₀ : Verifier
    v₀ = verifier_at s.verifiers t

    puts : (x : Element) → Put t v₀ v x → s.certified ≤ x.timestamp.epoch
    puts x p =
        let a = S.ends t tn in
        let b = S.within_clock t tn in
        let f = (upto_clock v₀.clock v₀.last_evicted v.clock v.last_evicted w.onward).0 in
        let g = ap (λ m. m.epoch) p.at_clock in
        omega arith

-- so the sums of certified epochs stay
pub sums_kept : (k : List ℕ) (ss : List Sum) (n : ℕ) (adds evicts : List Element) → Late n adds evicts → (d : ℕ) → d < n → sum_at (evict_elements k (add_elements k ss adds) evicts) d ≡ sum_at ss d
sums_kept k ss n adds evicts L d h = evicted_off k (add_elements k ss adds) evicts d (after evicts L.evicted) ∙ added_off k ss adds d (after adds L.added)
  where
    after : (xs : List Element) → All (λ x. n ≤ x.timestamp.epoch) xs → All (λ x. d < x.timestamp.epoch) xs
    after xs = all_map (λ x. n ≤ x.timestamp.epoch) (λ x. d < x.timestamp.epoch) xs (λ x a. omega arith)

-- a right entry keeps that
settled_more : (l : Limits) (s : State) (t : ℕ) (e : Entry) (c : Verifier) (adds aw : List Element) (hashes : List Record) → Settled l s → LookedAt l t e →
    verifier_step t (verifier_at s.verifiers t) e ≡ goes c adds aw hashes → Settled l (accepted l s t e c adds aw hashes)
settled_more l s t e c adds aw hashes S k i = record { many = length_put s.verifiers t c ∙ S.many; ends = ends; within_clock = within_clock; even = even }
  where
    c₀ : Verifier
    c₀ = verifier_at s.verifiers t

    w : Went t c₀ c adds aw
    w = subst (WentWell t c₀) i (well t c₀ e)

    cs : List Verifier
    cs = with_verifier s.verifiers t c

    ss : List Sum
    ss = evict_elements l.secret (add_elements l.secret s.sums adds) aw

    n : ℕ
    n = certify (suc l.epochs) cs ss s.certified

    tl : t < length s.verifiers
    tl = let m = S.many in let h = k.there in omega arith

    at_u : (u : ℕ) → (u ≡ t) ⊎ (u ≡ t → ⊥) → ((u ≡ t) × (verifier_at cs u ≡ c)) ⊎ (verifier_at cs u ≡ verifier_at s.verifiers u)
    at_u u (inl j) = inl (j, ap (verifier_at cs) j ∙ at_put s.verifiers t c tl)
    at_u u (inr m) = inr (at_off s.verifiers t c u m)

    within_clock : (u : ℕ) → u < l.verifiers → (verifier_at cs u).done ≤ (verifier_at cs u).clock.epoch
    within_clock u h = by (at_u u (cases_eq u t))
      where
        by : ((u ≡ t) × (verifier_at cs u ≡ c)) ⊎ (verifier_at cs u ≡ verifier_at s.verifiers u) → (verifier_at cs u).done ≤ (verifier_at cs u).clock.epoch
        by (inl j) = rw j.1 (w.done_in (S.within_clock t k.there))
        by (inr j) = rw j (S.within_clock u h)

    old_ends : (u : ℕ) → u < l.verifiers → s.certified ≤ (verifier_at cs u).done
    old_ends u h = by (at_u u (cases_eq u t))
      where
        by : ((u ≡ t) × (verifier_at cs u ≡ c)) ⊎ (verifier_at cs u ≡ verifier_at s.verifiers u) → s.certified ≤ (verifier_at cs u).done
        by (inl j) = rw j.1 (let a = S.ends t k.there in let b = w.done_on in omega arith)
        by (inr j) = rw j (S.ends u h)

    ends : (u : ℕ) → u < l.verifiers → n ≤ (verifier_at cs u).done
    ends u h = by (cases_lt s.certified n)
      where
        many : length cs ≡ l.verifiers
        many = length_put s.verifiers t c ∙ S.many

        last : (m : ℕ) → n ≡ suc m → s.certified ≤ m → n ≤ (verifier_at cs u).done
        last m j g =
            let a = certify_ok (suc l.epochs) cs ss s.certified m g (rw j (omega arith)) in
            let b = done_at cs m u a.0 (let o = many in omega arith) in
            omega arith

        by : (s.certified < n) ⊎ (n ≤ s.certified) → n ≤ (verifier_at cs u).done
        by (inl g) = pre n refl g
          where
            pre : (m : ℕ) → n ≡ m → s.certified < n → n ≤ (verifier_at cs u).done
            pre zero j x = absurd (omega arith)
            pre (suc m) j x = last m j (omega arith)
        by (inr g) = let a = old_ends u h in omega arith

    kept : (d : ℕ) → d < s.certified → sum_at ss d ≡ sum_at s.sums d
    kept = sums_kept l.secret s.sums s.certified adds aw (late l s S t k.there c adds aw w)

    even : (d : ℕ) → d < n → (sum_at ss d).added ≡ (sum_at ss d).evicted
    even d h = by (cases_lt d s.certified)
      where
        by : (d < s.certified) ⊎ (s.certified ≤ d) → (sum_at ss d).added ≡ (sum_at ss d).evicted
        by (inl g) = rw (kept d g) (S.even d g)
        by (inr g) = (certify_ok (suc l.epochs) cs ss s.certified d g h).1

pub settled : (l : Limits) (es : List Event) → Settled l (state l es)
unfolding state respond refusal pick
settled l [] =
    record {
      many = length_new l.verifiers 0;
      ends = λ t h. omega arith;
      within_clock = λ t h. rw (at_new l.verifiers 0 t h) (omega arith);
      even = λ e h. absurd (omega arith);
    }
settled l (malformed n ∷ es) = settled l es
settled l (logged t e ∷ es) = go (settled l es)
  where
    go : Settled l (state l es) → Settled l (after l (state l es) (logged t e))
    go S =
        by_states (Settled l) l (state l es) t e S (settled_stop l (state l es) S)
        (λ v adds evicts hashes k i. let T = settled_more l (state l es) t e v adds evicts hashes S k i in (settled_stop l (accepted l (state l es) t e v adds evicts hashes) T, T))

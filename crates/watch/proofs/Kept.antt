-- One event over memory that keeps a monitor.
use Rattle.std.proofs.Common.{◌≡◌, ℕ, zero, suc, ◌+◌, ◌-◌, ◌*◌, ◌<◌, ◌≤◌, Bool, true, false, ◌&&◌, eqb, ltb, leb, List, [], ◌∷◌, ◌++◌, length, take, drop, set, sym, refl, ap, ◌∙◌, subst, arith, take-append-drop}
use Rattle.std.proofs.lemmas.Bool.{leb-false, ltb-true, and_parts}
use Rattle.model.specs.Records.{pick}
use Rattle.model.specs.Verifier.{Verifier, Entry, Element, fails, verifier_step}
use Rattle.model.specs.Monitor.{Limits, State, Response, Event, logged, malformed, refusal, place_of, after, state, stop, accepted, verifier_at, with_verifier, entry_code, is_add, in_range, store_full, too_far_ahead, epoch_named, good_entry, good_record, good_timestamp, fits_32}
use Rattle.model.specs.Order.{all_entries, CertifiedIsOne}
use Rattle.model.specs.Program.{GoodLimits}
use Rattle.order.proofs.Lists.{All}
use Rattle.order.proofs.Clocks.{WentWell, well}
use Rattle.order.proofs.Sums.{Settled, Late, late}
use Rattle.order.proofs.Certified.{certified_is_one}
use Rattle.slot.specs.Parts.{part, put}
use Rattle.path.specs.Times.{timestamp_of}
use Rattle.reader.specs.Meaning.{record_of}
use Rattle.block.specs.Blocks.{block_words, Keeps}
use Rattle.memory.specs.Keeping.{block_start, block_at, Kept, Laid}
use Rattle.memory.specs.Ranges.{Agrees}
use Rattle.memory.specs.declared.limits.Limits as code
use Rattle.memory.proofs.Framed.{with_block, laid_from, block_laid, stopped_written}
use Rattle.memory.proofs.Verifiers.{all_done_same}
use Rattle.epochs.proofs.Waiting.{waiting_next}
use Rattle.wire.specs.declared.parts.Answer.{Answer}
use Rattle.wire.specs.declared.parts.Answer.TheVariants.{Refused, Wrong}
use Rattle.wire.specs.declared.parts.Entry as code-entry
use Rattle.wire.specs.declared.parts.Entry.TheVariants.{AddMerkle, AddBlum, EvictMerkle, EvictBlum, EvictBlumMerkle, NextEpoch, VerifyEpoch, Get, Set}
use Rattle.wire.specs.Meaning.{entry_of, EntryParts}
use Rattle.step.specs.declared.effect.Effect.{Effect}
use Rattle.step.specs.Effects.{Goes, Timely}
use Rattle.step.proofs.Quiet.{AllOf, Quiet, Quietly, quietly}
use Rattle.finish.specs.Finishing.{UnderWay, Ready, Finished}
use Rattle.watch.specs.Promise.{Responds, Answers}
use Rattle.watch.proofs.Lengths.{of_element}
use Rattle.watch.proofs.Responses.{refuses, fails_then, goes_answer, goes_state}

-- ---- what it means that an event is looked at

pick_none : (b : Bool) (x y : ℕ) → pick b x y ≡ 0 → 0 < y → (b ≡ true) × (x ≡ 0)
unfolding pick
pick_none true x y e h = (refl, e)
pick_none false x y e h = absurd (omega arith)

pick_next : (b : Bool) (x y : ℕ) → pick b x y ≡ 0 → 0 < x → (b ≡ false) × (y ≡ 0)
unfolding pick
pick_next true x y e h = absurd (omega arith)
pick_next false x y e h = (refl, e)

pub record Looked (l : Limits) (s : State) (t : ℕ) (e : Entry) : Type 0 where
  pub inside : in_range l s t e ≡ true
  pub going : s.stopped ≡ false
  pub room : store_full l (verifier_at s.verifiers t) e ≡ false
  pub near : too_far_ahead l s (epoch_named (verifier_at s.verifiers t) e) ≡ false

pub looked : (l : Limits) (s : State) (t : ℕ) (e : Entry) → refusal l s (logged t e) ≡ 0 → Looked l s t e
unfolding refusal
looked l s t e h =
    let a = pick_none _ _ 2 h (omega arith) in
    let b = pick_next _ 3 _ a.1 (omega arith) in
    let c = pick_next _ 4 _ b.1 (omega arith) in
    let d = pick_next _ 5 _ c.1 (omega arith) in
    record { inside = a.0; going = b.0; room = c.0; near = d.0 }

pub has_room : (l : Limits) (v : Verifier) (e : Entry) → store_full l v e ≡ false → is_add e ≡ true → length v.store < l.places
has_room l v e f i = leb-false l.places (length v.store) (sym (ap (λ (b : Bool). b && leb l.places (length v.store)) i) ∙ f)

-- what is named in range fits
pub timely : (l : Limits) (s : State) (t : ℕ) (e : code-entry.Entry) → GoodLimits all_entries l → Looked l s t (entry_of e) → EntryParts e → Timely (verifier_at s.verifiers t) e
unfolding good_entry epoch_named
timely l s t (AddMerkle r q) g k parts = tt
timely l s t (AddBlum r m j x) g k parts =
    let a = (and_parts _ _ (and_parts _ _ k.inside).0).1 in
    let b = and_parts (good_record (record_of r) && good_timestamp (timestamp_of m)) (ltb j l.verifiers) a in
    let c = and_parts (good_record (record_of r)) (good_timestamp (timestamp_of m)) b.0 in
    let d = ltb-true (suc m.counter) 4294967296 (and_parts (fits_32 m.epoch) (fits_32 (suc m.counter)) c.1).1 in
    let f = ltb-true j l.verifiers b.1 in
    let most = g.most_verifiers in
    let few : j < 256 = omega arith in
    (omega arith, few, subst (λ (bs : List ℕ). length bs ≤ 1112) (sym (parts.1 few)) (of_element (record { rec = record_of r; timestamp = timestamp_of m; verifier = j }) c.0))
timely l s t (EvictMerkle p q) g k parts = tt
timely l s t (EvictBlum p m) g k parts = tt
timely l s t (EvictBlumMerkle p q m) g k parts = tt
timely l s t NextEpoch g k parts = let f = ltb-true (suc (verifier_at s.verifiers t).clock.epoch) 4294967296 (and_parts _ _ k.inside).1 in omega arith
timely l s t VerifyEpoch g k parts = tt
timely l s t (Get k₁ v) g k parts = tt
timely l s t (Set k₁ v) g k parts = tt

-- elements of the epoch that an entry names, which is under way
under_way : (l : Limits) (s : State) (n : ℕ) (xs : List Element) → All (λ x. s.certified ≤ x.timestamp.epoch) xs → AllOf n xs → n < s.certified + l.epochs → UnderWay l s xs
under_way l s n [] a b h = tt
under_way l s n (x ∷ xs) a b h = let e = b.0 in ((a.0, omega arith), under_way l s n xs a.1 b.1 h)

-- ---- the memory

-- a refusal
pub refused_kept : (l : Limits) (m : List ℕ) (s : State) (t : ℕ) (e : Entry) (k : ℕ) → Kept l m s → refusal l s (logged t e) ≡ k → 0 < k → Responds l s (logged t e) m (Refused k 0)
unfolding place_of
refused_kept l m s t e (suc k) kept h pos =
    let r = refuses l s (logged t e) k h in
    record { answered = sym (ap (λ (x : Response). x.answer) r); kept = subst (Kept l m) (sym (ap (λ (x : Response). x.state) r)) kept }
refused_kept l m s t e zero kept h pos = absurd (omega arith)

put_same : (a k : ℕ) (m : List ℕ) → put a k m (part a k m) ≡ m
put_same a k m = ap (λ (r : List ℕ). take a m ++ r) (take-append-drop k (drop a m)) ∙ take-append-drop a m

module _ (l : Limits) (x : code.Limits) (m : List ℕ) (s : State) (t : ℕ) (agrees : Agrees x l) (kept : Kept l m s) (within : t < x.verifiers) (a : ℕ) (at : a ≡ block_start x.epochs x.places t) where
  inside : t < l.verifiers
  inside = let e = agrees.verifiers in omega arith

  start : a ≡ block_start l.epochs l.places t
  start = at ∙ ap (λ (k : ℕ). block_start k x.places t) (sym agrees.epochs) ∙ ap (λ (k : ℕ). block_start l.epochs k t) (sym agrees.places)

  many : a + 64 + 192 * x.places - a ≡ block_words l.places
  many = let e = agrees.places in omega arith

  -- the block as code lends it
  lent : part a (a + 64 + 192 * x.places - a) m ≡ block_at l m t
  lent = ap (λ (k : ℕ). part a k m) many ∙ ap (λ (k : ℕ). part k (block_words l.places) m) start

  written : (b : List ℕ) → put a (a + 64 + 192 * x.places - a) m b ≡ with_block l m t b
  written b = ap (λ (k : ℕ). put a k m b) many ∙ ap (λ (k : ℕ). put k (block_words l.places) m b) start

  pub lent_keeps : Keeps x.places (part a (a + 64 + 192 * x.places - a) m) (verifier_at s.verifiers t)
  lent_keeps =
      subst (λ (b : List ℕ). Keeps x.places b (verifier_at s.verifiers t)) (sym lent)
      (subst (λ (n : ℕ). Keeps n (block_at l m t) (verifier_at s.verifiers t)) agrees.places (kept.blocks t inside))

  module _ (e : Entry) (ok : refusal l s (logged t e) ≡ 0) where
    pub wrong_kept : (b : List ℕ) → b ≡ part a (a + 64 + 192 * x.places - a) m → verifier_step t (verifier_at s.verifiers t) e ≡ fails
        → Responds l s (logged t e) (set (put a (a + 64 + 192 * x.places - a) m b) 3 1) Wrong
    wrong_kept b same failed =
        let r = fails_then l s t e ok failed in
        let back : put a (a + 64 + 192 * x.places - a) m b ≡ m = ap (put a (a + 64 + 192 * x.places - a) m) same ∙ put_same a (a + 64 + 192 * x.places - a) m in
        let z : State = after l s (logged t e) in
        let is : z ≡ stop s = ap (λ (y : Response). y.state) r in
        record {
          answered = sym (ap (λ (y : Response). y.answer) r);
          kept =
              subst (λ (w : List ℕ). Kept l (set w 3 1) z) (sym back)
              (stopped_written l m s z kept (ap (λ (y : State). y.verifiers) is) (ap (λ (y : State). y.sums) is) (ap (λ (y : State). y.certified) is) (ap (λ (y : State). y.stopped) is));
        }

    -- the state once the verifier's block is written
    abbrev pub written_state : Verifier → State
    written_state v' = record { verifiers = with_verifier s.verifiers t v'; sums = s.sums; certified = s.certified; stopped = s.stopped; adds = s.adds; evicts = s.evicts; hashed = s.hashed; calls = s.calls }

    module _ (settled : Settled l s) (b : List ℕ) (f : Effect) (g : Goes x.places b l.secret f (verifier_step t (verifier_at s.verifiers t) e)) where
      v : Verifier
      v = verifier_at s.verifiers t

      quiet : Quiet (verifier_at s.verifiers t) g.left e g.added g.evicted
      quiet = subst (Quietly (verifier_at s.verifiers t) e) g.is (quietly t (verifier_at s.verifiers t) e)

      seen : Looked l s t e
      seen = looked l s t e ok

      never_certified : Late s.certified g.added g.evicted
      never_certified = late l s settled t inside g.left g.added g.evicted (subst (WentWell t (verifier_at s.verifiers t)) g.is (well t (verifier_at s.verifiers t) e))

      near : epoch_named (verifier_at s.verifiers t) e < s.certified + l.epochs
      near = leb-false (s.certified + l.epochs) (epoch_named (verifier_at s.verifiers t) e) seen.near

      right_laid : Laid l (put a (a + 64 + 192 * x.places - a) m b) (written_state g.left)
      right_laid =
          subst (λ (m' : List ℕ). Laid l m' (written_state g.left)) (sym (written b))
          (block_laid l m s t b g.left (written_state g.left) (laid_from l m s kept) inside (subst (λ (n : ℕ). Keeps n b g.left) (sym agrees.places) g.keeps) refl refl refl refl)

      right_ready : Ready l (written_state g.left) (accepted l s t e g.left g.added g.evicted g.hashed) f (eqb (entry_code e) 6)
      right_ready = record {
        added = g.added;
        evicted = g.evicted;
        effect = g.effect;
        added_now = under_way l (written_state g.left) _ g.added never_certified.added quiet.added_named near;
        evicted_now = under_way l (written_state g.left) _ g.evicted never_certified.evicted quiet.evicted_named near;
        going = seen.going;
        verifiers = refl;
        sums = refl;
        certifies = refl;
        goes_on = refl;
        waiting = λ other. all_done_same s.verifiers t s.certified g.left (quiet.done other) ∙ kept.waiting seen.going;
        next = λ verifies. waiting_next s.verifiers t s.certified g.left (let c = kept.count in omega (arith, inside)) (kept.waiting seen.going) (quiet.done_more verifies);
      }

      finished_kept : (m' : List ℕ) (r : Answer) → Finished l m' (accepted l s t e g.left g.added g.evicted g.hashed) (eqb (entry_code e) 6) r → Responds l s (logged t e) m' r
      finished_kept m' r done = record {
        answered = done.answered ∙ sym (goes_answer l s t e ok g.left g.added g.evicted g.hashed g.is);
        kept = subst (Kept l m') (sym (goes_state l s t e ok g.left g.added g.evicted g.hashed g.is)) done.kept;
      }

      -- what code leaves and answers, from the state where the block is written
      pub right_kept : (m' : List ℕ) (r : Answer) (verifies : Bool) → verifies ≡ eqb (entry_code e) 6
          → ((s₁ z : State) → Laid l (put a (a + 64 + 192 * x.places - a) m b) s₁ → Ready l s₁ z f verifies → Finished l m' z verifies r) → Responds l s (logged t e) m' r
      right_kept m' r verifies is finish =
          let z : State = accepted l s t e g.left g.added g.evicted g.hashed in
          finished_kept m' r
          (subst (λ (b' : Bool). Finished l m' z b' r) is
          (finish (written_state g.left) z right_laid (subst (Ready l (written_state g.left) z f) (sym is) right_ready)))

pub malformed_kept : (l : Limits) (m : List ℕ) (s : State) (n : ℕ) → Kept l m s → Responds l s (malformed n) m (Refused 1 n)
unfolding refusal place_of
malformed_kept l m s n kept =
    let r = refuses l s (malformed n) 0 refl in
    record { answered = sym (ap (λ (x : Response). x.answer) r); kept = subst (Kept l m) (sym (ap (λ (x : Response). x.state) r)) kept }

-- ---- after a log

pub promised : (l : Limits) (es : List Event) (e : Event) (m : List ℕ) (r : Answer) → Responds l (state l es) e m r → Answers l es e m r
unfolding state CertifiedIsOne
promised l es e m r h = record { answered = h.answered; kept = h.kept; one_order = certified_is_one l (e ∷ es) }

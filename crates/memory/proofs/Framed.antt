-- What a write to a block, to a word of the header or to the sums leaves of a monitor's memory.
use Rattle.std.proofs.Common.{◌≡◌, ℕ, ◌+◌, ◌*◌, ◌%◌, ◌<◌, ◌≤◌, Bool, true, false, ◌≢◌, List, length, get_or, set, sym, ap, ◌∙◌, subst, ⊎_elim, arith, length-set, get_or-set_other, get_or-set_same}
use Rattle.std.proofs.lemmas.Bool.{cases_eq, cases_order, both_ways}
use Rattle.model.specs.Records.{pick}
use Rattle.model.specs.Verifier.{Verifier}
use Rattle.model.specs.Monitor.{Limits, Sum, State, verifier_at, with_verifier, sum_at, all_done}
use Rattle.model.specs.Program.{words_needed}
use Rattle.slot.specs.Parts.{part, put}
use Rattle.slot.proofs.Parted.{length_put, part_put, part_before, part_after, at_before, part_set_after}
use Rattle.block.specs.Blocks.{block_words, Keeps}
use Rattle.memory.specs.Keeping.{block_start, block_at, sum_start, sum_in, Kept, Laid}
use Rattle.memory.proofs.Spans.{block_before, block_within, sum_before}
use Rattle.memory.proofs.Verifiers.{length_with, at_same, at_other, all_done_same}
use Rattle.slot.specs.Layout.{bytes_in, number_in}

abbrev pub with_block : Limits → List ℕ → ℕ → List ℕ → List ℕ
with_block l m t b = put (block_start l.epochs l.places t) (block_words l.places) m b

-- a sum's eight words, by its two parts
sum_from : (epochs : ℕ) (m m' : List ℕ) (e : ℕ) → ((a : ℕ) → sum_start epochs e ≤ a → a + 4 ≤ sum_start epochs e + 32 → part a 4 m' ≡ part a 4 m) → sum_in epochs m' e ≡ sum_in epochs m e
sum_from epochs m m' e same =
    let a = sum_start epochs e in
    λ i. record { added = number_in (same a (omega arith) (omega arith) i); evicted = number_in (same (a + 4) (omega arith) (omega arith) i) }

-- ---- a write to a block

module _ (l : Limits) (m b : List ℕ) (t : ℕ) (size : length m ≡ words_needed l) (within : t < l.verifiers) (as_many : length b ≡ block_words l.places) where
  room : block_start l.epochs l.places t + block_words l.places ≤ length m
  room = let h = block_within l t within in omega arith

  pub block_length : length (with_block l m t b) ≡ length m
  block_length = length_put (block_start l.epochs l.places t) (block_words l.places) m b room as_many

  -- the header and the sums
  pub block_low : (a k : ℕ) → a + k ≤ 256 + 32 * l.epochs → part a k (with_block l m t b) ≡ part a k m
  block_low a k h = part_before (block_start l.epochs l.places t) (block_words l.places) m b room as_many a k (omega arith)

  pub block_head : (i : ℕ) → i < 256 → get_or (with_block l m t b) i 0 ≡ get_or m i 0
  block_head i h = at_before (block_start l.epochs l.places t) (block_words l.places) m b room as_many i (omega arith)

  pub block_sum : (e : ℕ) → 0 < l.epochs → sum_in l.epochs (with_block l m t b) e ≡ sum_in l.epochs m e
  block_sum e h = let s = sum_before l.epochs e h in sum_from l.epochs m (with_block l m t b) e (λ a low high. block_low a 4 (omega arith))

  pub block_same : block_at l (with_block l m t b) t ≡ b
  block_same = part_put (block_start l.epochs l.places t) (block_words l.places) m b room as_many

  pub block_other : (u : ℕ) → (u ≡ t → ⊥) → block_at l (with_block l m t b) u ≡ block_at l m u
  block_other u ne =
      let n = l.places in
      let at = block_start l.epochs n in
      ⊎_elim (λ (e : u ≡ t). absurd (ne e))
      (⊎_elim
      (λ (lt : u < t). part_before (at t) (block_words n) m b room as_many (at u) (block_words n) (block_before l.epochs n u t lt))
      (λ (gt : t < u). part_after (at t) (block_words n) m b room as_many (at u) (block_words n) (block_before l.epochs n t u gt)))
      (cases_order u t)

-- ---- a write to a word of the header

module _ (l : Limits) (m : List ℕ) (k v : ℕ) (low : k < 256) where
  pub head_block : (t : ℕ) → block_at l (set m k v) t ≡ block_at l m t
  head_block t = part_set_after (block_start l.epochs l.places t) (block_words l.places) k m v (omega arith)

  pub head_sum : (e : ℕ) → sum_in l.epochs (set m k v) e ≡ sum_in l.epochs m e
  head_sum e = sum_from l.epochs m (set m k v) e (λ a from to. part_set_after a 4 k m v (omega arith))

-- ---- a write to the sums

module _ (l : Limits) (m ws : List ℕ) (a k : ℕ) (in_it : a + k ≤ length m) (as_many : length ws ≡ k) where
  pub sums_block : a + k ≤ 256 + 32 * l.epochs → (t : ℕ) → block_at l (put a k m ws) t ≡ block_at l m t
  sums_block h t = part_after a k m ws in_it as_many (block_start l.epochs l.places t) (block_words l.places) (omega arith)

  pub sums_head : 256 ≤ a → (i : ℕ) → i < 256 → get_or (put a k m ws) i 0 ≡ get_or m i 0
  sums_head h i low = at_before a k m ws in_it as_many i (omega arith)

  pub sums_low : 256 ≤ a → (b j : ℕ) → b + j ≤ 256 → part b j (put a k m ws) ≡ part b j m
  sums_low h b j low = part_before a k m ws in_it as_many b j (omega arith)

  -- those of an epoch in another place
  pub sums_other : (e f : ℕ) → sum_start l.epochs e ≤ a → a + k ≤ sum_start l.epochs e + 32 → (f % l.epochs ≡ e % l.epochs → ⊥) → sum_in l.epochs (put a k m ws) f ≡ sum_in l.epochs m f
  sums_other e f from to ne =
      let n = l.epochs in
      ⊎_elim (λ (q : f % n ≡ e % n). absurd (ne q))
      (⊎_elim
      (λ (lt : f % n < e % n). sum_from n m (put a k m ws) f (λ b low high. part_before a k m ws in_it as_many b 4 (omega arith)))
      (λ (gt : e % n < f % n). sum_from n m (put a k m ws) f (λ b low high. part_after a k m ws in_it as_many b 4 (omega arith))))
      (cases_order (f % n) (e % n))

-- ---- what is kept then

pub laid_from : (l : Limits) (m : List ℕ) (s : State) → Kept l m s → Laid l m s
laid_from l m s k = record {
  size = k.size;
  verifiers = k.verifiers;
  places = k.places;
  epochs = k.epochs;
  stopped = k.stopped;
  certified = k.certified;
  secret = k.secret;
  count = k.count;
  blocks = k.blocks;
  sums = k.sums;
  later = k.later;
}

pub kept_from : (l : Limits) (m : List ℕ) (s : State) → Laid l m s → (s.stopped ≡ false → all_done s.verifiers s.certified ≡ false) → Kept l m s
kept_from l m s k w = record {
  size = k.size;
  verifiers = k.verifiers;
  places = k.places;
  epochs = k.epochs;
  stopped = k.stopped;
  certified = k.certified;
  secret = k.secret;
  count = k.count;
  blocks = k.blocks;
  sums = k.sums;
  later = k.later;
  waiting = w;
}

-- another verifier in a block; the lists that no program keeps may be any
pub block_laid : (l : Limits) (m : List ℕ) (s : State) (t : ℕ) (b' : List ℕ) (v' : Verifier) (z : State)
    → Laid l m s → t < l.verifiers → Keeps l.places b' v'
    → z.verifiers ≡ with_verifier s.verifiers t v' → z.sums ≡ s.sums → z.certified ≡ s.certified → z.stopped ≡ s.stopped
    → Laid l (with_block l m t b') z
block_laid l m s t b' v' z k lt keeps vs ss cs st =
    let size = k.size in
    let as_many = keeps.size in
    let head : (i : ℕ) → i < 256 → get_or (with_block l m t b') i 0 ≡ get_or m i 0 = block_head l m b' t size lt as_many in
    let count = k.count in
    record {
      size = block_length l m b' t size lt as_many ∙ size;
      verifiers = head 0 (omega arith) ∙ k.verifiers;
      places = head 1 (omega arith) ∙ k.places;
      epochs = head 2 (omega arith) ∙ k.epochs;
      stopped = head 3 (omega arith) ∙ k.stopped ∙ ap (λ (b : Bool). pick b 1 0) (sym st);
      certified = head 4 (omega arith) ∙ k.certified ∙ sym cs;
      secret = ap bytes_in (block_low l m b' t size lt as_many 8 4 (omega arith)) ∙ k.secret;
      count = ap length vs ∙ length_with s.verifiers t v' ∙ count;
      blocks = λ u h. subst (λ (xs : List Verifier). Keeps l.places (block_at l (with_block l m t b') u) (verifier_at xs u)) (sym vs) (at u h);
      sums = λ e from to. block_sum l m b' t size lt as_many e (omega arith) ∙ k.sums e (omega arith) (omega arith) ∙ ap (λ (xs : List Sum). sum_at xs e) (sym ss);
      later = λ e h. ap (λ (xs : List Sum). sum_at xs e) ss ∙ k.later e (omega arith);
    }
  where
    at : (u : ℕ) → u < l.verifiers → Keeps l.places (block_at l (with_block l m t b') u) (verifier_at (with_verifier s.verifiers t v') u)
    at u h =
        let as_many = keeps.size in
        let size = k.size in
        let count = k.count in
        ⊎_elim
        (λ (e : u ≡ t).
        subst (λ (x : ℕ). Keeps l.places (block_at l (with_block l m t b') x) (verifier_at (with_verifier s.verifiers t v') x)) (sym e)
        (subst (λ (b : List ℕ). Keeps l.places b (verifier_at (with_verifier s.verifiers t v') t)) (sym (block_same l m b' t size lt as_many))
        (subst (Keeps l.places b') (sym (at_same s.verifiers t v' (omega arith))) keeps)))
        (λ (ne : u ≡ t → ⊥).
        subst (λ (b : List ℕ). Keeps l.places b (verifier_at (with_verifier s.verifiers t v') u)) (sym (block_other l m b' t size lt as_many u ne))
        (subst (Keeps l.places (block_at l m u)) (sym (at_other s.verifiers t u v' ne)) (k.blocks u h)))
        (cases_eq u t)

pub block_written : (l : Limits) (m : List ℕ) (s : State) (t : ℕ) (b' : List ℕ) (v' : Verifier) (z : State)
    → Kept l m s → t < l.verifiers → Keeps l.places b' v' → v'.done ≡ (verifier_at s.verifiers t).done
    → z.verifiers ≡ with_verifier s.verifiers t v' → z.sums ≡ s.sums → z.certified ≡ s.certified → z.stopped ≡ s.stopped
    → Kept l (put (block_start l.epochs l.places t) (block_words l.places) m b') z
block_written l m s t b' v' z k lt keeps done vs ss cs st =
    kept_from l (with_block l m t b') z (block_laid l m s t b' v' z (laid_from l m s k) lt keeps vs ss cs st)
    (λ going. ap (λ (xs : List Verifier). all_done xs z.certified) vs ∙ all_done_same s.verifiers t z.certified v' done ∙ ap (all_done s.verifiers) cs ∙ k.waiting (sym st ∙ going))

-- the log is wrong
pub stopped_laid : (l : Limits) (m : List ℕ) (s z : State)
    → Laid l m s → z.verifiers ≡ s.verifiers → z.sums ≡ s.sums → z.certified ≡ s.certified → z.stopped ≡ true
    → Laid l (set m 3 1) z
unfolding pick
stopped_laid l m s z k vs ss cs st =
    let size = k.size in
    let other : (i : ℕ) → i ≢ 3 → get_or (set m 3 1) i 0 ≡ get_or m i 0 = λ i ne. get_or-set_other m 3 i 1 0 ne in
    record {
      size = length-set m 3 1 ∙ size;
      verifiers = other 0 (omega arith) ∙ k.verifiers;
      places = other 1 (omega arith) ∙ k.places;
      epochs = other 2 (omega arith) ∙ k.epochs;
      stopped = get_or-set_same m 3 1 0 (omega arith) ∙ ap (λ (b : Bool). pick b 1 0) (sym st);
      certified = other 4 (omega arith) ∙ k.certified ∙ sym cs;
      secret = ap bytes_in (part_set_after 8 4 3 m 1 (omega arith)) ∙ k.secret;
      count = ap length vs ∙ k.count;
      blocks = λ t h. subst (λ (b : List ℕ). Keeps l.places b (verifier_at z.verifiers t)) (sym (head_block l m 3 1 (omega arith) t))
          (subst (λ (xs : List Verifier). Keeps l.places (block_at l m t) (verifier_at xs t)) (sym vs) (k.blocks t h));
      sums = λ e from to. head_sum l m 3 1 (omega arith) e ∙ k.sums e (omega arith) (omega arith) ∙ ap (λ (xs : List Sum). sum_at xs e) (sym ss);
      later = λ e h. ap (λ (xs : List Sum). sum_at xs e) ss ∙ k.later e (omega arith);
    }

pub stopped_written : (l : Limits) (m : List ℕ) (s z : State)
    → Kept l m s → z.verifiers ≡ s.verifiers → z.sums ≡ s.sums → z.certified ≡ s.certified → z.stopped ≡ true
    → Kept l (set m 3 1) z
stopped_written l m s z k vs ss cs st =
    kept_from l (set m 3 1) z (stopped_laid l m s z (laid_from l m s k) vs ss cs st) (λ going. absurd (both_ways z.stopped going st))

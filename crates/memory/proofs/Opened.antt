-- A monitor's memory as it is opened.
use Rattle.std.proofs.Common.{◌≡◌, ℕ, ◌+◌, ◌-◌, ◌*◌, ◌%◌, ◌<◌, ◌≤◌, List, [], ◌∷◌, length, get_or, take, set, replicate, sym, refl, ap, ◌∙◌, subst, ⊎_elim, zero-add, arith, length-set, take_all, get_or-set_other, get_or-set_same}
use lib.ListN.{length-replicate}
use Rattle.std.proofs.lemmas.List.{take-replicate, drop-replicate}
use Rattle.std.proofs.lemmas.Bool.{cases_eq}
use Rattle.model.specs.Records.{pick}
use Rattle.model.specs.Verifier.{new_verifier}
use Rattle.model.specs.Monitor.{Limits, sum_at, no_sum, new_state}
use Rattle.model.specs.Program.{words_needed}
use Rattle.slot.specs.Parts.{part, put}
use Rattle.slot.proofs.Parted.{length_put, part_put, part_before, part_part, at_before, get_d_part}
use Rattle.slot.proofs.Texts.{length_bytes_in}
use Rattle.block.specs.Blocks.{block_words, Keeps}
use Rattle.memory.specs.Keeping.{block_start, block_at, sum_start, sum_in, Kept}
use Rattle.memory.specs.Opening.{Headed}
use Rattle.memory.specs.Ranges.{Agrees, Bounded, with_rest, words_for}
use Rattle.memory.specs.declared.limits.Limits as code
use Rattle.memory.proofs.Spans.{sum_before}
use Rattle.memory.proofs.Verifiers.{length_new, new_at, new_waiting}
use Rattle.memory.proofs.Framed.{with_block, block_head, block_low, block_same, block_other}
use Rattle.slot.specs.Layout.{bytes_in, number_in}

-- ---- the blocks, one after the other

-- the blocks below t are opened, and what is before the blocks is as it was
pub record Opened (epochs n : ℕ) (before m : List ℕ) (t : ℕ) : Type 0 where
  pub head : (i : ℕ) → i < 256 → get_or m i 0 ≡ get_or before i 0
  pub low : (a k : ℕ) → a + k ≤ 256 + 32 * epochs → part a k m ≡ part a k before
  pub blocks : (u : ℕ) → u < t → Keeps n (part (block_start epochs n u) (block_words n) m) (new_verifier u)

pub opened_none : (epochs n : ℕ) (m : List ℕ) → Opened epochs n m m 0
opened_none epochs n m = record { head = λ i h. refl; low = λ a k h. refl; blocks = λ u h. absurd (omega arith) }

pub opened_more : (l : Limits) (before m b : List ℕ) (t : ℕ) → length m ≡ words_needed l → t < l.verifiers → Keeps l.places b (new_verifier t)
    → Opened l.epochs l.places before m t → Opened l.epochs l.places before (with_block l m t b) (t + 1)
opened_more l before m b t size lt keeps o =
    let long = keeps.size in
    record {
      head = λ i h. block_head l m b t size lt long i h ∙ o.head i h;
      low = λ a k h. block_low l m b t size lt long a k h ∙ o.low a k h;
      blocks = λ u h.
          ⊎_elim
          (λ (e : u ≡ t). subst (λ (x : ℕ). Keeps l.places (block_at l (with_block l m t b) x) (new_verifier x)) (sym e) (subst (λ (w : List ℕ). Keeps l.places w (new_verifier t)) (sym (block_same l m b t size lt long)) keeps))
          (λ (ne : u ≡ t → ⊥). subst (λ (w : List ℕ). Keeps l.places w (new_verifier u)) (sym (block_other l m b t size lt long u ne)) (o.blocks u (omega arith)))
          (cases_eq u t);
    }

-- the same of the words as code takes them
pub opened_next : (l : Limits) (before m b : List ℕ) (t a : ℕ) → length m ≡ words_needed l → t < l.verifiers → Keeps l.places b (new_verifier t) → a ≡ block_start l.epochs l.places t
    → Opened l.epochs l.places before m t → Opened l.epochs l.places before (put a (a + 64 + 192 * l.places - a) m b) (t + 1)
opened_next l before m b t a size lt keeps at o =
    let k : a + 64 + 192 * l.places - a ≡ block_words l.places = omega arith in
    subst (λ (x : ℕ). Opened l.epochs l.places before (put a x m b) (t + 1)) (sym k)
    (subst (λ (x : ℕ). Opened l.epochs l.places before (put x (block_words l.places) m b) (t + 1)) (sym at) (opened_more l before m b t size lt keeps o))

-- ---- the header

pub head_written : (h ws bytes : List ℕ) (x : code.Limits) → length h ≡ 256 → length ws ≡ 4 → length bytes ≡ 32 → take (length bytes) (bytes_in ws) ≡ bytes
    → Headed (put 8 4 (set (set (set (set (set h 0 x.verifiers) 1 x.places) 2 x.epochs) 3 0) 4 0) ws) x bytes
head_written h ws bytes x size four many e =
    let w1 = set h 0 x.verifiers in
    let w2 = set w1 1 x.places in
    let w3 = set w2 2 x.epochs in
    let w4 = set w3 3 0 in
    let w5 = set w4 4 0 in
    let l1 = length-set h 0 x.verifiers in
    let l2 = length-set w1 1 x.places in
    let l3 = length-set w2 2 x.epochs in
    let l4 = length-set w3 3 0 in
    let l5 = length-set w4 4 0 in
    let in_it : 8 + 4 ≤ length w5 = omega arith in
    let p : (i : ℕ) → i < 8 → get_or (put 8 4 w5 ws) i 0 ≡ get_or w5 i 0 = at_before 8 4 w5 ws in_it four in
    -- the words below 3 are not those written last
    let q : (i : ℕ) → i < 3 → get_or (put 8 4 w5 ws) i 0 ≡ get_or w3 i 0 = λ i lt. p i (omega arith) ∙ get_or-set_other w4 4 i 0 0 (λ z. omega arith) ∙ get_or-set_other w3 3 i 0 0 (λ z. omega arith) in
    let b = length_bytes_in ws in
    record {
      verifiers = q 0 (omega arith) ∙ get_or-set_other w2 2 0 x.epochs 0 (λ z. omega arith) ∙ get_or-set_other w1 1 0 x.places 0 (λ z. omega arith) ∙ get_or-set_same h 0 x.verifiers 0 (omega arith);
      places = q 1 (omega arith) ∙ get_or-set_other w2 2 1 x.epochs 0 (λ z. omega arith) ∙ get_or-set_same w1 1 x.places 0 (omega arith);
      epochs = q 2 (omega arith) ∙ get_or-set_same w2 2 x.epochs 0 (omega arith);
      stopped = p 3 (omega arith) ∙ get_or-set_other w4 4 3 0 0 (λ z. omega arith) ∙ get_or-set_same w3 3 0 0 (omega arith);
      certified = p 4 (omega arith) ∙ get_or-set_same w4 4 0 0 (omega arith);
      secret = ap bytes_in (part_put 8 4 w5 ws in_it four) ∙ sym (take_all (length bytes) (bytes_in ws) (omega arith)) ∙ e;
    }

-- the low word of a number in words
pub first_word : (ws : List ℕ) → 0 < length ws → get_or ws 0 0 < 18446744073709551616 → get_or ws 0 0 ≡ number_in ws % 18446744073709551616
unfolding number_in
first_word [] h f = absurd (omega arith)
first_word (w ∷ ws) h f = omega arith

-- ---- all of it

zeros_part : (a k n : ℕ) → a + k ≤ n → part a k (replicate n 0) ≡ replicate k 0
zeros_part a k n h = ap (take k) (drop-replicate a n 0) ∙ take-replicate k (n - a) 0 (omega arith)

zero_words : number_in (replicate 4 0) ≡ 0
unfolding number_in
zero_words = refl

-- a sum's words, where all words of the sums are zeros
zero_sum : (epochs e : ℕ) (m : List ℕ) → 0 < epochs → part 256 (32 * epochs) m ≡ replicate (32 * epochs) 0 → sum_in epochs m e ≡ no_sum
zero_sum epochs e m pos zeros =
    let before = sum_before epochs e pos in
    let at : (i : ℕ) → i + 4 ≤ 32 * epochs → number_in (part (256 + i) 4 m) ≡ 0 =
    λ i h. ap number_in (sym (part_part i 4 256 (32 * epochs) m h) ∙ ap (part i 4) zeros ∙ zeros_part i 4 (32 * epochs) h) ∙ zero_words in
    let a = 32 * (e % epochs) in
    let q : sum_start epochs e + 4 ≡ 256 + (a + 4) = omega arith in
    λ i. record { added = at a (omega arith) i; evicted = (ap (λ (x : ℕ). number_in (part x 4 m)) q ∙ at (a + 4) (omega arith)) i }

no_sums : (e : ℕ) → sum_at [] e ≡ no_sum
unfolding sum_at
no_sums e = refl

meant_is : (x : code.Limits) (l : Limits) → Agrees x l → l ≡ with_rest l.supports l.secret x
meant_is x l a = λ i. record { supports = l.supports; verifiers = a.verifiers i; places = a.places i; epochs = a.epochs i; secret = l.secret }

-- memory m with a header h, zeros for the sums, and then all blocks opened
module _ (x : code.Limits) (m h ys m' secret : List ℕ) (bounded : Bounded x) (size : length m ≡ words_for x) (long : length m' ≡ length m) (many : length h ≡ 256) (headed : Headed h x secret)
    (ys-zeros : ys ≡ replicate (32 * x.epochs) 0)
    (o : Opened x.epochs x.places (put 256 (32 * x.epochs) (put 0 256 m h) ys) m' x.verifiers) where
  abbrev m1 : List ℕ
  m1 = put 0 256 m h

  abbrev m2 : List ℕ
  m2 = put 256 (32 * x.epochs) m1 ys

  in_head : 0 + 256 ≤ length m
  in_head = omega arith

  in_sums : 256 + 32 * x.epochs ≤ length m1
  in_sums = let e = length_put 0 256 m h in_head many in omega arith

  ys_many : length ys ≡ 32 * x.epochs
  ys_many = ap length ys-zeros ∙ length-replicate (32 * x.epochs) 0

  head_is : part 0 256 m2 ≡ h
  head_is = part_before 256 (32 * x.epochs) m1 ys in_sums ys_many 0 256 (omega arith) ∙ part_put 0 256 m h in_head many

  at_head : (i : ℕ) → i < 256 → get_or m' i 0 ≡ get_or h i 0
  at_head i lt = o.head i lt ∙ ap (λ (k : ℕ). get_or m2 k 0) (sym (zero-add i)) ∙ sym (get_d_part 0 256 m2 i lt) ∙ ap (λ (w : List ℕ). get_or w i 0) head_is

  secret_is : bytes_in (part 8 4 m') ≡ secret
  secret_is = ap bytes_in (o.low 8 4 (omega arith) ∙ sym (part_part 8 4 0 256 m2 (omega arith)) ∙ ap (part 8 4) head_is) ∙ headed.secret

  sums_zeros : part 256 (32 * x.epochs) m' ≡ replicate (32 * x.epochs) 0
  sums_zeros = o.low 256 (32 * x.epochs) (omega arith) ∙ part_put 256 (32 * x.epochs) m1 ys in_sums ys_many ∙ ys-zeros

  pub all_kept : (l : Limits) → Agrees x l → l.secret ≡ secret → Kept l m' (new_state l)
  unfolding pick
  all_kept l same e =
      subst (λ (k : Limits). Kept k m' (new_state k)) (sym (meant_is x l same)) (record {
        size = long ∙ size;
        verifiers = at_head 0 (omega arith) ∙ headed.verifiers;
        places = at_head 1 (omega arith) ∙ headed.places;
        epochs = at_head 2 (omega arith) ∙ headed.epochs;
        stopped = at_head 3 (omega arith) ∙ headed.stopped;
        certified = at_head 4 (omega arith) ∙ headed.certified;
        secret = secret_is ∙ sym e;
        count = length_new x.verifiers 0;
        blocks = λ t lt. subst (Keeps x.places (part (block_start x.epochs x.places t) (block_words x.places) m')) (sym (new_at x.verifiers t lt)) (o.blocks t lt);
        sums = λ e from to. zero_sum x.epochs e m' (omega arith) sums_zeros ∙ sym (no_sums e);
        later = λ e from. no_sums e;
        waiting = λ going. new_waiting x.verifiers 0 0 (omega arith);
      })

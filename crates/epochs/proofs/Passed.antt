-- The verifiers below t are done with an epoch.
use Rattle.std.proofs.Common.{◌≡◌, ℕ, ◌+◌, ◌-◌, ◌*◌, ◌^◌, ◌<◌, ◌≤◌, true, false, List, [], ◌++◌, length, take, drop, sym, ap, ◌∙◌, subst, ⊎_elim, mul-le-mul_right, suc-mul, arith, length-append, length-drop, drop-drop, take_all}
use Rattle.std.proofs.Math.Seq.{take-append_seam, drop-append_seam}
use Rattle.std.proofs.lemmas.Bool.{cases_eq, cases_lt}
use Rattle.model.specs.Monitor.{Limits, State, verifier_at, all_done}
use Rattle.slot.specs.Parts.{part}
use Rattle.block.specs.Blocks.{block_words, Keeps}
use Rattle.memory.specs.Keeping.{block_start, Laid}
use Rattle.memory.specs.Ranges.{Agrees, with_rest, words_for}
use Rattle.memory.specs.declared.limits.Limits as code
use Rattle.memory.proofs.Spans.{blocks_words, block_within}
use Rattle.epochs.proofs.Waiting.{all_done_from, not_all_done}

pub record Passed (x : code.Limits) (m : List ℕ) (e t : ℕ) : Type 0 where
  pub done : (l : Limits) (s : State) → Agrees x l → Laid l m s → (u : ℕ) → u < t → e < (verifier_at s.verifiers u).done
  pub fits : 0 < t → e + 1 < 2 ^ 64

pub passed_none : (x : code.Limits) (m : List ℕ) (e : ℕ) → Passed x m e 0
passed_none x m e = record { done = λ l s same laid u h. absurd (omega arith); fits = λ h. absurd (omega arith) }

-- what is left of the blocks once those below t were taken, each of k words
pub record Left (x : code.Limits) (m rest : List ℕ) (k t : ℕ) : Type 0 where
  pub size : k ≡ block_words x.places
  pub blocks : rest ≡ drop (block_start x.epochs x.places t) m

pub left_all : (x : code.Limits) (m rest : List ℕ) (k : ℕ) → k ≡ block_words x.places → rest ≡ take (length m - (256 + 32 * x.epochs)) (drop (256 + 32 * x.epochs) m) → Left x m rest k 0
left_all x m rest k size is =
    let a = 256 + 32 * x.epochs in
    let e : a ≡ block_start x.epochs x.places 0 = omega arith in
    let l = length-drop a m in
    record {
      size = size;
      blocks = is ∙ take_all (length m - a) (drop a m) (omega arith) ∙ ap (λ (n : ℕ). drop n m) e;
    }

-- one block more is taken
module _ (x : code.Limits) (m rest w rest' : List ℕ) (k k' t : ℕ) (left : Left x m rest k t) (cut : rest ≡ w ++ rest') (long : length w ≡ k) where
  pub block_taken : w ≡ part (block_start x.epochs x.places t) (block_words x.places) m
  block_taken = sym (ap (λ (n : ℕ). take n (drop (block_start x.epochs x.places t) m)) (sym (long ∙ left.size)) ∙ ap (take (length w)) (sym left.blocks ∙ cut) ∙ take-append_seam w rest')

  pub left_then : k' ≡ k → Left x m rest' k' (t + 1)
  left_then same =
      let e : block_start x.epochs x.places (t + 1) ≡ block_start x.epochs x.places t + length w = let q = suc-mul t (block_words x.places) in let r = long ∙ left.size in omega arith in
      record {
        size = same ∙ left.size;
        blocks = sym (ap (λ (n : ℕ). drop n m) e ∙ sym (drop-drop (length w) (block_start x.epochs x.places t) m) ∙ ap (drop (length w)) (sym left.blocks ∙ cut) ∙ drop-append_seam w rest');
      }

  -- so there was a verifier more
  pub within : length m ≡ words_for x → t < x.verifiers
  within size =
      ⊎_elim (λ (h : t < x.verifiers). h)
      (λ (h : x.verifiers ≤ t).
      let b : x.verifiers * block_words x.places ≤ t * block_words x.places = mul-le-mul_right (block_words x.places) h in
      let d = blocks_words x.verifiers x.places in
      let e = ap length cut ∙ length-append w rest' in
      let f = ap length left.blocks ∙ length-drop (block_start x.epochs x.places t) m in
      let g = long ∙ left.size in
      absurd (omega arith))
      (cases_lt t x.verifiers)

-- no block is left: that was all
pub left_none : (x : code.Limits) (m rest : List ℕ) (k t : ℕ) → Left x m rest k t → length rest < k → length m ≡ words_for x → x.verifiers ≤ t
left_none x m rest k t left few size =
    ⊎_elim
    (λ (h : t < x.verifiers).
    let b = block_within (with_rest (λ k. false) [] x) t h in
    let f = ap length left.blocks ∙ length-drop (block_start x.epochs x.places t) m in
    let g = left.size in
    absurd (omega arith))
    (λ (h : x.verifiers ≤ t). h)
    (cases_lt t x.verifiers)

-- what a block says of its verifier
pub block_read : (x : code.Limits) (m w : List ℕ) (t d : ℕ) → w ≡ part (block_start x.epochs x.places t) (block_words x.places) m → t < x.verifiers
    → ((n : ℕ) (v : _) → Keeps n w v → d ≡ v.done) → (l : Limits) (s : State) → Agrees x l → Laid l m s → d ≡ (verifier_at s.verifiers t).done
block_read x m w t d is within read l s same laid =
    let v = verifier_at s.verifiers t in
    let p : w ≡ part (block_start l.epochs l.places t) (block_words l.places) m =
    is ∙ ap (λ (n : ℕ). part (block_start n x.places t) (block_words x.places) m) (sym same.epochs) ∙ ap (λ (n : ℕ). part (block_start l.epochs n t) (block_words n) m) (sym same.places) in
    read l.places v (subst (λ (b : List ℕ). Keeps l.places b v) (sym p) (laid.blocks t (omega arith)))

pub passed_more : (x : code.Limits) (m : List ℕ) (e t d : ℕ) → ((l : Limits) (s : State) → Agrees x l → Laid l m s → d ≡ (verifier_at s.verifiers t).done) → e < d → d < 2 ^ 64
    → Passed x m e t → Passed x m e (t + 1)
passed_more x m e t d is lt fits p = record {
  done = λ l s same laid u h.
      ⊎_elim
      (λ (q : u ≡ t). subst (λ (n : ℕ). e < (verifier_at s.verifiers n).done) (sym q) (subst (λ (n : ℕ). e < n) (is l s same laid) lt))
      (λ (ne : u ≡ t → ⊥). p.done l s same laid u (omega arith))
      (cases_eq u t);
  fits = λ h. omega arith;
}

pub passed_all : (x : code.Limits) (m : List ℕ) (e t : ℕ) → x.verifiers ≤ t → Passed x m e t → (l : Limits) (s : State) → Agrees x l → Laid l m s → true ≡ all_done s.verifiers e
passed_all x m e t all p l s same laid = let count = laid.count in sym (all_done_from s.verifiers e (λ u h. p.done l s same laid u (omega arith)))

pub passed_not : (x : code.Limits) (m : List ℕ) (e t d : ℕ) → t < x.verifiers → ((l : Limits) (s : State) → Agrees x l → Laid l m s → d ≡ (verifier_at s.verifiers t).done) → d ≤ e
    → (l : Limits) (s : State) → Agrees x l → Laid l m s → false ≡ all_done s.verifiers e
passed_not x m e t d within is le l s same laid = let count = laid.count in let q = is l s same laid in sym (not_all_done s.verifiers e t (omega arith) (omega arith))

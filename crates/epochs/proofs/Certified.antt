-- Whether the first epoch that isn't certified is certified now, and what is written then.
use Rattle.std.proofs.Common.{◌≡◌, ℕ, suc, ◌+◌, ◌*◌, ◌<◌, ◌≤◌, Bool, true, false, not, eqb, List, length, get_or, set, replicate, sym, refl, ap, ◌∙◌, subst, ap₂, ⊎_elim, add-zero, arith, length-set, get_or-set_other, get_or-set_same}
use native.Mathlib.Nat.{add-mod_right}
use lib.ListN.{length-replicate}
use Rattle.std.proofs.lemmas.Bool.{and_from, and_left, both_ways, cases_lt, not_from_false}
use Rattle.model.specs.Records.{pick}
use Rattle.model.specs.Monitor.{Limits, Sum, State, sum_at, no_sum, all_done, sums_agree}
use Rattle.slot.specs.Parts.{part, put}
use Rattle.slot.proofs.Parted.{length_put, part_put, part_part, part_set_after}
use Rattle.memory.specs.Keeping.{sum_start, sum_in, Laid}
use Rattle.memory.specs.Ranges.{Agrees, Bounded}
use Rattle.memory.specs.declared.limits.Limits as code
use Rattle.memory.proofs.Spans.{sum_before}
use Rattle.memory.proofs.Framed.{kept_from, stopped_laid, head_block, head_sum, sums_block, sums_head, sums_low, sums_other}
use Rattle.epochs.specs.Settling.{Settles}
use Rattle.epochs.proofs.Lists.{same_place}
use Rattle.epochs.proofs.Waiting.{certify_waits, certify_differs, certify_one}
use Rattle.epochs.proofs.Again.{laid_again}
use Rattle.slot.specs.Layout.{number_in}

-- ---- the eight words of an epoch's sums

abbrev sum_of : List ℕ → Sum
sum_of ws = record { added = number_in (part 0 4 ws); evicted = number_in (part 4 4 ws) }

sum_eight : (n e : ℕ) (m : List ℕ) → sum_in n m e ≡ sum_of (part (sum_start n e) 8 m)
sum_eight n e m =
    let a = sum_start n e in
    let p : part a 4 m ≡ part 0 4 (part a 8 m) = ap (λ (b : ℕ). part b 4 m) (sym (add-zero a)) ∙ sym (part_part 0 4 a 8 m (omega arith)) in
    let q : part (a + 4) 4 m ≡ part 4 4 (part a 8 m) = sym (part_part 4 4 a 8 m (omega arith)) in
    λ i. record { added = number_in (p i); evicted = number_in (q i) }

no_words : sum_of (replicate 8 0) ≡ no_sum
unfolding number_in
no_words = refl

-- whether an epoch's sums agree, as code tells
pub agree_is : (x : code.Limits) (l : Limits) (m : List ℕ) (s : State) (e a k : ℕ) → Bounded x → Agrees x l → Laid l m s → e ≡ s.certified → a ≡ sum_start x.epochs e → k ≡ 8
    → eqb (number_in (part 0 4 (part a k m))) (number_in (part 4 4 (part a k m))) ≡ sums_agree s.sums s.certified
agree_is x l m s e a k bounded same laid is at many =
    let b : a ≡ sum_start l.epochs s.certified = at ∙ ap (λ (n : ℕ). sum_start n e) (sym same.epochs) ∙ ap (sum_start l.epochs) is in
    let w : part a k m ≡ part (sum_start l.epochs s.certified) 8 m = ap (λ (n : ℕ). part a n m) many ∙ ap (λ (n : ℕ). part n 8 m) b in
    let q : sum_of (part a k m) ≡ sum_at s.sums s.certified = ap sum_of w ∙ sym (sum_eight l.epochs s.certified m) ∙ laid.sums s.certified (omega arith) (omega arith) in
    ap (λ (o : Sum). eqb o.added o.evicted) q

-- ---- some aren't done

module _ (x : code.Limits) (m : List ℕ) (e : ℕ) (bounded : Bounded x) (reads : (l : Limits) (s : State) → Laid l m s → e ≡ s.certified) where
  pub settles_waiting : ((l : Limits) (s : State) → Agrees x l → Laid l m s → false ≡ all_done s.verifiers e) → Settles x false m m
  settles_waiting waits l s z same laid going one vs ss cs st =
      let w : all_done s.verifiers s.certified ≡ false = ap (all_done s.verifiers) (sym (reads l s laid)) ∙ sym (waits l s same laid) in
      let zc : z.certified ≡ s.certified = cs ∙ certify_waits (suc l.epochs) s.verifiers s.sums s.certified w in
      let zw : all_done z.verifiers z.certified ≡ false = ap₂ all_done vs zc ∙ w in
      record {
        differ = sym (and_left (all_done z.verifiers z.certified) (not (sums_agree z.sums z.certified)) zw);
        kept = kept_from l m z
            (laid_again l m m s z laid refl (λ i h. refl) (laid.stopped ∙ ap (λ (b : Bool). pick b 1 0) (going ∙ sym st)) (laid.certified ∙ sym zc) refl (λ t. refl) vs
            (λ f low high. laid.sums f (omega arith) (omega arith) ∙ ap (λ (xs : List Sum). sum_at xs f) (sym ss))
            (λ f h. ap (λ (xs : List Sum). sum_at xs f) ss ∙ laid.later f (omega arith)))
            (λ g. zw);
      }

  -- ---- all are done

  module _ (done : (l : Limits) (s : State) → Agrees x l → Laid l m s → true ≡ all_done s.verifiers e) where
    all_are : (l : Limits) (s : State) → Agrees x l → Laid l m s → all_done s.verifiers s.certified ≡ true
    all_are l s same laid = ap (all_done s.verifiers) (sym (reads l s laid)) ∙ sym (done l s same laid)

    pub settles_differing : ((l : Limits) (s : State) → Agrees x l → Laid l m s → e ≡ s.certified → false ≡ sums_agree s.sums s.certified) → Settles x true m (set m 3 1)
    settles_differing differ l s z same laid going one vs ss cs st =
        let d : sums_agree s.sums s.certified ≡ false = sym (differ l s same laid (reads l s laid)) in
        let zc : z.certified ≡ s.certified = cs ∙ certify_differs (suc l.epochs) s.verifiers s.sums s.certified d in
        record {
          differ = sym (and_from (all_done z.verifiers z.certified) (not (sums_agree z.sums z.certified))
              (ap₂ all_done vs zc ∙ all_are l s same laid) (not_from_false (sums_agree z.sums z.certified) (ap₂ sums_agree ss zc ∙ d)));
          kept = kept_from l (set m 3 1) z (stopped_laid l m s z laid vs ss zc st) (λ g. absurd (both_ways z.stopped g st));
        }

    -- the words of the epoch that is certified are those of the first after the epochs that were under way
    module _ (zs : List ℕ) (zeros : zs ≡ replicate 8 0) (l : Limits) (s z : State) (same : Agrees x l) (laid : Laid l m s) (vs : z.verifiers ≡ s.verifiers) (ss : z.sums ≡ s.sums)
        (zc : z.certified ≡ suc s.certified) (st : z.stopped ≡ s.stopped) where
      abbrev b : ℕ
      b = sum_start l.epochs s.certified

      abbrev cleared : List ℕ
      cleared = put b 8 m zs

      some : 0 < l.epochs
      some = omega arith

      eight : length zs ≡ 8
      eight = ap length zeros ∙ length-replicate {A = ℕ} 8 0

      in_sums : b + 8 ≤ 256 + 32 * l.epochs
      in_sums = let h = sum_before l.epochs s.certified some in omega arith

      in_it : b + 8 ≤ length m
      in_it = let h = in_sums in let size = laid.size in omega arith

      head : (i : ℕ) → i < 4 → get_or (set cleared 4 (e + 1)) i 0 ≡ get_or m i 0
      head i h = get_or-set_other cleared 4 i (e + 1) 0 (λ q. omega arith) ∙ sums_head l m zs b 8 in_it eight (omega arith) i (omega arith)

      long : length cleared ≡ length m
      long = length_put b 8 m zs in_it eight

      next : sum_in l.epochs cleared (s.certified + l.epochs) ≡ no_sum
      next =
          let p : sum_start l.epochs (s.certified + l.epochs) ≡ b = ap (λ (n : ℕ). 256 + 32 * n) (add-mod_right s.certified l.epochs) in
          sum_eight l.epochs (s.certified + l.epochs) cleared
          ∙ ap sum_of (ap (λ (n : ℕ). part n 8 cleared) p ∙ part_put b 8 m zs in_it eight ∙ zeros)
          ∙ no_words

      sum_is : (f : ℕ) → s.certified < f → f ≤ s.certified + l.epochs → sum_in l.epochs cleared f ≡ sum_at s.sums f
      sum_is f low high =
          ⊎_elim
          (λ (lt : f < s.certified + l.epochs).
          sums_other l m zs b 8 in_it eight s.certified f (omega arith) (omega arith)
          (λ q. let r = same_place l.epochs s.certified s.certified f (omega arith) (omega arith) (omega arith) lt q in omega arith)
          ∙ laid.sums f (omega arith) lt)
          (λ (ge : s.certified + l.epochs ≤ f).
          let q : f ≡ s.certified + l.epochs = omega arith in
          ap (sum_in l.epochs cleared) q ∙ next ∙ sym (laid.later f (omega arith)))
          (cases_lt f (s.certified + l.epochs))

      certified_laid : Laid l (set cleared 4 (e + 1)) z
      certified_laid =
          let q = reads l s laid in
          let n = long in
          laid_again l m (set cleared 4 (e + 1)) s z laid (length-set cleared 4 (e + 1) ∙ long) (λ i h. head i (omega arith))
          (head 3 (omega arith) ∙ laid.stopped ∙ ap (λ (t : Bool). pick t 1 0) (sym st))
          (get_or-set_same cleared 4 (e + 1) 0 (omega arith) ∙ (let r : e + 1 ≡ z.certified = omega arith in r))
          (part_set_after 8 4 4 cleared (e + 1) (omega arith) ∙ sums_low l m zs b 8 in_it eight (omega arith) 8 4 (omega arith))
          (λ t. head_block l cleared 4 (e + 1) (omega arith) t ∙ sums_block l m zs b 8 in_it eight in_sums t)
          vs
          (λ f low high. head_sum l cleared 4 (e + 1) (omega arith) f ∙ sum_is f (omega arith) (omega arith) ∙ ap (λ (xs : List Sum). sum_at xs f) (sym ss))
          (λ f h. ap (λ (xs : List Sum). sum_at xs f) ss ∙ laid.later f (omega arith))

    pub settles_agreeing : (a k : ℕ) (zs : List ℕ) → a ≡ sum_start x.epochs e → k ≡ 8 → zs ≡ replicate 8 0 → ((l : Limits) (s : State) → Agrees x l → Laid l m s → e ≡ s.certified → true ≡ sums_agree s.sums s.certified)
        → Settles x false m (set (put a k m zs) 4 (e + 1))
    settles_agreeing a k zs at many zeros agree l s z same laid going one vs ss cs st =
        let g : sums_agree s.sums s.certified ≡ true = sym (agree l s same laid (reads l s laid)) in
        let zc : z.certified ≡ suc s.certified = cs ∙ certify_one l.epochs s.verifiers s.sums s.certified (all_are l s same laid) g one in
        let zw : all_done z.verifiers z.certified ≡ false = ap₂ all_done vs zc ∙ one in
        let p : a ≡ sum_start l.epochs s.certified = at ∙ ap (λ (n : ℕ). sum_start n e) (sym same.epochs) ∙ ap (sum_start l.epochs) (reads l s laid) in
        let r : Laid l (set (put a k m zs) 4 (e + 1)) z =
        subst (λ (n : ℕ). Laid l (set (put a n m zs) 4 (e + 1)) z) (sym many)
        (subst (λ (n : ℕ). Laid l (set (put n 8 m zs) 4 (e + 1)) z) (sym p) (certified_laid zs zeros l s z same laid vs ss zc (st ∙ sym going))) in
        record {
          differ = sym (and_left (all_done z.verifiers z.certified) (not (sums_agree z.sums z.certified)) zw);
          kept = kept_from l (set (put a k m zs) 4 (e + 1)) z r (λ g. zw);
        }

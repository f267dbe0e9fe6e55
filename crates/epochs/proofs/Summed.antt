-- A hash added to a sum of an epoch under way.
use Rattle.std.proofs.Common.{◌≡◌, ℕ, ◌+◌, ◌*◌, ◌%◌, ◌<◌, ◌≤◌, Bool, List, [], ◌∷◌, length, sym, refl, ap, ◌∙◌, subst, ⊎_elim, lit≤, arith}
use Rattle.std.proofs.lemmas.Bool.{cases_eq}
use Rattle.model.specs.Records.{Bytes, pick}
use Rattle.model.specs.Verifier.{Element}
use Rattle.model.specs.Monitor.{Limits, Sum, State, sum_at, with_sum, modulus, element_hash, add_elements, evict_elements}
use Rattle.slot.specs.Parts.{part, put}
use Rattle.slot.proofs.Parted.{length_put, part_put, part_before, part_after}
use Rattle.memory.specs.Keeping.{sum_start, sum_in, Kept, Laid}
use Rattle.memory.specs.declared.limits.Limits as code
use Rattle.memory.proofs.Spans.{sum_before}
use Rattle.memory.proofs.Framed.{laid_from, sums_block, sums_head, sums_low, sums_other}
use Rattle.epochs.specs.Summing.{summed, Sums}
use Rattle.epochs.specs.declared.summing.SumOf.{SumOf}
use Rattle.epochs.specs.declared.summing.SumOf.TheVariants.{Added, Evicted}
use Rattle.epochs.proofs.Lists.{sum_same, sum_other, same_place}
use Rattle.epochs.proofs.Again.{laid_again, kept_again}
use Rattle.slot.specs.Layout.{number_in}

-- four of the words of an epoch's sums are written, so that they are new ones
module _ (l : Limits) (m ws : List ℕ) (s z : State) (a e : ℕ) (new : Sum) (laid : Laid l m s) (many : length ws ≡ 4)
    (from : sum_start l.epochs e ≤ a) (to : a + 4 ≤ sum_start l.epochs e + 8) (under : s.certified ≤ e) (way : e < s.certified + l.epochs)
    (vs : z.verifiers ≡ s.verifiers) (ss : z.sums ≡ with_sum s.sums e new) (cs : z.certified ≡ s.certified) (st : z.stopped ≡ s.stopped)
    (here : a + 4 ≤ length m → sum_in l.epochs (put a 4 m ws) e ≡ new) where
  in_sums : a + 4 ≤ 256 + 32 * l.epochs
  in_sums = let h = sum_before l.epochs e (omega arith) in omega arith

  in_it : a + 4 ≤ length m
  in_it = let h = in_sums in let size = laid.size in omega arith

  at : (f : ℕ) → s.certified ≤ f → f < s.certified + l.epochs → sum_in l.epochs (put a 4 m ws) f ≡ sum_at (with_sum s.sums e new) f
  at f low high =
      ⊎_elim
      (λ (q : f ≡ e). subst (λ (g : ℕ). sum_in l.epochs (put a 4 m ws) g ≡ sum_at (with_sum s.sums e new) g) (sym q) (here in_it ∙ sym (sum_same s.sums e new)))
      (λ (ne : f ≡ e → ⊥).
      sums_other l m ws a 4 in_it many e f from (omega arith) (λ q. ne (same_place l.epochs s.certified e f under way low high q))
      ∙ laid.sums f low high
      ∙ sym (sum_other s.sums e f new ne))
      (cases_eq f e)

  pub sum_laid : Laid l (put a 4 m ws) z
  sum_laid =
      laid_again l m (put a 4 m ws) s z laid (length_put a 4 m ws in_it many)
      (λ i h. sums_head l m ws a 4 in_it many (omega arith) i (omega arith))
      (sums_head l m ws a 4 in_it many (omega arith) 3 (omega arith) ∙ laid.stopped ∙ ap (λ (b : Bool). pick b 1 0) (sym st))
      (sums_head l m ws a 4 in_it many (omega arith) 4 (omega arith) ∙ laid.certified ∙ sym cs)
      (sums_low l m ws a 4 in_it many (omega arith) 8 4 (omega arith))
      (sums_block l m ws a 4 in_it many in_sums)
      vs
      (λ f low high. at f (omega arith) (omega arith) ∙ ap (λ (xs : List Sum). sum_at xs f) (sym ss))
      (λ f h. ap (λ (xs : List Sum). sum_at xs f) ss ∙ sum_other s.sums e f new (λ q. omega arith) ∙ laid.later f (omega arith))

-- ---- the two sums

-- where a sum is among the words of its epoch
abbrev pub offset : SumOf → ℕ
offset Added = 0
offset Evicted = 4

offset_most : (sum : SumOf) → offset sum ≤ 4
offset_most Added = lit≤ tt
offset_most Evicted = lit≤ tt

-- a hash more in it
abbrev grown : SumOf → ℕ → Sum → Sum
grown Added h o = record { added = (o.added + h) % modulus; evicted = o.evicted }
grown Evicted h o = record { added = o.added; evicted = (o.evicted + h) % modulus }

one_summed : (sum : SumOf) (k : Bytes) (ss : List Sum) (y : Element)
    → summed sum k ss (y ∷ []) ≡ with_sum ss y.timestamp.epoch (grown sum (element_hash k y) (sum_at ss y.timestamp.epoch))
unfolding add_elements evict_elements
one_summed Added k ss y = refl
one_summed Evicted k ss y = refl

-- the words of an epoch's sums, with another in the place of one
module _ (n e h : ℕ) (m ws : List ℕ) (old : Sum) (is : sum_in n m e ≡ old) (many : length ws ≡ 4) where
  grown_here : (sum : SumOf) (b : ℕ) → b ≡ sum_start n e + offset sum → b + 4 ≤ length m → number_in ws ≡ (number_in (part b 4 m) + h) % modulus → sum_in n (put b 4 m ws) e ≡ grown sum h old
  grown_here Added b at in_it w =
      let a = sum_start n e in
      let q : a ≡ b = omega arith in
      let p : number_in (part a 4 (put b 4 m ws)) ≡ (old.added + h) % modulus =
      ap (λ (x : ℕ). number_in (part x 4 (put b 4 m ws))) q ∙ ap number_in (part_put b 4 m ws in_it many) ∙ w ∙ ap (λ (x : ℕ). (number_in (part x 4 m) + h) % modulus) (sym q) ∙ ap (λ (o : Sum). (o.added + h) % modulus) is in
      let r : number_in (part (a + 4) 4 (put b 4 m ws)) ≡ old.evicted =
      ap number_in (part_after b 4 m ws in_it many (a + 4) 4 (omega arith)) ∙ ap (λ (o : Sum). o.evicted) is in
      λ i. record { added = p i; evicted = r i }
  grown_here Evicted b at in_it w =
      let a = sum_start n e in
      let p : number_in (part a 4 (put b 4 m ws)) ≡ old.added =
      ap number_in (part_before b 4 m ws in_it many a 4 (omega arith)) ∙ ap (λ (o : Sum). o.added) is in
      let r : number_in (part (a + 4) 4 (put b 4 m ws)) ≡ (old.evicted + h) % modulus =
      ap (λ (x : ℕ). number_in (part x 4 (put b 4 m ws))) (sym at) ∙ ap number_in (part_put b 4 m ws in_it many) ∙ w ∙ ap (λ (x : ℕ). (number_in (part x 4 m) + h) % modulus) at ∙ ap (λ (o : Sum). (o.evicted + h) % modulus) is in
      λ i. record { added = p i; evicted = r i }

-- ---- as code takes the words

pub summed_laid : (sum : SumOf) (x : code.Limits) (m ws hash : List ℕ) (epoch a k : ℕ) → a ≡ sum_start x.epochs epoch + offset sum → k ≡ 4 → length ws ≡ 4
    → number_in ws ≡ (number_in (part a k m) + number_in hash) % modulus → Sums Laid (summed sum) x epoch hash m (put a k m ws)
summed_laid sum x m ws hash epoch a k at four many w l s z y same laid ep under way hashed vs ss cs st =
    let e = y.timestamp.epoch in
    let b : a ≡ sum_start l.epochs e + offset sum = at ∙ ap (λ (n : ℕ). sum_start n epoch + offset sum) (sym same.epochs) ∙ ap (λ (n : ℕ). sum_start l.epochs n + offset sum) (sym ep) in
    let h = element_hash l.secret y in
    let w2 : number_in ws ≡ (number_in (part a 4 m) + h) % modulus =
    w ∙ ap (λ (n : ℕ). (number_in (part a k m) + n) % modulus) hashed ∙ ap (λ (n : ℕ). (number_in (part a n m) + h) % modulus) four in
    let is : sum_in l.epochs m e ≡ sum_at s.sums e = laid.sums e (omega arith) (omega arith) in
    let o = offset_most sum in
    let r : Laid l (put a 4 m ws) z =
    sum_laid l m ws s z a e _ laid many (omega arith) (omega arith) (omega arith) (omega arith) vs (ss ∙ one_summed sum l.secret s.sums y) cs st
    (λ in_it. grown_here l.epochs e h m ws (sum_at s.sums e) is many sum a b in_it w2) in
    subst (λ (n : ℕ). Laid l (put a n m ws) z) (sym four) r

-- who is waited for stays
pub sums_kept : (sums : Bytes → List Sum → List Element → List Sum) (x : code.Limits) (epoch : ℕ) (hash m m' : List ℕ) → Sums Laid sums x epoch hash m m' → Sums Kept sums x epoch hash m m'
sums_kept sums x epoch hash m m' laid l s z y same k ep under way hashed vs ss cs st =
    kept_again l m m' s z k (laid l s z y same (laid_from l m s k) ep under way hashed vs ss cs st) vs cs st

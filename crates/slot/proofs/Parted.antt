-- What a write to a part leaves of the other parts, and parts of parts.
use Rattle.std.proofs.Common.{◌≡◌, ℕ, ◌+◌, ◌-◌, ◌^◌, ◌<◌, ◌≤◌, List, ◌++◌, length, get_or, take, drop, set, sym, ap, ◌∙◌, subst, ⊎_elim, arith, length-append, length-drop, length-take, get_or-drop, get_or-take, take-take, drop-drop, take_at, drop-set-lt, drop_at}
use lib.Seq.{take-set-le}
use Rattle.std.proofs.lemmas.List.{drop-take, get_or_past}
use Rattle.std.proofs.lemmas.Slice.{take-put_mid_below, drop-put_mid}
use Rattle.std.proofs.lemmas.Bool.{cases_lt}
use Rattle.path.specs.Packs.{Fit}
use Rattle.slot.specs.Parts.{part, put}

module _ (a k : ℕ) (w ys : List ℕ) (in_it : a + k ≤ length w) (as_many : length ys ≡ k) where
  pub length_put : length (put a k w ys) ≡ length w
  length_put = simp (length-append, length-take, length-drop) (omega arith)

  pub part_put : part a k (put a k w ys) ≡ ys
  part_put =
      let l : length (take a w) ≡ a = simp length-take (omega arith) in
      ap (take k) (drop_at (take a w) (ys ++ drop k (drop a w)) a l) ∙ take_at ys (drop k (drop a w)) k as_many

  pub part_before : (b j : ℕ) → b + j ≤ a → part b j (put a k w ys) ≡ part b j w
  part_before b j h =
      sym (drop-take b j (put a k w ys)) ∙ ap (drop b) (take-put_mid_below a k w ys (b + j) h (omega arith)) ∙ drop-take b j w

  pub part_after : (b j : ℕ) → a + k ≤ b → part b j (put a k w ys) ≡ part b j w
  part_after b j h = ap (take j) (drop-put_mid a k w ys b h (omega arith) as_many)

  pub at_before : (i : ℕ) → i < a → get_or (put a k w ys) i 0 ≡ get_or w i 0
  at_before i h =
      sym (get_or-take a (put a k w ys) i 0 h) ∙ ap (λ (x : List ℕ). get_or x i 0) (take-put_mid_below a k w ys a (omega arith) (omega arith)) ∙ get_or-take a w i 0 h

  pub at_after : (i : ℕ) → a + k ≤ i → get_or (put a k w ys) i 0 ≡ get_or w i 0
  at_after i h =
      let e : i ≡ (a + k) + (i - (a + k)) = omega arith in
      ap (λ (x : ℕ). get_or (put a k w ys) x 0) e
      ∙ sym (get_or-drop (a + k) (put a k w ys) (i - (a + k)) 0)
      ∙ ap (λ (x : List ℕ). get_or x (i - (a + k)) 0) (drop-put_mid a k w ys (a + k) (omega arith) (omega arith) as_many)
      ∙ get_or-drop (a + k) w (i - (a + k)) 0
      ∙ ap (λ (x : ℕ). get_or w x 0) (sym e)

-- a write to one word
pub part_set_before : (b j i : ℕ) (w : List ℕ) (v : ℕ) → b + j ≤ i → part b j (set w i v) ≡ part b j w
part_set_before b j i w v h = sym (drop-take b j (set w i v)) ∙ ap (drop b) (take-set-le (b + j) w i v h) ∙ drop-take b j w

pub part_set_after : (b j i : ℕ) (w : List ℕ) (v : ℕ) → i < b → part b j (set w i v) ≡ part b j w
part_set_after b j i w v h = ap (take j) (drop-set-lt b w i v h)

pub length_part : (a k : ℕ) (m : List ℕ) → a + k ≤ length m → length (part a k m) ≡ k
length_part a k m h = simp (length-take, length-drop) (omega arith)

pub get_d_part : (a k : ℕ) (m : List ℕ) (i : ℕ) → i < k → get_or (part a k m) i 0 ≡ get_or m (a + i) 0
get_d_part a k m i h = get_or-take k (drop a m) i 0 h ∙ get_or-drop a m i 0

pub part_part : (a k b l : ℕ) (m : List ℕ) → a + k ≤ l → part a k (part b l m) ≡ part (b + a) k m
part_part a k b l m h =
    sym (drop-take a k (take l (drop b m))) ∙ ap (drop a) (take-take (a + k) l (drop b m) h) ∙ drop-take a k (drop b m) ∙ ap (take k) (drop-drop a b m)

pub fit_part : (a k : ℕ) (m : List ℕ) → Fit m → Fit (part a k m)
fit_part a k m f i =
    ⊎_elim
    (λ (lt : i < k). subst (λ (x : ℕ). x < 2 ^ 64) (sym (get_d_part a k m i lt)) (f (a + i)))
    (λ (ge : k ≤ i). let l = length-take k (drop a m) in subst (λ (x : ℕ). x < 2 ^ 64) (sym (get_or_past (take k (drop a m)) i 0 (omega arith))) (omega arith))
    (cases_lt i k)

-- A record is in the first 146 words of its slot: what is written past them leaves it.
use Rattle.std.proofs.Common.{◌≡◌, ℕ, ◌+◌, ◌*◌, ◌<◌, ◌≤◌, List, length, get_or, take, drop, set, sym, refl, ap, ◌∙◌, subst, arith, length-set, get_or-take, get_or-set_same, take-take}
use lib.Seq.{take-set-le}
use Rattle.std.proofs.lemmas.List.{drop-take}
use Rattle.std.proofs.lemmas.Slice.{take-put_mid_below}
use Rattle.model.specs.Records.{path_of}
use Rattle.path.specs.Packs.{path_in, Packs}
use Rattle.slot.specs.Parts.{part, put}
use Rattle.slot.specs.Layout.{rec_in, PointerPacks, Shaped, Slot}

-- what the first f words say
module _ (f : ℕ) (w w' : List ℕ) (front : take f w' ≡ take f w) where
  pub at_front : (i : ℕ) → i < f → get_or w' i 0 ≡ get_or w i 0
  at_front i h = sym (get_or-take f w' i 0 h) ∙ ap (λ (l : List ℕ). get_or l i 0) front ∙ get_or-take f w i 0 h

  pub part_front : (a k : ℕ) → a + k ≤ f → part a k w' ≡ part a k w
  part_front a k h =
      sym (drop-take a k w') ∙ ap (drop a) (sym (take-take (a + k) f w' h) ∙ ap (take (a + k)) front ∙ take-take (a + k) f w h) ∙ drop-take a k w

pub front_put : (f a k : ℕ) (w ys : List ℕ) → f ≤ a → a ≤ length w → take f (put a k w ys) ≡ take f w
front_put f a k w ys h l = take-put_mid_below a k w ys f h l

module _ (w w' : List ℕ) (front : take 146 w' ≡ take 146 w) where
  pub at_same : (i : ℕ) → i < 146 → get_or w' i 0 ≡ get_or w i 0
  at_same = at_front 146 w w' front

  pub part_same : (a k : ℕ) → a + k ≤ 146 → part a k w' ≡ part a k w
  part_same = part_front 146 w w' front

  pub rec_same : rec_in w' ≡ rec_in w
  unfolding rec_in
  rec_same =
      rw (at_same 0 (omega arith), at_same 2 (omega arith), at_same 8 (omega arith), at_same 17 (omega arith), part_same 3 4 (omega arith), part_same 8 10 (omega arith), part_same 18 10 (omega arith), part_same 9 8 (omega arith), part_same 18 128 (omega arith))
      refl

  pub shaped_same : length w' ≡ length w → Shaped w → Shaped w'
  shaped_same l s = record {
    size = l ∙ s.size;
    packs = subst (λ (k : ℕ). Packs k (part 3 4 w')) (sym (at_same 2 (omega arith))) (subst (Packs (get_or w 2 0)) (sym (part_same 3 4 (omega arith))) s.packs);
    path = ap path_of rec_same ∙ s.path ∙ sym (ap (λ (k : ℕ). path_in k (part 3 4 w')) (at_same 2 (omega arith)) ∙ ap (path_in (get_or w 2 0)) (part_same 3 4 (omega arith)));
    pointers = λ z d h. subst PointerPacks (sym (part_same (8 + 10 * d) 10 (omega arith))) (s.pointers (sym (at_same 0 (omega arith)) ∙ z) d h);
    room = λ z. let r = s.room (λ e. z (at_same 0 (omega arith) ∙ e)) in (
      subst (λ (k : ℕ). k ≤ 64) (sym (at_same 8 (omega arith))) r.0,
      subst (λ (k : ℕ). k ≤ 1024) (sym (at_same 17 (omega arith))) r.1,
    );
  }

-- the mark is taken off
pub unmarked : (w : List ℕ) → Shaped w → Slot (set w 150 0)
unmarked w s = record {
  shaped = shaped_same w (set w 150 0) (take-set-le 146 w 150 0 (omega arith)) (length-set w 150 0) s;
  marked = λ e. let z = get_or-set_same w 150 0 0 (omega (arith, s.size)) in absurd (omega arith);
}

pub rec_unmarked : (w : List ℕ) → rec_in (set w 150 0) ≡ rec_in w
rec_unmarked w = rec_same w (set w 150 0) (take-set-le 146 w 150 0 (omega arith))

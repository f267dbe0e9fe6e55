-- The bytes of a child pointer, by its words.
use Rattle.std.proofs.Common.{◌≡◌, ℕ, ◌*◌, Bool, true, false, eqb, List, [], ◌∷◌, ◌++◌, length, get_or, refl, sym, ap, ◌∙◌, arith}
use mir.Val.{bool_byte}
use Rattle.std.specs.List.{flat_map}
use Rattle.std.proofs.lemmas.Bool.{eq-eqb, ne_eqb}
use Rattle.model.specs.Records.{pick, le_bytes, sized_bytes, absent, present, pointer_bytes}
use Rattle.path.specs.Packs.{path_in, Fit}
use Rattle.slot.specs.Parts.{part}
use Rattle.slot.specs.Layout.{number_in, pointer_in}
use Rattle.slot.proofs.Parted.{length_part, fit_part}
use Rattle.slot.proofs.Finding.{pick_true, pick_false}
use Rattle.slot.proofs.Eights.{numbers_in}
use Rattle.gather.proofs.Eights.{bytes_of_number}

pub absent_bytes : (w : List ℕ) → get_or w 0 0 ≡ 0 → pointer_bytes (pointer_in w) ≡ 0 ∷ []
unfolding pointer_in pointer_bytes
absent_bytes w e = ap pointer_bytes (pick_true _ _ _ (eq-eqb (get_or w 0 0) 0 e))

pub present_bytes : (w : List ℕ) → length w ≡ 10 → Fit w → (get_or w 0 0 ≡ 0 → ⊥)
    → 1 ∷ (pick (eqb (get_or w 0 0) 2) 1 0 ∷ (sized_bytes (path_in (get_or w 1 0) (part 2 4 w)) ++ flat_map (le_bytes 8) (part 6 4 w))) ≡ pointer_bytes (pointer_in w)
unfolding pointer_in pointer_bytes
present_bytes w size fit ne =
    let p = path_in (get_or w 1 0) (part 2 4 w) in
    let hs = part 6 4 w in
    let four : length hs ≡ 4 = length_part 6 4 w (omega arith) in
    let h : flat_map (le_bytes 8) hs ≡ le_bytes 32 (number_in hs) =
    numbers_in hs ∙ sym (bytes_of_number hs (fit_part 6 4 w fit)) ∙ ap (λ (k : ℕ). le_bytes (8 * k) (number_in hs)) four in
    ap (λ (x : List ℕ). 1 ∷ (pick (eqb (get_or w 0 0) 2) 1 0 ∷ (sized_bytes p ++ x))) h
    ∙ sym (ap pointer_bytes (pick_false _ absent (present p (number_in hs) (eqb (get_or w 0 0) 2)) (ne_eqb (get_or w 0 0) 0 ne)))

-- how it was evicted, in a byte
pub by_blum : (b : Bool) → bool_byte b ≡ pick b 1 0
unfolding pick
by_blum true = refl
by_blum false = refl

use Rattle.std.proofs.Common.{◌≡◌, ℕ, ◌-◌, eqb, List, length, take, drop, sym, ap, ◌∙◌, arith, Decides}
use Rattle.std.specs.Cmp.Lexicographic.{pointwise}
use Rattle.std.proofs.lemmas.Bool.Decides.{same_from_decides, Decides-eqb}
use Rattle.std.proofs.lemmas.Slice.Eq.{slice_eq-Decides}
use Rattle.path.specs.Packs.{Fit}
use Rattle.slot.specs.Parts.{part}
use Rattle.slot.specs.Layout.{number_in}
use Rattle.slot.proofs.Parted.{length_part, fit_part}
use Rattle.slot.proofs.Numbers.{number_same}
use Rattle.sums.proofs.agree.Goals as goal

pub returns : goal.returns
returns c =
    let m : List ℕ = c.args.sums.now in
    let a = part 0 4 m in
    let b = part 4 4 m in
    let f : Fit m = λ i. (c.type_inv.sums i).fits in
    let l : length a ≡ length b = length_part 0 4 m (omega arith) ∙ sym (length_part 4 4 m (omega arith)) in
    let rest : take (length m - 4) (drop 4 m) ≡ b = ap (λ (k : ℕ). take k (drop 4 m)) (let four : length m - 4 ≡ 4 = omega arith in four) in
    let numbers : Decides (eqb (number_in a) (number_in b)) (a ≡ b) =
    (λ e. number_same a b l (fit_part 0 4 m f) (fit_part 4 4 m f) ((Decides-eqb (number_in a) (number_in b)).0 e), λ e. (Decides-eqb (number_in a) (number_in b)).1 (ap number_in e)) in
    same_from_decides _ _ (slice_eq-Decides Decides-eqb a b _ (c.eq.ensures ∙ ap (pointwise eqb a) rest)) numbers

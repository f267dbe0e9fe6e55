use Rattle.std.proofs.Common.{ℕ, ◌%◌, List, [], ◌∷◌, ◌++◌, ap, ◌∙◌, arith, length-append}
use Rattle.model.specs.Records.{hash_of}
use Rattle.memory.proofs.Opened.{first_word}
use Rattle.slot.proofs.Numbers.{limbs_in}
use Rattle.memory.proofs.opening.salt_of.Goals as goal

pub slice_bounds-digest-end : goal.slice_bounds-digest-end
slice_bounds-digest-end c = let e = length-append c.copy_from_slice.new.self (0 ∷ []) in let h = c.copy_from_slice.ensures.len in omega arith

pub returns : goal.returns
returns c =
    let r = c.digest-hash.result in
    first_word r (omega (arith, c.digest-hash.ensures.limbs)) (omega (arith, c.digest-hash.ensures.limbs))
    ∙ ap (λ (n : ℕ). n % 18446744073709551616) (limbs_in r ∙ c.digest-hash.ensures.number ∙ ap (λ (xs : List ℕ). hash_of (xs ++ (0 ∷ []))) c.copy_from_slice.ensures.after)

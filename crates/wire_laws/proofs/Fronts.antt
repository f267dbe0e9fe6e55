-- The front of some bytes, and one byte on.
use Rattle.std.proofs.Common.{◌≡◌, ℕ, ◌+◌, ◌-◌, ◌≤◌, List, [], ◌∷◌, ◌++◌, length, take, sym, ap, ◌∙◌, arith}
use Rattle.std.proofs.lemmas.List.{append_assoc, length-append, take_at}

-- where the first part of some bytes ends, and one byte on
pub take_part : (us zs bs : List ℕ) → us ++ zs ≡ bs → (take (length bs - length zs) bs ≡ us) × (length bs - length zs ≤ length bs)
take_part us zs bs q =
    let l : length us ≡ length bs - length zs = omega (arith, simp length-append at (ap length q)) in
    (rw (← q, take_at us zs (length (us ++ zs) - length zs) (simp length-append (omega arith))), omega arith)

pub take_one_more : (us : List ℕ) (z : ℕ) (zs bs : List ℕ) → us ++ (z ∷ zs) ≡ bs → take (length bs - length (z ∷ zs) + 1) bs ≡ us ++ (z ∷ [])
take_one_more us z zs bs q =
    let l : length us + length (z ∷ zs) ≡ length bs = sym (length-append us (z ∷ zs)) ∙ ap length q in
    let k : length (us ++ (z ∷ [])) ≡ length bs - length (z ∷ zs) + 1 = simp length-append (omega arith) in
    let e : (us ++ (z ∷ [])) ++ zs ≡ bs = append_assoc us (z ∷ []) zs ∙ q in
    ap (take (length bs - length (z ∷ zs) + 1)) (sym e) ∙ take_at (us ++ (z ∷ [])) zs (length bs - length (z ∷ zs) + 1) k

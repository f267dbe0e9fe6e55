-- Where a walk of a path's chain ends.
use Rattle.std.proofs.Common.{◌≡◌, ℕ, ◌+◌, ◌-◌, ◌*◌, ◌%◌, ◌<◌, ◌≤◌, List, [], ◌∷◌, length, get_or, take, sym, refl, ap, ◌∙◌, subst, ⊎_elim, arith, length-take}
use lib.Bits.{bit_or, bit_xor}
use Rattle.std.proofs.Math.Nat.{mod-zero}
use Rattle.std.proofs.lemmas.List.{get_or_past}
use Rattle.std.proofs.lemmas.Bool.{cases_lt}
use Rattle.slot.specs.Parts.{part}
use Rattle.slot.specs.Finds.{position}
use Rattle.index.specs.Chains.{Chain, says, says_at}
use Rattle.index.proofs.Indexed.{chain_head}
use Rattle.slot.proofs.Parted.{part_part}
use Rattle.store.specs.Holding.{mixed, home, slot_at}
use Rattle.store.proofs.Members.{position_same, members}

-- r is where the walk ends that begins at the head of the path's chain
abbrev pub Ends : ℕ → ℕ → List ℕ → ℕ → List ℕ → ℕ → Type 0
Ends n salt m k ws r =
    (is : List ℕ) → Chain n (part 0 (2 * n) m) (get_or (part 0 (2 * n) m) (home n salt k ws) 0) is → length is ≤ n
    → r ≡ get_or is (position (λ i. says k ws (slot_at n m i)) is) n

-- the same as `find_in` says it: chain b in the words before the slots, and the slots in the words after
abbrev pub Ended : ℕ → List ℕ → ℕ → List ℕ → ℕ → ℕ → Type 0
Ended n m k ws b r =
    (is : List ℕ) → Chain n (take (2 * n - 0) m) (get_or (take (2 * n - 0) m) b 0) is → length is ≤ n
    → r ≡ get_or is (position (says_at k ws (part (2 * n) (192 * n - 2 * n) m)) is) n

-- what `find_in` says of the path's chain is where its walk ends
pub ends : (n salt : ℕ) (m : List ℕ) (k : ℕ) (ws : List ℕ) (b r : ℕ) → b ≡ home n salt k ws → Ended n m k ws b r → Ends n salt m k ws r
ends n salt m k ws b r e h is c l =
    let z : 2 * n - 0 ≡ 2 * n = omega arith in
    let L = 192 * n - 2 * n in
    let hh : Chain n (take (2 * n - 0) m) (get_or (take (2 * n - 0) m) b 0) is =
    subst (λ (b : ℕ). Chain n (take (2 * n - 0) m) (get_or (take (2 * n - 0) m) b 0) is) (sym e)
    (subst (λ (k2 : ℕ). Chain n (take k2 m) (get_or (take k2 m) (home n salt k ws) 0) is) (sym z) c) in
    h is hh l
    ∙ ap (λ (k2 : ℕ). get_or is k2 n)
    (position_same (says_at k ws (part (2 * n) L m)) (λ i. says k ws (slot_at n m i)) is
    (λ j t.
    let jn = members n (part 0 (2 * n) m) (get_or (part 0 (2 * n) m) (home n salt k ws) 0) is c j t in
    ap (says k ws) (part_part (j * 190) 190 (2 * n) L m (omega arith))))

after_last : (n : ℕ) (m : List ℕ) (h : ℕ) → Chain n m h [] → h ≡ 0
unfolding Chain
after_last n m h c = c

-- with fewer than two places, the chain is the number that it is chosen by
pub home_in_few : (n salt k : ℕ) (ws : List ℕ) → n < 2 → home n salt k ws ≡ mixed (bit_or salt 1) (bit_xor salt k) ws
unfolding home
home_in_few n salt k ws h =
    let z : n - 1 ≡ 0 = omega arith in
    ap (λ (d : ℕ). mixed (bit_or salt 1) (bit_xor salt k) ws % d) z ∙ mod-zero (mixed (bit_or salt 1) (bit_xor salt k) ws)

-- without a place, no chain has a slot
pub ends_nowhere : (salt : ℕ) (m : List ℕ) (k : ℕ) (ws : List ℕ) → Ends 0 salt m k ws 0
ends_nowhere salt m k ws [] c l = refl
ends_nowhere salt m k ws (i ∷ is) c l = absurd (omega arith)

-- nor with one place, unless the chain is that of the free slots
pub ends_outside : (salt : ℕ) (m : List ℕ) (k : ℕ) (ws : List ℕ) → 0 < home 1 salt k ws → Ends 1 salt m k ws 1
ends_outside salt m k ws h [] c l = refl
ends_outside salt m k ws h (j ∷ i ∷ is) c l = absurd (omega arith)
ends_outside salt m k ws h (i ∷ []) c l =
    let w = part 0 2 m in
    let b = home 1 salt k ws in
    let d = chain_head 1 w (get_or w b 0) i [] c in
    let size = length-take 2 m in
    ⊎_elim
    (λ (lt : b < 2).
    let e : b ≡ 1 + i = omega (arith, h, d.1) in
    let g = ap (λ (x : ℕ). get_or w x 0) e in
    let z = after_last 1 w (get_or w (1 + i) 0) d.2 in
    absurd (omega (arith, g, z, d.0)))
    (λ (ge : 2 ≤ b). let z = get_or_past w b 0 (omega arith) in absurd (omega arith))
    (cases_lt b 2)

use Rattle.std.proofs.Common.{◌≡◌, ℕ, ◌*◌, ◌<◌, ◌≤◌, false, List, ◌∷◌, ◌++◌, length, get_or, take, drop}
use Rattle.index.specs.Chains.{Chain, link_after, has}
use Rattle.index.proofs.unlink.Given as goal

abbrev pub invariant-chain : goal.invariant-chain
invariant-chain l =
    (l.at < 2 * l.n)
    × ((xs ys : List ℕ) → Chain l.n l.index (get_or l.index l.b 0) (xs ++ l.i ∷ ys) → has l.i xs ≡ false
    → (l.k ≤ length xs) × (l.at ≡ link_after l.n l.b (take l.k xs)) × Chain l.n l.index (get_or l.index l.at 0) (drop l.k xs ++ l.i ∷ ys))

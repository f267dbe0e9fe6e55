use Rattle.std.proofs.Common.{◌≡◌, ℕ, ◌≤◌, List, length, get_or, drop}
use Rattle.index.specs.Chains.{Chain}
use Rattle.index.proofs.count_in.Given as goal

abbrev pub invariant-chain : goal.invariant-chain
invariant-chain l =
    (l.count ≡ l.k)
    × ((is : List ℕ) → Chain l.n l.index (get_or l.index l.b 0) is → Chain l.n l.index l.link (drop l.k is) × (l.k ≤ length is))

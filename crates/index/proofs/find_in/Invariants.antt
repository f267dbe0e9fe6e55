use Rattle.std.proofs.Common.{◌≡◌, ℕ, ◌+◌, List, None, get_or, drop}
use Rattle.slot.specs.Finds.{position}
use Rattle.index.specs.Chains.{Chain, says_at}
use Rattle.index.proofs.find_in.Given as goal

abbrev pub invariant-chain : goal.invariant-chain
invariant-chain l =
    (l.at ≡ None)
    × ((is : List ℕ) → Chain l.n l.index (get_or l.index l.b 0) is
    → Chain l.n l.index l.link (drop l.k is)
    × (position (says_at l.len l.bits l.slots) is ≡ l.k + position (says_at l.len l.bits l.slots) (drop l.k is)))

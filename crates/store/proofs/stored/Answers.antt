use Rattle.std.proofs.Common.{◌≡◌, ℕ, ◌-◌, ◌*◌, ◌≤◌, [], length, get_or, take, sym, subst, arith}
use Rattle.index.specs.Chains.{Chain}
use Rattle.store.specs.Holding.{Held}
use Rattle.store.proofs.Members.{length_total}
use Rattle.store.proofs.stored.Goals as goal

pub returns : goal.returns
returns c = λ salt ss H.
    let n = c.args.n in
    let m = c.args.mem.now in
    let cs = H.0 in
    let x : Held n salt m cs ss = H.1 in
    let z : 2 * n - 0 ≡ 2 * n = omega arith in
    let size = x.index.size in
    let few : length (get_or cs (n - 1) []) ≤ n = let t = length_total cs (n - 1) (omega (arith, c.requires.few)) in let w = x.whole in omega arith in
    let free =
    c.count_in.ensures.count (get_or cs (n - 1) []) (subst (λ (k : ℕ). Chain n (take k m) (get_or (take k m) (n - 1) 0) (get_or cs (n - 1) [])) (sym z) (x.index.chain (n - 1) (omega (arith, c.requires.few)))) few in
    let all = x.count in
    omega (arith, free, all)

use Rattle.std.proofs.Common.{◌≡◌, ℕ, ◌+◌, ◌-◌, length, get_or, drop, sym, refl, ap, subst, ⊎_elim, arith, length-drop, drop-drop}
use Rattle.index.specs.Chains.{Chain}
use Rattle.index.proofs.Chained.{chain_zero, chain_over, chain_step, drop_head}
use Rattle.index.proofs.count_in.Goals as goal

pub chain-preserved : goal.chain-preserved
chain-preserved c = (
  refl,
  λ is h.
      let n = c.args.n in
      let m = c.args.index.now in
      let k = c.chain.k in
      let link = c.chain.link in
      let v = c.chain.invariant.1 is h in
      let s = chain_step n m link (drop k is) v.0 c.if-link-eq0.false in
      let d = drop_head is k (link - 1) (drop 1 (drop k is)) 0 s.0 in
      let q : n + link - 1 ≡ n + (link - 1) = omega (arith, c.if-link-eq0.false) in (
        subst (λ (x : ℕ). Chain n m (get_or m x 0) (drop (k + 1) is)) (sym q) (subst (Chain n m (get_or m (n + (link - 1)) 0)) (drop-drop 1 k is) s.1),
        omega (arith, d.0),
      ),
)

pub returns-then-link-eq0 : goal.returns-then-link-eq0
returns-then-link-eq0 c = record {
  most = omega (arith, c.chain.invariant.0);
  count = λ is h l.
      let v = c.chain.invariant.1 is h in
      let k = c.chain.k in
      ⊎_elim
      (λ z.
      let e : length (drop k is) ≡ 0 = ap length (chain_zero c.args.n c.args.index.now c.chain.link (drop k is) v.0 z) in
      let m = length-drop k is in
      omega (arith, c.chain.invariant.0, v.1))
      (λ z. absurd (chain_over c.args.n c.args.index.now c.chain.link (drop k is) v.0 z.1))
      c.then-link-eq0.either;
}

use Rattle.std.proofs.Common.{◌≡◌, ℕ, ◌+◌, ◌-◌, ◌≤◌, List, [], ◌∷◌, ◌++◌, length, get_or, take, drop, set, sym, refl, ap, ◌∙◌, subst, arith, take_all, drop-drop}
use Rattle.std.proofs.lemmas.List.{take_more}
use Rattle.index.specs.Chains.{Chain, link_after}
use Rattle.index.proofs.Chained.{chain_over, chain_cut, chain_passed, chain_more, drop_head, link_after_push}
use Rattle.index.proofs.unlink.Goals as goal
use Rattle.index.proofs.unlink.Goals.{else-chain-test, then-chain-test+then-link-i, then-link-i-via-then-link-i, then-link-i-via-else-link-i+then-link-eq0, then-link-i-via-else-link-i+else-link-eq0+then-link-n}

pub chain-init : goal.chain-init
unfolding link_after
chain-init c = (omega arith, λ xs ys h f. (omega arith, refl, h))

pub chain-preserved : goal.chain-preserved
chain-preserved c =
    let n = c.args.n in
    let m = c.args.index.now in
    let k = c.chain.k in
    let i = c.args.i in
    let link = get_or m c.chain.at 0 in
    let q : n + link - 1 ≡ n + (link - 1) = omega arith in (
      omega arith,
      λ xs ys h f.
          let v = c.chain.invariant.1 xs ys h f in
          let s = chain_cut n m link i (drop k xs) ys v.2 (λ e. c.if-link-i.false (omega arith)) in
          let d = drop_head xs k (link - 1) (drop 1 (drop k xs)) 0 s.0 in
          let t : take (k + 1) xs ≡ take k xs ++ (link - 1) ∷ [] = take_more xs k 0 d.0 ∙ ap (λ (x : ℕ). take k xs ++ x ∷ []) d.1 in (
            omega (arith, d.0),
            q ∙ sym (ap (link_after n c.args.b) t ∙ link_after_push n c.args.b (take k xs) (link - 1)),
            subst (λ (x : ℕ). Chain n m (get_or m x 0) (drop (k + 1) xs ++ i ∷ ys)) (sym q)
                (subst (λ (l : List ℕ). Chain n m (get_or m (n + (link - 1)) 0) (l ++ i ∷ ys)) (drop-drop 1 k xs) s.1),
          ),
    )

pub returns : goal.returns
returns c = λ xs ys h f l.
    let n = c.args.n in
    let m = c.args.index.now in
    let k = c.chain.k in
    let i = c.args.i in
    let at = c.chain.at in
    let v = c.chain.invariant.1 xs ys h f in
    let kx : length xs ≤ k =
    elim c.chain-test.branch [
      | else-chain-test w ↦ omega (arith, w.chain-test.false)
      | then-chain-test+then-link-i w ↦
          elim w.then-link-i.branch [
            | then-link-i-via-then-link-i u ↦ chain_passed n m (get_or m at 0) i xs ys k v.2 u.if-link-i.true f
            | then-link-i-via-else-link-i+then-link-eq0 u ↦ absurd (chain_more n m (get_or m at 0) i (drop k xs) ys v.2 u.if-link-eq0.true)
            | then-link-i-via-else-link-i+else-link-eq0+then-link-n u ↦ absurd (chain_over n m (get_or m at 0) (drop k xs ++ i ∷ ys) v.2 u.if-link-n.true)
          ]
    ] in
    ap (λ (x : ℕ). set m x (get_or m (n + i) 0)) (v.1 ∙ ap (link_after n c.args.b) (take_all k xs kx))

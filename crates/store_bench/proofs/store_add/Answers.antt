use Rattle.std.proofs.Common.{◌≡◌, ℕ, true, List, sym, subst, rules}
use Rattle.model.specs.Records.{node, no_children}
use Rattle.model.specs.Verifier.{Stored}
use Rattle.path.specs.Packs.{path_in}
use Rattle.store.specs.Holding.{Added}
use Rattle.store_bench.proofs.Slots.{unchanged_or, stored_or}
use Rattle.store_bench.proofs.store_add.Goals as goal

-- the words that were lent, once they are given back
back : (n salt : ℕ) (x m : List ℕ) (xs : List Stored) (y : Stored) (r : ℕ) → x ≡ m → Added n salt m xs y r → Added n salt x xs y r
back n salt x m xs y r e a = subst (λ (l : List ℕ). Added n salt l xs y r) (sym e) a

pub returns-clause-same : goal.returns-clause-same
returns-clause-same c =
    unchanged_or c.args.n _ c.args.mem.now c.add.new.self.words.now c.add.result _ (search rules) c.unwrap_or.ensures
    (rw (c.new-store.ensures.places) at c.add.ensures.within)
    (rw (c.new-store.ensures.words) at c.add.ensures.unchanged)

pub returns-clause-stored : goal.returns-clause-stored
returns-clause-stored c = λ xs H h.
    let n = c.args.n in
    let salt = c.args.salt in
    let m = c.add.new.self.words.now in
    back n salt _ m xs _ _ (search rules)
    (let S = c.new-store.ensures in
    let stored = rw (S.words, S.places, S.salt, c.in-Some.ensures.path.0, c.in-Some.ensures.path.1) at c.add.ensures.stored in
    stored_or n (λ i. Added n salt m xs (record { rec = node (path_in c.args.len c.args.bits.now) no_children; by_merkle = true }) i) c.add.result c.unwrap_or.result c.unwrap_or.ensures (stored xs H _) h)

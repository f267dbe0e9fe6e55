use Rattle.std.proofs.Common.{true, false, [], ◌∷◌, sym, ◌∙◌, subst, arith, rules}
use Rattle.model.specs.Records.{Path, pick, node, no_children}
use Rattle.store.specs.Holding.{Holds}
use Rattle.store.proofs.Asked.{added_there}
use Rattle.store.proofs.Lent.{lent_holds}
use Rattle.block.proofs.Opened.{first_store}
use Rattle.block.proofs.opening.open_store.Goals as goal

pub returns-then-has_root : goal.returns-then-has_root
unfolding pick
returns-then-has_root c = λ t e.
    let n = c.args.n in
    let salt = c.args.salt in
    let m = c.add.new.self.words.now in
    let S = c.new-store.ensures in
    let F = c.«open».ensures.frame in
    let none = rw (F.0, S.places) at (c.«open».ensures.none salt) in
    let full = rw (F.0, F.1, S.places, S.salt) at c.add.ensures.full in
    let stored = rw (F.0, F.1, S.places, S.salt) at c.add.ensures.stored in
    lent_holds n salt _ m _ (search rules)
    (first_store n salt t m true (sym c.if-has_root.true ∙ e)
    (subst (λ (p : Path). Holds n salt m (record { rec = node p no_children; by_merkle = true } ∷ [])) c.root.ensures.path
    (added_there n salt m [] _ c.add.result (omega (arith, c.requires.few)) (full [] none) (stored [] none tt))))

pub returns-else-has_root : goal.returns-else-has_root
unfolding pick
returns-else-has_root c = λ t e.
    let n = c.args.n in
    let salt = c.args.salt in
    let m = c.«open».new.self.words.now in
    let S = c.new-store.ensures in
    let F = c.«open».ensures.frame in
    let none = rw (F.0, S.places) at (c.«open».ensures.none salt) in
    lent_holds n salt _ m _ (search rules) (first_store n salt t m false (sym c.if-has_root.false ∙ e) none)

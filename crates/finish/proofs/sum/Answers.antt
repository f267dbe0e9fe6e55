use mathlib.Core.Path.{◌∙◌, subst}
use mathlib.Core.List.{List}
use Prim.Native.Nat.{ℕ, ◌+◌, ◌<◌, ◌≤◌}
use Rattle.model.specs.Verifier.{Element}
use Rattle.step.specs.declared.effect.Effect.{Effect}
use Rattle.step.specs.Effects.{Effected}
use Rattle.finish.specs.Finishing.{UnderWay}
use Rattle.finish.proofs.Done.{laid_same, no_sums, one_added, one_evicted}
use Rattle.finish.proofs.sum.Goals as goal

pub returns-in-Nothing-clause-laid : goal.returns-in-Nothing-clause-laid
returns-in-Nothing-clause-laid c = λ l s z added evicted agrees laid effect came went vs ss cs st.
    let f = subst (λ (x : Effect). Effected l.secret x added evicted) c.in-Nothing.is effect in
    laid_same l c.args.memory.now.words.now s z laid vs (ss ∙ no_sums l.secret s.sums added evicted f.0 f.1) cs st

pub returns-in-Added-clause-laid : goal.returns-in-Added-clause-laid
returns-in-Added-clause-laid c = λ l s z added evicted agrees laid effect came went vs ss cs st.
    let f = subst (λ (x : Effect). Effected l.secret x added evicted) c.in-Added.is effect in
    let x = f.0.element in
    let now = (subst (λ (xs : List Element). UnderWay l s xs) f.0.only came).0 in
    c.add.ensures.laid l s z x agrees laid f.0.epoch (subst (λ (e : ℕ). s.certified ≤ e) f.0.epoch now.0) (subst (λ (e : ℕ). e < s.certified + l.epochs) f.0.epoch now.1) f.0.hash vs
    (ss ∙ one_added l.secret s.sums added evicted x f.0.only f.1) cs st

pub returns-in-Evicted-clause-laid : goal.returns-in-Evicted-clause-laid
returns-in-Evicted-clause-laid c = λ l s z added evicted agrees laid effect came went vs ss cs st.
    let f = subst (λ (x : Effect). Effected l.secret x added evicted) c.in-Evicted.is effect in
    let x = f.1.element in
    let now = (subst (λ (xs : List Element). UnderWay l s xs) f.1.only went).0 in
    c.add-in-Evicted.ensures.laid l s z x agrees laid f.1.epoch (subst (λ (e : ℕ). s.certified ≤ e) f.1.epoch now.0) (subst (λ (e : ℕ). e < s.certified + l.epochs) f.1.epoch now.1) f.1.hash vs
    (ss ∙ one_evicted l.secret s.sums added evicted x f.0 f.1.only) cs st

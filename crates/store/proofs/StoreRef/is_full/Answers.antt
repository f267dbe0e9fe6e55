use Rattle.std.proofs.Common.{◌≡◌, ℕ, ◌<◌, Bool, leb, sym, ◌∙◌, arith, Option, Some, None, IfSome}
use Rattle.std.specs.Option.{is_some}
use Rattle.std.specs.Prelude.{not}
use Rattle.std.proofs.lemmas.Bool.{lt-leb, le-leb, not-true, not-false}
use Rattle.index.specs.Chains.{place_or}
use Rattle.store.proofs.StoreRef.is_full.Goals as goal

none_left : (n : ℕ) (o : Option ℕ) (b : Bool) → IfSome o (λ i. i < n) → is_some o ≡ not b → b ≡ leb n (place_or n o)
none_left n (Some i) b w e = not-true b (sym e) ∙ sym (lt-leb n i w)
none_left n None b w e = not-false b (sym e) ∙ sym (le-leb n n (omega arith))

pub returns-clause-full : goal.returns-clause-full
returns-clause-full c = λ salt ss H. none_left c.args.self.places c.first_free.result c.is_none.result c.first_free.ensures.within c.is_none.ensures ∙ c.first_free.ensures.full salt ss H

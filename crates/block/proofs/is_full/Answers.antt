use Rattle.std.proofs.Common.{ℕ, leb, length, ap, ◌∙◌}
use Rattle.block.proofs.Framed.{viewed}
use Rattle.block.proofs.is_full.Goals as goal

pub returns : goal.returns
returns c = λ v k.
    c.is_full.ensures.full c.store.result.salt v.store (viewed c.args.n c.args.block.now v c.store.result c.store.ensures k)
    ∙ ap (λ (n : ℕ). leb n (length v.store)) c.store.ensures.places

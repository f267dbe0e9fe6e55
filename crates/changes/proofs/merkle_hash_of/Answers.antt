use Rattle.std.proofs.Common.{List, sym, ap, ◌∙◌, subst}
use Rattle.model.specs.Records.{hash_of, merkle_bytes}
use Rattle.slot.specs.Layout.{rec_in, Slot}
use Rattle.changes.proofs.Linked.{gathered}
use Rattle.slot.proofs.Numbers.{limbs_in}
use Rattle.changes.proofs.merkle_hash_of.Goals as goal

pub returns : goal.returns
returns c = λ s.
    limbs_in c.digest.result
    ∙ c.digest.ensures.number
    ∙ ap hash_of (gathered _ _ _ _ (c.merkle_out-end.ensures.wrote (subst Slot (sym c.slot.ensures.words) s)) ∙ ap (λ (w : List _). merkle_bytes (rec_in w)) c.slot.ensures.words)

use Rattle.std.proofs.Common.{List, ◌++◌, sym, ap, ◌∙◌, subst, arith}
use Rattle.model.specs.Records.{hash_of}
use Rattle.model.specs.Monitor.{element_bytes}
use Rattle.path.specs.Times.{timestamp_of}
use Rattle.slot.specs.Layout.{rec_in, Slot, bytes_in}
use Rattle.blum.proofs.Framed.{gathered}
use Rattle.slot.proofs.Numbers.{limbs_in}
use Rattle.blum.proofs.evicts.element_hash_of.Goals as goal

pub returns : goal.returns
returns c = λ s.
    limbs_in c.digest.result
    ∙ c.digest.ensures.number
    ∙ ap hash_of
    (gathered c.secret_out.new.out (bytes_in c.args.secret.now) _ _ 32 _ c.secret_out.ensures (omega arith) (c.element_out-end.ensures.wrote (subst Slot (sym c.slot.ensures.words) s))
    ∙ ap (λ (w : List _). bytes_in c.args.secret.now ++ element_bytes (record { rec = rec_in w; timestamp = timestamp_of c.args.timestamp; verifier = c.args.verifier })) c.slot.ensures.words)

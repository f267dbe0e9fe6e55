use Rattle.std.proofs.Common.{sym, ap, ◌∙◌}
use Rattle.std.specs.Option.{option_map}
use Rattle.model.specs.Records.{data_record}
use Rattle.slot.proofs.Written.{key_then_value}
use Rattle.slot.proofs.write_data.Goals as goal

pub returns-in-Some : goal.returns-in-Some
returns-in-Some c = λ p.
    let key = c.args.key.now in
    let by = c.args.by_merkle in
    let done =
    key_then_value c.write_key.new.slot c.set_value.new.slot key c.in-Some.v.now by c.write_key.ensures.stored
    (c.set_value.ensures.edited (c.write_key.ensures.slot p)) in
    (done.0, done.1 ∙ ap (λ v. record { rec = data_record key (option_map (λ x. x.now) v); by_merkle = by }) (sym c.in-Some.is))

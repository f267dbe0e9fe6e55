use Rattle.std.proofs.Common.{◌≡◌, sym, refl, ap, ◌∙◌, subst}
use Rattle.model.specs.Verifier as verifier
use Rattle.model.specs.Monitor.{entry_code, is_add}
use Rattle.reader.specs.Meaning.{record_of}
use Rattle.wire.specs.declared.parts.Entry.{Entry}
use Rattle.wire.specs.Meaning.{entry_of, EntryParts}
use Rattle.range.specs.Packing.{bits_of, PacksEntry}
use Rattle.block.specs.Blocks.{Taken}
use Rattle.step.specs.Effects.{Timely}
use Rattle.step.proofs.Read.{value_is}
use Rattle.step.proofs.Quiet.{no_other}
use Rattle.step.proofs.quiet_step.Goals as goal

pub returns-in-AddMerkle : goal.returns-in-AddMerkle
unfolding entry_code
returns-in-AddMerkle c = record {
  same = c.add_merkle.ensures.same;
  step = λ t v k room parts timely quiet.
      let is = c.in-AddMerkle.is in
      let packs = subst (λ (e : Entry). PacksEntry e c.args.packed.now) is c.requires.packed in
      let e : entry_of c.args.entry ≡ verifier.add_merkle (record_of c.in-AddMerkle.record) (bits_of c.args.packed.now.above) = ap entry_of is ∙ ap (verifier.add_merkle (record_of c.in-AddMerkle.record)) (sym packs.0) in
      subst (λ (x : verifier.Entry). Taken c.args.n c.add_merkle.new.block c.add_merkle.result (verifier.verifier_step t v x)) (sym e)
      (c.add_merkle.ensures.step t v k (room (ap is_add e)) (subst EntryParts is parts));
}

pub returns-in-Get : goal.returns-in-Get
returns-in-Get c = record {
  same = λ _. refl;
  step = λ t v k room parts timely quiet.
      let e = ap entry_of c.in-Get.is ∙ ap (verifier.get c.in-Get.key.now) (value_is c.in-Get.value) in
      subst (λ (x : verifier.Entry). Taken c.args.n c.args.block.now c.get.result (verifier.verifier_step t v x)) (sym e) (c.get.ensures t v k);
}

pub returns-in-NextEpoch : goal.returns-in-NextEpoch
returns-in-NextEpoch c = record {
  same = c.next_epoch.ensures.same;
  step = λ t v k room parts timely quiet.
      subst (λ (x : verifier.Entry). Taken c.args.n c.next_epoch.new.block c.next_epoch.result (verifier.verifier_step t v x)) (sym (ap entry_of c.in-NextEpoch.is))
      (c.next_epoch.ensures.step c.args.n t v k (subst (Timely v) c.in-NextEpoch.is timely));
}

pub returns-in-VerifyEpoch : goal.returns-in-VerifyEpoch
returns-in-VerifyEpoch c = record {
  same = c.verify_epoch.ensures.same;
  step = λ t v k room parts timely quiet.
      subst (λ (x : verifier.Entry). Taken c.args.n c.verify_epoch.new.block c.verify_epoch.result (verifier.verifier_step t v x)) (sym (ap entry_of c.in-VerifyEpoch.is))
      (c.verify_epoch.ensures.step c.args.n t v k);
}

pub returns-in_default : goal.returns-in_default
returns-in_default c = record {
  same = λ _. refl;
  step = λ t v k room parts timely quiet.
      absurd (no_other c.args.entry c.in_default.not-AddMerkle c.in_default.not-EvictMerkle c.in_default.not-NextEpoch c.in_default.not-VerifyEpoch c.in_default.not-Get c.in_default.not-Set quiet);
}

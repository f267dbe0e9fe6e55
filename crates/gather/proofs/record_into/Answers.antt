use Rattle.std.proofs.Common.{rules, ◌≡◌, ℕ, ◌≤◌, ◌∷◌, ◌++◌, get_or, take, sym, ap, ◌∙◌, arith}
use Rattle.model.specs.Records.{sized_bytes, merkle_bytes}
use Rattle.path.specs.Packs.{path_in}
use Rattle.slot.specs.Parts.{part}
use Rattle.slot.specs.Layout.{bytes_in, rec_in}
use Rattle.slot.proofs.Parted.{length_part}
use Rattle.writer.proofs.Joined.{written_as, written_join}
use Rattle.gather.proofs.Recorded.{node_record, data_record_bytes}
use Rattle.gather.proofs.record_into.Goals as goal

pub returns-then-slot-eq0 : goal.returns-then-slot-eq0
returns-then-slot-eq0 c = record {
  same = search rules;
  size = search rules;
  end = omega arith;
  wrote = λ s.
      let w = c.args.slot.now in
      let few : get_or w 2 0 ≤ 256 = omega (arith, s.shaped.packs.0, length_part 3 4 w (omega (arith, s.shaped.size))) in
      let whole : c.min-len.result ≡ get_or w 2 0 = omega (arith, c.min-len.ensures) in
      written_as _ _ _ _ (ap (λ (k : ℕ). 1 ∷ (sized_bytes (path_in k (part 3 4 w)) ++ merkle_bytes (rec_in w))) whole ∙ sym (node_record w c.if-slot-eq0.true))
      (written_join _ _ _ _ _ c.byte.ensures (written_join _ _ _ _ _ c.sized_path_into.ensures.wrote (c.node_into.ensures.wrote (s, c.if-slot-eq0.true))));
}

pub returns-else-slot-eq0 : goal.returns-else-slot-eq0
returns-else-slot-eq0 c = record {
  same = search rules;
  size = search rules;
  end = omega arith;
  wrote = λ s.
      let w = c.args.slot.now in
      let few : get_or w 8 0 ≤ 64 = (s.shaped.room c.if-slot-eq0.false).0 in
      let whole : c.min-len-else-slot-eq0.result ≡ get_or w 8 0 = omega (arith, c.min-len-else-slot-eq0.ensures) in
      written_as _ _ _ _ (ap (λ (k : ℕ). 0 ∷ (sized_bytes (take k (bytes_in (part 9 8 w))) ++ merkle_bytes (rec_in w))) whole ∙ sym (data_record_bytes w c.if-slot-eq0.false))
      (written_join _ _ _ _ _ c.byte-else-slot-eq0.ensures (written_join _ _ _ _ _ c.sized_bytes_into.ensures.wrote (c.data_into.ensures.wrote (s, c.if-slot-eq0.false))));
}

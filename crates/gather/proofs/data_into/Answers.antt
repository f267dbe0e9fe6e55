use Rattle.std.proofs.Common.{rules, ◌≡◌, ℕ, ◌≤◌, ◌∷◌, get_or, take, sym, ap, ◌∙◌, arith}
use Rattle.model.specs.Records.{sized_bytes}
use Rattle.slot.specs.Parts.{part}
use Rattle.slot.specs.Layout.{bytes_in}
use Rattle.writer.proofs.Joined.{written_as, written_join}
use Rattle.gather.proofs.Recorded.{bare_bytes, text_bytes}
use Rattle.gather.proofs.data_into.Goals as goal

pub returns-then-slot-ne2 : goal.returns-then-slot-ne2
returns-then-slot-ne2 c = record {
  same = search rules;
  size = search rules;
  end = omega arith;
  wrote = λ (s, ne).
      written_as _ _ _ _ (sym (bare_bytes c.args.slot.now ne c.if-slot-ne2.true)) (written_join _ _ _ _ _ c.byte.ensures c.byte-then-slot-ne2.ensures);
}

pub returns : goal.returns
returns c = record {
  same = search rules;
  size = search rules;
  end = omega arith;
  wrote = λ (s, ne).
      let w = c.args.slot.now in
      let bs = bytes_in (part 18 128 w) in
      let few : get_or w 17 0 ≤ 1024 = (s.shaped.room ne).1 in
      let whole : c.min-len.result ≡ get_or w 17 0 = omega (arith, c.min-len.ensures) in
      written_as _ _ _ _ (ap (λ (k : ℕ). 0 ∷ (1 ∷ sized_bytes (take k bs))) whole ∙ sym (text_bytes w c.if-slot-ne2.false))
      (written_join _ _ _ _ _ c.byte.ensures (written_join _ _ _ _ _ c.byte-2.ensures c.sized_bytes_into.ensures.wrote));
}

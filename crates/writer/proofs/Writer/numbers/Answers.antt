use Rattle.std.proofs.Common.{[], take, get_or, sym, ap, ◌∙◌, arith}
use Rattle.std.specs.List.{flat_map}
use Rattle.std.proofs.lemmas.List.{flat_map_more, take_more}
use Rattle.model.specs.Records.{le_bytes}
use Rattle.writer.proofs.Joined.{written_as, written_join}
use Rattle.writer.proofs.Writer.numbers.Goals as goal

pub loop-n-preserved : goal.loop-n-preserved
loop-n-preserved c = record {
  end = omega arith;
  wrote =
      let ns = c.args.ns.now in
      let i = c.loop-n.n-index in
      written_as _ _ _ _ (flat_map_more (le_bytes 8) [] (take i ns) (get_or ns i 0) ∙ ap (flat_map (le_bytes 8)) (sym (take_more ns i 0 (omega arith))))
      (written_join _ _ _ _ _ c.loop-n.invariant.wrote c.number.ensures.wrote);
}

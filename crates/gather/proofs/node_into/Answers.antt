use Rattle.std.proofs.Common.{rules, sym, arith}
use Rattle.writer.proofs.Joined.{written_as, written_join}
use Rattle.gather.proofs.Recorded.{node_bytes}
use Rattle.gather.proofs.node_into.Goals as goal

pub returns : goal.returns
returns c = record {
  same = search rules;
  size = search rules;
  end = omega arith;
  wrote = λ (s, node).
      let packs = s.shaped.pointers node in
      written_as _ _ _ _ (sym (node_bytes c.args.slot.now node))
      (written_join _ _ _ _ _ c.byte.ensures
      (written_join _ _ _ _ _ (c.pointer_into.ensures.wrote (packs 0 (omega arith))) (c.pointer_into-2.ensures.wrote (packs 1 (omega arith)))));
}

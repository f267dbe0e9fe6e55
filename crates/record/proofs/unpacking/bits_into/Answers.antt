use Rattle.std.proofs.Common.{rules, ◌≡◌, ℕ, ◌+◌, ◌*◌, ◌/◌, ◌%◌, take, drop, ap, ◌∙◌, arith}
use Rattle.std.proofs.lemmas.List.{take-take}
use Rattle.path.specs.Packs.{word_bits}
use Rattle.writer.proofs.Joined.{written_as, written_join}
use Rattle.record.proofs.Filled.{more_taken}
use Rattle.record.proofs.unpacking.bits_into.Goals as goal

pub loop-j-preserved : goal.loop-j-preserved
loop-j-preserved c = record {
  end = search rules;
  wrote =
      let j = c.loop-j.j in
      written_as _ _ _ _ (more_taken (8 * j) 8 (8 * (j + 1)) (word_bits c.args.bits.now) _ (omega arith) (c.unpack_byte.ensures ∙ c.byte_of.ensures.bits))
      (written_join _ _ _ _ _ c.loop-j.invariant.wrote c.bytes.ensures);
}

pub returns-then-len-gt0-clause-wrote : goal.returns-then-len-gt0-clause-wrote
returns-then-len-gt0-clause-wrote c =
    let s = word_bits c.args.bits.now in
    let n = 8 * c.loop-j.j in
    let m = c.args.len % 8 in
    let k : 8 * (c.args.len / 8) ≡ n = omega arith in
    let last = c.unpack_byte-last.ensures ∙ c.byte_of-then-len-gt0.ensures.bits ∙ ap (λ (i : ℕ). take 8 (drop i s)) k in
    written_as _ _ _ _ (more_taken n m c.args.len s _ (omega arith) (ap (take m) last ∙ take-take m 8 (drop n s) (omega arith)))
    (written_join _ _ _ _ _ c.loop-j.invariant.wrote c.bytes-then-len-gt0.ensures)

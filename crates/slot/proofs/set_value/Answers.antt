use Rattle.std.proofs.Common.{◌≡◌, ℕ, ◌+◌, ◌-◌, ◌/◌, List, length, set, Some, sym, ap, ◌∙◌, subst, arith, length-set}
use Rattle.model.specs.Records.{data_record}
use Rattle.slot.specs.Parts.{put}
use Rattle.slot.specs.Layout.{slot_key}
use Rattle.slot.specs.Edits.{KeepsPath, Edited}
use Rattle.slot.proofs.Parted.{length_part}
use Rattle.slot.proofs.Written.{value_kept, value_edited}
use Rattle.slot.proofs.set_value.Goals as goal

pub returns : goal.returns
returns c =
    let w = c.args.slot.now in
    let t = c.args.value.now in
    let v : List ℕ = set (set w 0 2) 17 (length t) in
    let ts = c.write_bytes.new.words in
    let n = 18 + c.div_ceil.result - 18 in
    let few = c.requires.value in
    let size : length v ≡ 190 = length-set (set w 0 2) 17 (length t) ∙ length-set w 0 2 ∙ c.requires.size in
    let fits : length ts ≡ (length t + 7) / 8 = c.write_bytes.auto.words ∙ length_part 18 n v (omega arith) ∙ (let q : n ≡ (length t + 7) / 8 = omega arith in q) in
    let k : n ≡ length ts = omega arith in
    let e : set (put 18 n v ts) 150 0 ≡ set (put 18 (length ts) v ts) 150 0 = ap (λ (q : ℕ). set (put 18 q v ts) 150 0) k in
    record {
      kept = subst (KeepsPath w) (sym e) (value_kept w ts t c.requires.size few fits c.write_bytes.ensures);
      edited = λ s d. subst (λ l. Edited w l (data_record (slot_key w) (Some t))) (sym e) (value_edited w ts t c.requires.size few fits c.write_bytes.ensures s d);
    }

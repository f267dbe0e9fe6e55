use Rattle.std.proofs.Common.{◌≡◌, ℕ, ◌+◌, ◌-◌, ◌/◌, List, length, set, sym, ap, ◌∙◌, subst, arith, length-set}
use Rattle.slot.specs.Parts.{put}
use Rattle.slot.specs.Layout.{Slot, stored_in}
use Rattle.slot.proofs.Parted.{length_part}
use Rattle.slot.proofs.Written.{key_slot, key_stored}
use Rattle.slot.proofs.write_key.Goals as goal

pub returns : goal.returns
returns c =
    let w = c.write_head.new.slot in
    let t = c.args.key.now in
    let few = c.requires.key in
    let v : List ℕ = set w 8 (length t) in
    let ts = c.write_bytes.new.words in
    let n = 9 + c.div_ceil.result - 9 in
    let by = c.args.by_merkle in
    let pn = c.args.path.now.len in
    let ws = c.args.path.now.bits in
    let size : length w ≡ 190 = c.write_head.auto.slot ∙ c.requires.size in
    let size_2 : length v ≡ 190 = length-set w 8 (length t) ∙ size in
    let fits : length ts ≡ (length t + 7) / 8 = c.write_bytes.auto.words ∙ length_part 9 n v (omega arith) ∙ (let q : n ≡ (length t + 7) / 8 = omega arith in q) in
    let k : n ≡ length ts = omega arith in
    let e : set (set (put 9 n v ts) 17 0) 150 0 ≡ set (set (put 9 (length ts) v ts) 17 0) 150 0 = ap (λ (q : ℕ). set (set (put 9 q v ts) 17 0) 150 0) k in
    record {
      slot = λ p. subst Slot (sym e) (key_slot w ts t size few fits c.write_bytes.ensures by pn ws c.write_head.ensures c.args.path.now.ok p);
      stored = ap stored_in e ∙ key_stored w ts t size few fits c.write_bytes.ensures by pn ws c.write_head.ensures;
    }

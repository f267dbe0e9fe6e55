use Rattle.std.proofs.Common.{◌≡◌, ℕ, ◌≤◌, List, get_or, take, sym, ap, ◌∙◌, subst, arith}
use Rattle.model.specs.Records.{same_bytes}
use Rattle.model.specs.Verifier.{has_key}
use Rattle.slot.specs.Parts.{part}
use Rattle.slot.specs.Layout.{rec_in, bytes_in, Slot}
use Rattle.reads.proofs.Read.{node_key, data_key}
use Rattle.reads.proofs.has_key.Goals as goal

pub returns-then-slot-eq0 : goal.returns-then-slot-eq0
returns-then-slot-eq0 c = λ _.
    let k = c.args.key.now in
    sym (node_key c.slot-slot.result.now k c.if-slot-eq0.true) ∙ ap (λ (l : List ℕ). has_key (rec_in l) k) c.slot-slot.ensures.words

pub returns : goal.returns
returns c = λ s.
    let k = c.args.key.now in
    let w = c.slot-slot.result.now in
    let sl : Slot w = subst Slot (sym c.slot-slot.ensures.words) s in
    let few : get_or w 8 0 ≤ 64 = (sl.shaped.room c.if-slot-eq0.false).0 in
    let l : c.min-len.result ≡ get_or w 8 0 = omega (arith, c.min-len.ensures, few) in
    c.same_bytes.ensures
    ∙ ap (λ (n : ℕ). same_bytes (take n (bytes_in (part 9 8 w))) k) l
    ∙ sym (data_key w k c.if-slot-eq0.false)
    ∙ ap (λ (x : List ℕ). has_key (rec_in x) k) c.slot-slot.ensures.words

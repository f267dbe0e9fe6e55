use Rattle.std.proofs.Common.{◌≡◌, ℕ, ◌≤◌, not, List, get_or, take, Some, None, Option, sym, ap, ◌∙◌, subst, arith, Bor}
use Rattle.std.specs.Option.{option_map}
use Rattle.std.proofs.lemmas.Bool.{eq-eqb}
use Rattle.model.specs.Records.{Bytes, same_bytes}
use Rattle.model.specs.Verifier.{has_value}
use Rattle.slot.specs.Parts.{part}
use Rattle.slot.specs.Layout.{rec_in, bytes_in, Slot}
use Rattle.reads.proofs.Read.{node_value, value_none, value_other, value_some}
use Rattle.reads.proofs.has_value.Goals as goal

-- the value that is asked for, as the arms have it, of the slot as it was read
asked : (w v : List ℕ) → w ≡ v → (o p : Option (Bor Bytes)) → o ≡ p → has_value (rec_in w) (option_map (λ x. x.now) p) ≡ has_value (rec_in v) (option_map (λ x. x.now) o)
asked w v h o p e = ap (λ (x : Option (Bor Bytes)). has_value (rec_in w) (option_map (λ y. y.now) x)) (sym e) ∙ ap (λ (l : List ℕ). has_value (rec_in l) (option_map (λ y. y.now) o)) h

pub returns-then-kind-ne0 : goal.returns-then-kind-ne0
returns-then-kind-ne0 c = λ _.
    let w = c.slot-slot.result.now in
    value_none w c.if-kind-ne0.true ∙ asked w _ c.slot-slot.ensures.words c.args.value None c.in_default.is

pub returns-else-kind-ne0 : goal.returns-else-kind-ne0
returns-else-kind-ne0 c = λ _.
    let w = c.slot-slot.result.now in
    ap not (eq-eqb (get_or w 0 0) 0 c.if-kind-ne0.false)
    ∙ sym (node_value w (option_map (λ v. v.now) c.args.value) c.if-kind-ne0.false)
    ∙ ap (λ (l : List ℕ). has_value (rec_in l) (option_map (λ v. v.now) c.args.value)) c.slot-slot.ensures.words

pub returns-then-kind-ne2 : goal.returns-then-kind-ne2
returns-then-kind-ne2 c = λ _.
    let w = c.slot-slot.result.now in
    sym (value_other w c.in-Some.v.now c.if-kind-ne2.true) ∙ asked w _ c.slot-slot.ensures.words c.args.value (Some c.in-Some.v) c.in-Some.is

pub returns : goal.returns
returns c = λ s.
    let t = c.in-Some.v.now in
    let w = c.slot-slot.result.now in
    let two = c.if-kind-ne2.false in
    let sl : Slot w = subst Slot (sym c.slot-slot.ensures.words) s in
    let few : get_or w 17 0 ≤ 1024 = (sl.shaped.room (λ z. omega arith)).1 in
    let l : c.min-len.result ≡ get_or w 17 0 = omega (arith, c.min-len.ensures, few) in
    c.same_bytes.ensures
    ∙ ap (λ (n : ℕ). same_bytes (take n (bytes_in (part 18 128 w))) t) l
    ∙ sym (value_some w t two)
    ∙ asked w _ c.slot-slot.ensures.words c.args.value (Some c.in-Some.v) c.in-Some.is

use Rattle.std.proofs.Common.{◌≡◌, ℕ, ◌/◌, ◌*◌, ◌<◌, ◌≤◌, List, length, get_or, take, drop, sym, ap, ◌∙◌, arith, rules}
use borrow.Author.Tests.{tests, ltb-true, ltb-false}
use Rattle.std.specs.Simd.{first_chunks}
use Rattle.std.proofs.lemmas.Bool.{ne_eqb}
use Rattle.std.proofs.lemmas.Iterator.{YieldsList-from_slice, YieldsList-from_zip, cases_from_all}
use Rattle.model.specs.Records.{same_bytes, le_bytes}
use Rattle.path.proofs.Same.{same_length, pointwise_same}
use Rattle.slot.specs.Layout.{bytes_in}
use Rattle.writer.proofs.Bytes.{eight_bytes}
use Rattle.slot.proofs.Compared.{Reads, Differs, all_or_one, tail_same, none_left, long, both}
use Rattle.slot.proofs.text.same_bytes.Goals as goal
use Rattle.slot.proofs.text.same_bytes.Goals.{then-bytes-len, else-bytes-len}

pub returns-then-same : goal.returns-then-same
returns-then-same c =
    let ws = c.args.words.now in
    let n = c.args.len in
    let bs = c.args.bytes.now in
    let es = c.as_chunks.result.0.now in
    elim c.if-bytes-len.branch [
      | then-bytes-len w ↦
          let many : length bs ≡ n = w.if-bytes-len.true in
          let m =
          cases_from_all w.all-same.new.self _ w.all-same.result Reads Differs w.all-same.ensures.ran (YieldsList-from_zip (YieldsList-from_slice es (cc)) (YieldsList-from_slice ws (cc)))
          (λ x q k. search (rules, tests)) (λ x q k. search (rules, tests)) in
          let front : es ≡ first_chunks 8 (n / 8) bs = c.as_chunks.ensures.front ∙ ap (λ (k : ℕ). first_chunks 8 (k / 8) bs) many in
          let count : length es ≡ n / 8 = c.as_chunks.ensures.front_len ∙ ap (λ (k : ℕ). k / 8) many in
          let whole = all_or_one ws n bs c.requires.room many (λ i. (c.type_inv.words i).fits) (λ i. (c.type_inv.bytes i).fits) es front count w.all-same.result m in
          let back : c.as_chunks.result.1.now ≡ drop (n / 8 * 8) bs = c.as_chunks.ensures.back ∙ ap (λ (k : ℕ). drop (k / 8 * 8) bs) many in
          let all = whole.0 (sym w.same-is ∙ c.if-same.true) in
          let lt : length es < length ws = ltb-true (length es) (length ws) (sym c.in-Some.ensures.lookup.0) in
          let rest = tail_same ws n bs c.requires.room many (λ i. (c.type_inv.words i).fits) (λ i. (c.type_inv.bytes i).fits) c.as_chunks.result.1.now back (omega arith) in
          let item : c.in-Some.word.now ≡ get_or ws (length es) 0 = search rules in
          let bytes = c.to_le_bytes.ensures ∙ eight_bytes c.in-Some.word.now ∙ ap (le_bytes 8) (item ∙ ap (λ (k : ℕ). get_or ws k 0) count) in
          c.eq.ensures ∙ pointwise_same _ _ ∙ ap (λ (l : List ℕ). same_bytes (take (length c.as_chunks.result.1.now) l) c.as_chunks.result.1.now) bytes ∙ sym (all ∙ rest)
      | else-bytes-len w ↦
          cc (ne_eqb (length bs) n w.if-bytes-len.false)
    ]

pub returns-else-same : goal.returns-else-same
returns-else-same c =
    let ws = c.args.words.now in
    let n = c.args.len in
    let bs = c.args.bytes.now in
    let es = c.as_chunks.result.0.now in
    elim c.if-bytes-len.branch [
      | then-bytes-len w ↦
          let many : length bs ≡ n = w.if-bytes-len.true in
          let m =
          cases_from_all w.all-same.new.self _ w.all-same.result Reads Differs w.all-same.ensures.ran (YieldsList-from_zip (YieldsList-from_slice es (cc)) (YieldsList-from_slice ws (cc)))
          (λ x q k. search (rules, tests)) (λ x q k. search (rules, tests)) in
          let front : es ≡ first_chunks 8 (n / 8) bs = c.as_chunks.ensures.front ∙ ap (λ (k : ℕ). first_chunks 8 (k / 8) bs) many in
          let count : length es ≡ n / 8 = c.as_chunks.ensures.front_len ∙ ap (λ (k : ℕ). k / 8) many in
          let whole = all_or_one ws n bs c.requires.room many (λ i. (c.type_inv.words i).fits) (λ i. (c.type_inv.bytes i).fits) es front count w.all-same.result m in
          c.if-same.false ∙ sym (whole.1 (sym w.same-is ∙ c.if-same.false))
      | else-bytes-len w ↦
          let l = long ws n c.requires.room in w.same-is ∙ ne_eqb (length bs) n w.if-bytes-len.false ∙ sym (same_length (take n (bytes_in ws)) bs (λ q. w.if-bytes-len.false (sym q ∙ l)))
    ]

pub returns-in-None : goal.returns-in-None
returns-in-None c =
    let ws = c.args.words.now in
    let n = c.args.len in
    let bs = c.args.bytes.now in
    let es = c.as_chunks.result.0.now in
    elim c.if-bytes-len.branch [
      | then-bytes-len w ↦
          let many : length bs ≡ n = w.if-bytes-len.true in
          let m =
          cases_from_all w.all-same.new.self _ w.all-same.result Reads Differs w.all-same.ensures.ran (YieldsList-from_zip (YieldsList-from_slice es (cc)) (YieldsList-from_slice ws (cc)))
          (λ x q k. search (rules, tests)) (λ x q k. search (rules, tests)) in
          let front : es ≡ first_chunks 8 (n / 8) bs = c.as_chunks.ensures.front ∙ ap (λ (k : ℕ). first_chunks 8 (k / 8) bs) many in
          let count : length es ≡ n / 8 = c.as_chunks.ensures.front_len ∙ ap (λ (k : ℕ). k / 8) many in
          let whole = all_or_one ws n bs c.requires.room many (λ i. (c.type_inv.words i).fits) (λ i. (c.type_inv.bytes i).fits) es front count w.all-same.result m in
          let done = none_left ws n bs c.requires.room many (λ i. (c.type_inv.words i).fits) (λ i. (c.type_inv.bytes i).fits) (let ge : length ws ≤ length es = ltb-false (length es) (length ws) (sym c.in-None.ensures.lookup.0) in omega arith) in
          both (w.all-same.result) c.if-bytes-len.same _ _ w.same-is whole done
      | else-bytes-len w ↦
          let l = long ws n c.requires.room in w.same-is ∙ ne_eqb (length bs) n w.if-bytes-len.false ∙ sym (same_length (take n (bytes_in ws)) bs (λ q. w.if-bytes-len.false (sym q ∙ l)))
    ]

use Rattle.std.proofs.Common.{◌≡◌, ℕ, ◌*◌, ◌/◌, ◌%◌, List, ◌++◌, take, drop, get_or, sym, ap, ◌∙◌, arith}
use Rattle.std.proofs.lemmas.List.{take-take}
use Rattle.slot.specs.Layout.{bytes_in}
use Rattle.record.proofs.Filled.{more_taken}
use Rattle.writer.proofs.Bytes.{eight_bytes}
use Rattle.writer.proofs.Joined.{written_as, written_join}
use Rattle.slot.proofs.Eights.{word_bytes}
use Rattle.gather.proofs.Eights.{numbers_taken}
use Rattle.gather.proofs.bytes_into.Goals as goal

pub returns-then-n-gt0-clause-wrote : goal.returns-then-n-gt0-clause-wrote
returns-then-n-gt0-clause-wrote c =
    let ws = c.args.words.now in
    let n = c.args.n in
    let j = n / 8 in
    let last = c.to_le_bytes-last.ensures ∙ eight_bytes (get_or ws j 0) ∙ sym (word_bytes ws j (omega arith)) in
    written_as _ _ _ _
    (ap (λ (x : List ℕ). x ++ take (n % 8) c.to_le_bytes-last.result) (numbers_taken ws j (omega arith))
    ∙ more_taken (8 * j) (n % 8) n (bytes_in ws) _ (omega arith) (ap (take (n % 8)) last ∙ take-take (n % 8) 8 (drop (8 * j) (bytes_in ws)) (omega arith)))
    (written_join _ _ _ _ _ c.numbers.ensures.wrote c.bytes.ensures)

pub returns-else-n-gt0-clause-wrote : goal.returns-else-n-gt0-clause-wrote
returns-else-n-gt0-clause-wrote c =
    let ws = c.args.words.now in
    let e : 8 * (c.args.n / 8) ≡ c.args.n = omega arith in
    written_as _ _ _ _ (numbers_taken ws (c.args.n / 8) (omega arith) ∙ ap (λ (k : ℕ). take k (bytes_in ws)) e) c.numbers.ensures.wrote

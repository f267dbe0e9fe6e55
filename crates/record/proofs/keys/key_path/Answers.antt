use Rattle.std.proofs.Common.{rules, ◌≡◌, ◌*◌, ◌∙◌, length, get_or, sym, ap, subst, arith}
use Rattle.model.specs.Records.{bits, bits_of_bytes, le_bytes}
use Rattle.path.specs.Packs.{Packs, path_in}
use Rattle.record.proofs.Filled.{at_four}
use Rattle.record.proofs.Swapped.{digest_bits, whole_packs, whole_path}
use Rattle.record.proofs.keys.key_path.Goals as goal

pub invariant_of-result : goal.invariant_of-result
invariant_of-result c =
    let ws = c.map.result in
    let n : 64 * length ws ≡ 256 = omega arith in
    record { ok = subst (λ k. Packs k ws) n (whole_packs ws) }

pub returns-clause-path : goal.returns-clause-path
returns-clause-path c =
    let ws = c.map.result in
    let xs = c.digest.result in
    let n : 64 * length ws ≡ 256 = omega arith in
    let turned = at_four (λ i. bits 64 (get_or ws i 0) ≡ bits_of_bytes (le_bytes 8 (get_or xs i 0))) (search rules) (search rules) (search rules) (search rules) in
    ap (λ k. path_in k ws) (sym n)
    ∙ (whole_path ws ∙ (digest_bits ws xs (omega arith) (λ i h. turned i (omega arith)) ∙ ap bits_of_bytes c.digest.ensures.bytes))

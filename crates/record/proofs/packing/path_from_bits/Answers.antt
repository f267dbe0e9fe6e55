use Rattle.std.proofs.Common.{rules, leb, length, sym, ◌∙◌}
use Rattle.std.proofs.lemmas.Bool.{and_parts, leb-true}
use Rattle.model.specs.Monitor.{are_bits}
use Rattle.record.proofs.Filled.{WordPacked, at_four, packed_packs, packed_path}
use Rattle.record.proofs.packing.path_from_bits.Goals as goal

pub invariant_of-result : goal.invariant_of-result
invariant_of-result c =
    let xs = c.args.bytes.now in
    let ys = c.fill-filled.result in
    let ws = c.from_fn.result in
    let g = and_parts (are_bits xs) (leb (length xs) 256) (sym c.is_good_path.ensures ∙ c.if-not-is_good_path.false) in
    let each = at_four (WordPacked ys ws) (search rules) (search rules) (search rules) (search rules) in
    record { ok = packed_packs xs ys ws (leb-true (length xs) 256 g.1) g.0 c.fill-filled.ensures c.from_fn.ensures.items.long each }

pub returns-clause-path : goal.returns-clause-path
returns-clause-path c =
    let xs = c.args.bytes.now in
    let ys = c.fill-filled.result in
    let ws = c.from_fn.result in
    let g = and_parts (are_bits xs) (leb (length xs) 256) (sym c.is_good_path.ensures ∙ c.if-not-is_good_path.false) in
    let each = at_four (WordPacked ys ws) (search rules) (search rules) (search rules) (search rules) in
    packed_path xs ys ws (leb-true (length xs) 256 g.1) g.0 c.fill-filled.ensures c.from_fn.ensures.items.long each

use Rattle.std.proofs.Common.{rules, ◌≡◌, ℕ, ◌≤◌, eqb, ◌∷◌, ◌++◌, get_or, sym, ap, ◌∙◌, arith}
use Rattle.std.specs.List.{flat_map}
use Rattle.model.specs.Records.{pick, le_bytes, sized_bytes}
use Rattle.path.specs.Packs.{path_in}
use Rattle.slot.specs.Parts.{part}
use Rattle.slot.proofs.Parted.{length_part}
use Rattle.writer.proofs.Joined.{written_as, written_join}
use Rattle.gather.proofs.Pointers.{absent_bytes, present_bytes, by_blum}
use Rattle.gather.proofs.pointer_into.Goals as goal

pub returns-then-pointer-eq0 : goal.returns-then-pointer-eq0
returns-then-pointer-eq0 c = record {
  same = search rules;
  size = search rules;
  end = omega arith;
  wrote = λ _. written_as _ _ _ _ (sym (absent_bytes c.args.pointer.now c.if-pointer-eq0.true)) c.byte.ensures;
}

pub returns : goal.returns
returns c =
    let w = c.args.pointer.now in
    let n = c.min-len.result in
    let ps = part 2 4 w in
    let hash = flat_map (le_bytes 8) (part 6 4 w) in
    record {
      same = search rules;
      size = search rules;
      end = omega arith;
      wrote = λ packs.
          let few : get_or w 1 0 ≤ 256 = omega (arith, packs.0, length_part 2 4 w (omega (arith, c.requires.ten))) in
          let whole : n ≡ get_or w 1 0 = omega (arith, c.min-len.ensures) in
          let blum : c.from.result ≡ pick (eqb (get_or w 0 0) 2) 1 0 = c.from.ensures ∙ by_blum (eqb (get_or w 0 0) 2) in
          written_as _ _ _ _
          (ap (λ (x : ℕ). 1 ∷ (x ∷ (sized_bytes (path_in n ps) ++ hash))) blum
          ∙ ap (λ (x : ℕ). 1 ∷ (pick (eqb (get_or w 0 0) 2) 1 0 ∷ (sized_bytes (path_in x ps) ++ hash))) whole
          ∙ present_bytes w c.requires.ten (λ i. (c.type_inv.pointer i).fits) c.if-pointer-eq0.false)
          (written_join _ _ _ _ _ c.byte-2.ensures
          (written_join _ _ _ _ _ c.byte-3.ensures
          (written_join _ _ _ _ _ c.sized_path_into.ensures.wrote c.numbers.ensures.wrote)));
    }

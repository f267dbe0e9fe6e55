use Rattle.std.proofs.Common.{◌≡◌, ℕ, ◌+◌, Bool, true, false, List, ◌∷◌, ◌++◌, set, sym, refl, ap, ◌∙◌, subst, arith}
use Rattle.model.specs.Records.{pick}
use Rattle.slot.specs.Parts.{put}
use Rattle.slot.specs.Layout.{pointer_in, PointerPacks}
use Rattle.slot.specs.Meant.{child_meant, child_words}
use Rattle.slot.proofs.Children.{ten_words, ten_said, ten_packs, none_packs}
use Rattle.slot.proofs.write_child.Goals as goal
use mir.Val.{bool_byte}

tag_of : (b : Bool) → 1 + bool_byte b ≡ pick b 2 1
unfolding pick
tag_of true = refl
tag_of false = refl

pub returns-in-Absent : goal.returns-in-Absent
unfolding pointer_in pick
returns-in-Absent c = record {
  words = c.copy_from_slice.ensures.after ∙ ap child_words (sym c.in-Absent.is);
  meant = ap (λ k. pointer_in (child_words k)) c.in-Absent.is ∙ ap child_meant (sym c.in-Absent.is);
  packs = subst (λ k. PointerPacks (child_words k)) (sym c.in-Absent.is) none_packs;
}

pub returns-in-Present : goal.returns-in-Present
returns-in-Present c =
    let t : 1 + c.from.result ≡ pick c.in-Present.by_blum 2 1 = ap (λ (x : ℕ). 1 + x) c.from.ensures ∙ tag_of c.in-Present.by_blum in
    let w1 = set (set c.args.s.now 0 (1 + c.from.result)) 1 c.in-Present.path.len in
    record {
      words =
          ap (λ (x : List ℕ). put 6 4 (put 2 4 w1 x) c.copy_from_slice-in-Present-2.new.self) c.copy_from_slice-in-Present.ensures.after
          ∙ ap (λ (x : List ℕ). put 6 4 (put 2 4 w1 c.in-Present.path.bits) x) c.copy_from_slice-in-Present-2.ensures.after
          ∙ ten_words c.args.s.now (1 + c.from.result) c.in-Present.path.len c.in-Present.path.bits c.in-Present.hash (omega arith) (omega arith) (omega arith)
          ∙ ap (λ (x : ℕ). x ∷ (c.in-Present.path.len ∷ (c.in-Present.path.bits ++ c.in-Present.hash))) t
          ∙ ap child_words (sym c.in-Present.is);
      meant =
          ap (λ k. pointer_in (child_words k)) c.in-Present.is
          ∙ ten_said c.in-Present.path.len c.in-Present.path.bits c.in-Present.hash c.in-Present.by_blum (omega arith) (omega arith)
          ∙ ap child_meant (sym c.in-Present.is);
      packs =
          subst (λ k. PointerPacks (child_words k)) (sym c.in-Present.is)
          (ten_packs (pick c.in-Present.by_blum 2 1) c.in-Present.path.len c.in-Present.path.bits c.in-Present.hash (omega arith) c.in-Present.path.ok);
    }

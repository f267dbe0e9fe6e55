-- What is gathered, and the ways in which a record is added.
use Rattle.std.proofs.Common.{◌≡◌, ℕ, ◌+◌, ◌-◌, ◌<◌, Bool, true, false, leb, List, length, take, drop, sym, refl, ap, ◌∙◌, subst, arith, take_all}
use lib.Seq.{take-paste}
use Rattle.std.proofs.lemmas.Bool.{leb-true, leb-false}
use Rattle.model.specs.Records.{Record, Children, Pointer, present, node, pick, side, with_child, merkle_hash}
use Rattle.path.specs.Packs.{path_in}
use Rattle.path.specs.declared.packed.Path as packed
use Rattle.slot.specs.declared.child.Child.{Child}
use Rattle.slot.specs.declared.contents.Contents.{Contents}
use Rattle.slot.specs.declared.contents.Contents.TheVariants.{Node, Data}
use Rattle.slot.specs.Layout.{number_in}
use Rattle.slot.specs.Meant.{child_meant, record_meant}
use Rattle.model.specs.Verifier.{Stored, updated}
use Rattle.slot.proofs.Finding.{length_updated}
use Rattle.gather.specs.Wrote.{Wrote}
use Rattle.conditions.specs.declared.parts.Way.{Way}
use Rattle.conditions.specs.declared.parts.Way.TheVariants.{First, Again, Between}
use Rattle.conditions.specs.Ways.{after_link, contents_after, OwnHash}

-- what was written from the first byte on
pub gathered : (d bs d' : List ℕ) (past : ℕ) → Wrote d 0 bs d' past → take (past - 0) (drop 0 d') ≡ bs
gathered d bs d' past w =
    let e : past - 0 ≡ 0 + length bs = let x = w.end in omega arith in
    ap (λ (k : ℕ). take k (drop 0 d')) e ∙ ap (take (0 + length bs)) w.bytes ∙ take-paste d 0 bs (length bs) (omega arith) (omega arith) ∙ take_all (length bs) bs (omega arith)

pub with_left : (c : Children) (d : ℕ) (p : Pointer) → 0 ≡ d → with_child c d p ≡ record { left = p; right = c.right }
unfolding pick
with_left c d p e = subst (λ (k : ℕ). with_child c k p ≡ record { left = p; right = c.right }) e refl

pub with_right : (c : Children) (d : ℕ) (p : Pointer) → 1 ≡ d → with_child c d p ≡ record { left = c.left; right = p }
unfolding pick
with_right c d p e = subst (λ (k : ℕ). with_child c k p ≡ record { left = c.left; right = p }) e refl

module _ (w : Way) (k : Contents) (p o : packed.Path) (h : List ℕ) (b : Bool) (l r : Child) (e : w ≡ Between o h b) (f : k ≡ Node l r) where
  put : (c : Children) → with_child (record { left = child_meant l; right = child_meant r }) (side (path_in o.len o.bits) (path_in p.len p.bits)) (present (path_in o.len o.bits) (number_in h) b) ≡ c
      → node (path_in p.len p.bits) c ≡ contents_after w p k
  put c g = sym (ap (λ (x : Way). contents_after x p k) e ∙ ap (contents_after (Between o h b) p) f ∙ ap (node (path_in p.len p.bits)) g)

  pub put_left : 0 ≡ side (path_in o.len o.bits) (path_in p.len p.bits)
      → node (path_in p.len p.bits) (record { left = present (path_in o.len o.bits) (number_in h) b; right = child_meant r }) ≡ contents_after w p k
  put_left z = put _ (with_left _ _ _ z)

  pub put_right : 1 ≡ side (path_in o.len o.bits) (path_in p.len p.bits)
      → node (path_in p.len p.bits) (record { left = child_meant l; right = present (path_in o.len o.bits) (number_in h) b }) ≡ contents_after w p k
  put_right z = put _ (with_right _ _ _ z)

-- a hash that came with a record is that of what is stored: it is put between nothing
pub own_after : (w : Way) (p : packed.Path) (k : Contents) → OwnHash w (merkle_hash (record_meant p k)) → OwnHash w (merkle_hash (contents_after w p k))
own_after First p k h = tt
own_after (Again x) p (Node l r) h = h
own_after (Again x) p (Data t v) h = h
own_after (Between o x b) p k h = tt

pub length_link : (w : Way) (above : Record) (xs : List Stored) → length (after_link w above xs) ≡ length xs
length_link First above xs = length_updated above xs
length_link (Again h) above xs = refl
length_link (Between o h b) above xs = length_updated above xs

-- a node above that didn't know the record
pub linked : (w : Way) (above : Record) (xs : List Stored) → ((h : List ℕ) → w ≡ Again h → ⊥) → after_link w above xs ≡ updated above xs
linked First above xs ne = refl
linked (Again h) above xs ne = absurd (ne h refl)
linked (Between o h b) above xs ne = refl

-- there is room where there is
pub room_found : (n r k : ℕ) → leb n r ≡ leb n k → k < n → r < n
room_found n r k e h = go (leb n r) refl
  where
    go : (b : Bool) → leb n r ≡ b → r < n
    go true t = absurd (let l = leb-true n k (sym e ∙ t) in omega arith)
    go false f = leb-false n r f

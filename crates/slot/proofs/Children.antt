-- The words of a child pointer, and a slot with another child pointer.
use Rattle.std.proofs.Common.{◌≡◌, ℕ, zero, suc, ◌+◌, ◌*◌, ◌<◌, ◌≤◌, Bool, true, false, eqb, List, [], ◌∷◌, ◌++◌, length, get_or, take, drop, set, sym, refl, ap, ◌∙◌, subst, ⊎_elim, append-nil, arith, lit≤, length-drop, take_at, drop_at}
use lib.Seq.{take-set-le}
use Rattle.std.proofs.lemmas.List.{drop_all}
use Rattle.std.proofs.lemmas.Bool.{both_ways, ne_eqb, cases_eq}
use Rattle.model.specs.Records.{Pointer, present, pick, Children, Record, node, data_record, with_child, path_of, is_data, children_of}
use Rattle.model.specs.Verifier.{Stored}
use Rattle.path.specs.Packs.{path_in, Packs, word_bits}
use Rattle.model.specs.Records.{bits}
use Rattle.slot.specs.Parts.{part, put}
use Rattle.slot.specs.Layout.{pointer_in, number_in, children_in, slot_path, rec_in, stored_in, stored_with, slot_key, slot_value, Shaped, Slot, PointerPacks}
use Rattle.slot.specs.Edits.{KeepsPath, Edited}
use Rattle.slot.proofs.Fronts.{unmarked, rec_unmarked, at_same, part_same}
use Rattle.slot.proofs.Finding.{pick_false}
use Rattle.slot.proofs.Parted.{part_put, part_before, part_after, at_before, length_put}

-- ten words, written in their parts
pub ten_words : (s : List ℕ) (t n : ℕ) (bits hash : List ℕ) → length s ≡ 10 → length bits ≡ 4 → length hash ≡ 4
    → put 6 4 (put 2 4 (set (set s 0 t) 1 n) bits) hash ≡ t ∷ (n ∷ (bits ++ hash))
ten_words [] t n bits hash l b h = absurd (omega arith)
ten_words (x ∷ []) t n bits hash l b h = absurd (omega arith)
ten_words (x ∷ (y ∷ r)) t n bits hash l b h =
    let e : drop 4 (drop 4 (bits ++ drop 4 r)) ≡ [] = drop_all 4 (drop 4 (bits ++ drop 4 r)) (rw (drop_at bits (drop 4 r) 4 b) (simp length-drop (omega arith))) in
    ap (λ (z : List ℕ). t ∷ (n ∷ (z ++ (hash ++ drop 4 (drop 4 (bits ++ drop 4 r)))))) (take_at bits (drop 4 r) 4 b)
    ∙ ap (λ (z : List ℕ). t ∷ (n ∷ (bits ++ (hash ++ z)))) e
    ∙ ap (λ (z : List ℕ). t ∷ (n ∷ (bits ++ z))) (append-nil hash)

-- what they say
pub ten_said : (n : ℕ) (bits hash : List ℕ) (b : Bool) → length bits ≡ 4 → length hash ≡ 4
    → pointer_in (pick b 2 1 ∷ (n ∷ (bits ++ hash))) ≡ present (path_in n bits) (number_in hash) b
unfolding pointer_in pick
ten_said n bits hash true lb lh =
    let h : take 4 (drop 4 (bits ++ hash)) ≡ hash = ap (take 4) (drop_at bits hash 4 lb) ∙ ap (take 4) (sym (append-nil hash)) ∙ take_at hash [] 4 lh in
    rw (take_at bits hash 4 lb, h) refl
ten_said n bits hash false lb lh =
    let h : take 4 (drop 4 (bits ++ hash)) ≡ hash = ap (take 4) (drop_at bits hash 4 lb) ∙ ap (take 4) (sym (append-nil hash)) ∙ take_at hash [] 4 lh in
    rw (take_at bits hash 4 lb, h) refl

-- the node in a slot
pub node_stored : (w : List ℕ) → get_or w 0 0 ≡ 0 → rec_in w ≡ node (slot_path w) (children_in w)
unfolding rec_in pick
node_stored w h = rw h refl

module _ (w ys : List ℕ) (size : length w ≡ 190) (ten : length ys ≡ 10) (is_node : get_or w 0 0 ≡ 0) where
  head_same : (a : ℕ) → 8 ≤ a → a + 10 ≤ 190 → (i : ℕ) → i < 8 → get_or (put a 10 w ys) i 0 ≡ get_or w i 0
  head_same a h k i l = at_before a 10 w ys (omega arith) ten i (omega arith)

  path_same : (a : ℕ) → 8 ≤ a → a + 10 ≤ 190 → slot_path (put a 10 w ys) ≡ slot_path w
  path_same a h k =
      ap (λ (n : ℕ). path_in n (part 3 4 (put a 10 w ys))) (head_same a h k 2 (omega arith))
      ∙ ap (path_in (get_or w 2 0)) (part_before a 10 w ys (omega arith) ten 3 4 (omega arith))

  pub child_put : (d : ℕ) → d < 2 → stored_in (put (8 + 10 * d) 10 w ys) ≡ stored_with w d (pointer_in ys)
  unfolding pick
  child_put zero h =
      ap (λ (r : Record). record { rec = r; by_merkle = eqb (get_or (put 8 10 w ys) 1 0) 1 })
      (node_stored (put 8 10 w ys) (head_same 8 (omega arith) (omega arith) 0 (omega arith) ∙ is_node)
      ∙ ap (λ (p : List ℕ). node p (children_in (put 8 10 w ys))) (path_same 8 (omega arith) (omega arith))
      ∙ ap (λ (l : List ℕ). node (slot_path w) (record { left = pointer_in l; right = pointer_in (part 18 10 (put 8 10 w ys)) })) (part_put 8 10 w ys (omega arith) ten)
      ∙ ap (λ (l : List ℕ). node (slot_path w) (record { left = pointer_in ys; right = pointer_in l })) (part_after 8 10 w ys (omega arith) ten 18 10 (omega arith)))
      ∙ ap (λ (x : ℕ). record { rec = node (slot_path w) (record { left = pointer_in ys; right = pointer_in (part 18 10 w) }); by_merkle = eqb x 1 }) (head_same 8 (omega arith) (omega arith) 1 (omega arith))
  child_put (suc zero) h =
      ap (λ (r : Record). record { rec = r; by_merkle = eqb (get_or (put 18 10 w ys) 1 0) 1 })
      (node_stored (put 18 10 w ys) (head_same 18 (omega arith) (omega arith) 0 (omega arith) ∙ is_node)
      ∙ ap (λ (p : List ℕ). node p (children_in (put 18 10 w ys))) (path_same 18 (omega arith) (omega arith))
      ∙ ap (λ (l : List ℕ). node (slot_path w) (record { left = pointer_in l; right = pointer_in (part 18 10 (put 18 10 w ys)) })) (part_before 18 10 w ys (omega arith) ten 8 10 (omega arith))
      ∙ ap (λ (l : List ℕ). node (slot_path w) (record { left = pointer_in (part 8 10 w); right = pointer_in l })) (part_put 18 10 w ys (omega arith) ten))
      ∙ ap (λ (x : ℕ). record { rec = node (slot_path w) (record { left = pointer_in (part 8 10 w); right = pointer_in ys }); by_merkle = eqb x 1 }) (head_same 18 (omega arith) (omega arith) 1 (omega arith))
  child_put (suc (suc d)) h = absurd (omega arith)

  pub bits_put : (d : ℕ) → d < 2 → part 3 4 (put (8 + 10 * d) 10 w ys) ≡ part 3 4 w
  bits_put d h = part_before (8 + 10 * d) 10 w ys (omega arith) ten 3 4 (omega arith)

  children_put : (d : ℕ) → d < 2 → PointerPacks ys → ((e : ℕ) → e < 2 → PointerPacks (part (8 + 10 * e) 10 w)) → (e : ℕ) → e < 2 → PointerPacks (part (8 + 10 * e) 10 (put (8 + 10 * d) 10 w ys))
  children_put zero h y o zero g = subst PointerPacks (sym (part_put 8 10 w ys (omega arith) ten)) y
  children_put zero h y o (suc zero) g = subst PointerPacks (sym (part_after 8 10 w ys (omega arith) ten 18 10 (omega arith))) (o 1 (omega arith))
  children_put (suc zero) h y o zero g = subst PointerPacks (sym (part_before 18 10 w ys (omega arith) ten 8 10 (omega arith))) (o 0 (omega arith))
  children_put (suc zero) h y o (suc zero) g = subst PointerPacks (sym (part_put 18 10 w ys (omega arith) ten)) y
  children_put zero h y o (suc (suc e)) g = absurd (omega arith)
  children_put (suc zero) h y o (suc (suc e)) g = absurd (omega arith)
  children_put (suc (suc d)) h y o e g = absurd (omega arith)

  -- the slot is still as it should be
  pub shaped_put : (d : ℕ) → d < 2 → PointerPacks ys → Shaped w → Shaped (put (8 + 10 * d) 10 w ys)
  unfolding path_of
  shaped_put d h y s =
      let a = 8 + 10 * d in
      let n0 = head_same a (omega arith) (omega arith) 0 (omega arith) in
      let n2 = head_same a (omega arith) (omega arith) 2 (omega arith) in
      let b = bits_put d h in
      record {
        size = length_put a 10 w ys (omega arith) ten ∙ size;
        packs = subst (λ (k : ℕ). Packs k (part 3 4 (put a 10 w ys))) (sym n2) (subst (Packs (get_or w 2 0)) (sym b) s.packs);
        path = ap path_of (node_stored (put a 10 w ys) (n0 ∙ is_node));
        pointers = λ _. children_put d h y (s.pointers is_node);
        room = λ z. absurd (z (n0 ∙ is_node));
      }

-- nothing past a path's bits
pub none_packs : PointerPacks (0 ∷ (0 ∷ (0 ∷ (0 ∷ (0 ∷ (0 ∷ (0 ∷ (0 ∷ (0 ∷ (0 ∷ []))))))))))
unfolding word_bits bits
none_packs = (lit≤ tt, refl)

pub ten_packs : (t n : ℕ) (bits hash : List ℕ) → length bits ≡ 4 → Packs n bits → PointerPacks (t ∷ (n ∷ (bits ++ hash)))
ten_packs t n bits hash l p = subst (Packs n) (sym (take_at bits hash 4 l)) p

-- a slot that has no data record has a node
pub node_tag : (w : List ℕ) → is_data (rec_in w) ≡ false → get_or w 0 0 ≡ 0
unfolding rec_in is_data
node_tag w h =
    ⊎_elim (λ (z : get_or w 0 0 ≡ 0). z)
    (λ (ne : get_or w 0 0 ≡ 0 → ⊥).
    absurd (both_ways (is_data (rec_in w)) h (ap is_data (pick_false (eqb (get_or w 0 0) 0) (node (slot_path w) (children_in w)) (data_record (slot_key w) (slot_value w)) (ne_eqb (get_or w 0 0) 0 ne)))))
    (cases_eq (get_or w 0 0) 0)

children_are : (w : List ℕ) → get_or w 0 0 ≡ 0 → children_of (rec_in w) ≡ children_in w
unfolding children_of
children_are w z = ap children_of (node_stored w z)

-- a node with another child pointer, and its mark taken off
module _ (w ys : List ℕ) (size : length w ≡ 190) (ten : length ys ≡ 10) (d : ℕ) (two : d < 2) where
  put_front : take 146 (set (put (8 + 10 * d) 10 w ys) 150 0) ≡ take 146 (put (8 + 10 * d) 10 w ys)
  put_front = take-set-le 146 (put (8 + 10 * d) 10 w ys) 150 0 (omega arith)

  pub child_kept : KeepsPath w (set (put (8 + 10 * d) 10 w ys) 150 0)
  child_kept =
      let v = put (8 + 10 * d) 10 w ys in
      let u = set v 150 0 in
      record {
        len = at_same v u put_front 2 (omega arith) ∙ at_before (8 + 10 * d) 10 w ys (omega arith) ten 2 (omega arith);
        bits = part_same v u put_front 3 4 (omega arith) ∙ part_before (8 + 10 * d) 10 w ys (omega arith) ten 3 4 (omega arith);
      }

  pub child_edited : (p : Pointer) → pointer_in ys ≡ p → PointerPacks ys → Slot w → is_data (rec_in w) ≡ false
      → Edited w (set (put (8 + 10 * d) 10 w ys) 150 0) (node (slot_path w) (with_child (children_of (rec_in w)) d p))
  child_edited p e packs s n =
      let v = put (8 + 10 * d) 10 w ys in
      let z = node_tag w n in
      record {
        slot = unmarked v (shaped_put w ys size ten z d two packs s.shaped);
        rec =
            rec_unmarked v ∙ ap (λ (x : Stored). x.rec) (child_put w ys size ten z d two)
            ∙ ap (λ (q : Pointer). node (slot_path w) (with_child (children_in w) d q)) e
            ∙ ap (λ (c : Children). node (slot_path w) (with_child c d p)) (sym (children_are w z));
        added = at_same v (set v 150 0) put_front 1 (omega arith) ∙ at_before (8 + 10 * d) 10 w ys (omega arith) ten 1 (omega arith);
      }

-- The bytes of the record in a slot, by its kind.
use Rattle.std.proofs.Common.{◌≡◌, ℕ, eqb, List, [], ◌∷◌, ◌++◌, get_or, Some, None, sym, ap, ◌∙◌, arith}
use Rattle.std.proofs.lemmas.Bool.{eq-eqb, ne_eqb}
use Rattle.model.specs.Records.{sized_bytes, Value, data_record, pointer_bytes, value_bytes, merkle_bytes, record_bytes}
use Rattle.slot.specs.Parts.{part}
use Rattle.slot.specs.Layout.{pointer_in, slot_path, slot_key, slot_text, slot_value, rec_in}
use Rattle.slot.proofs.Finding.{pick_true, pick_false}
use Rattle.slot.proofs.Children.{node_stored}

data_stored : (w : List ℕ) → (get_or w 0 0 ≡ 0 → ⊥) → rec_in w ≡ data_record (slot_key w) (slot_value w)
unfolding rec_in
data_stored w ne = pick_false _ _ _ (ne_eqb (get_or w 0 0) 0 ne)

pub node_bytes : (w : List ℕ) → get_or w 0 0 ≡ 0 → merkle_bytes (rec_in w) ≡ 1 ∷ (pointer_bytes (pointer_in (part 8 10 w)) ++ pointer_bytes (pointer_in (part 18 10 w)))
unfolding merkle_bytes
node_bytes w e = ap merkle_bytes (node_stored w e)

pub bare_bytes : (w : List ℕ) → (get_or w 0 0 ≡ 0 → ⊥) → (get_or w 0 0 ≡ 2 → ⊥) → merkle_bytes (rec_in w) ≡ 0 ∷ (0 ∷ [])
unfolding merkle_bytes value_bytes
bare_bytes w ne no_value =
    ap merkle_bytes (data_stored w ne) ∙ ap (λ (v : Value). 0 ∷ value_bytes v) (pick_false (eqb (get_or w 0 0) 2) (Some (slot_text w)) None (ne_eqb (get_or w 0 0) 2 no_value))

pub text_bytes : (w : List ℕ) → get_or w 0 0 ≡ 2 → merkle_bytes (rec_in w) ≡ 0 ∷ (1 ∷ sized_bytes (slot_text w))
unfolding merkle_bytes value_bytes
text_bytes w e =
    ap merkle_bytes (data_stored w (λ z. omega arith)) ∙ ap (λ (v : Value). 0 ∷ value_bytes v) (pick_true (eqb (get_or w 0 0) 2) (Some (slot_text w)) None (eq-eqb (get_or w 0 0) 2 e))

pub node_record : (w : List ℕ) → get_or w 0 0 ≡ 0 → record_bytes (rec_in w) ≡ 1 ∷ (sized_bytes (slot_path w) ++ merkle_bytes (rec_in w))
unfolding record_bytes
node_record w e = ap record_bytes (node_stored w e) ∙ ap (λ r. 1 ∷ (sized_bytes (slot_path w) ++ merkle_bytes r)) (sym (node_stored w e))

pub data_record_bytes : (w : List ℕ) → (get_or w 0 0 ≡ 0 → ⊥) → record_bytes (rec_in w) ≡ 0 ∷ (sized_bytes (slot_key w) ++ merkle_bytes (rec_in w))
unfolding record_bytes
data_record_bytes w ne = ap record_bytes (data_stored w ne) ∙ ap (λ r. 0 ∷ (sized_bytes (slot_key w) ++ merkle_bytes r)) (sym (data_stored w ne))

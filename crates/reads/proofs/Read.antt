-- What is read from a slot.
use Rattle.std.proofs.Common.{◌≡◌, ℕ, zero, suc, ◌+◌, ◌*◌, ◌<◌, true, false, not, eqb, List, [], ◌∷◌, get_or, Some, None, sym, refl, ap, ◌∙◌, ⊎_elim, arith}
use Rattle.std.proofs.lemmas.Bool.{ne_eqb, eq-eqb, cases_eq}
use Rattle.model.specs.Records.{Path, Children, Record, Bytes, Value, absent, present, same_bytes, same_value, pick, is_data, children_of, child_on, node, data_record}
use Rattle.slot.specs.Parts.{part}
use Rattle.slot.specs.Layout.{rec_in, children_in, pointer_in, slot_path, slot_key, slot_text, slot_value, number_in}
use Rattle.path.specs.Packs.{path_in}
use Rattle.model.specs.Verifier.{Stored, find, points_at_merkle, found_by_merkle, has_key, has_value}
use Rattle.reads.specs.Points.{points}
use Rattle.slot.proofs.Children.{node_stored}
use Rattle.slot.proofs.Finding.{pick_true, pick_false}

pub data_stored : (w : List ℕ) → (get_or w 0 0 ≡ 0 → ⊥) → rec_in w ≡ data_record (slot_key w) (pick (eqb (get_or w 0 0) 2) (Some (slot_text w)) None)
unfolding rec_in
data_stored w ne = pick_false (eqb (get_or w 0 0) 0) (node (slot_path w) (children_in w)) (data_record (slot_key w) (pick (eqb (get_or w 0 0) 2) (Some (slot_text w)) None)) (ne_eqb (get_or w 0 0) 0 ne)

pub data_is : (w : List ℕ) → (get_or w 0 0 ≡ 0 → ⊥) → is_data (rec_in w) ≡ true
unfolding is_data
data_is w ne = ap is_data (data_stored w ne)

pub data_not : (w : List ℕ) → get_or w 0 0 ≡ 0 → is_data (rec_in w) ≡ false
unfolding is_data
data_not w e = ap is_data (node_stored w e)

pub node_children : (w : List ℕ) → get_or w 0 0 ≡ 0 → children_of (rec_in w) ≡ children_in w
unfolding children_of
node_children w e = ap children_of (node_stored w e)

-- a side of a place
pub pointer_at : (w : List ℕ) (d : ℕ) → d < 2 → get_or w 0 0 ≡ 0 → child_on (children_of (rec_in w)) d ≡ pointer_in (part (8 + 10 * d) 10 w)
unfolding pick
pointer_at w zero h e = ap (λ (t : Children). child_on t 0) (node_children w e)
pointer_at w (suc zero) h e = ap (λ (t : Children). child_on t 1) (node_children w e)
pointer_at w (suc (suc d)) h e = absurd (omega arith)

-- the first word of a slot
pub tag_test : (w : List ℕ) → eqb (get_or w 0 0) 0 ≡ not (is_data (rec_in w))
tag_test w =
    ⊎_elim (λ (z : get_or w 0 0 ≡ 0). eq-eqb (get_or w 0 0) 0 z ∙ sym (ap not (data_not w z)))
    (λ (ne : get_or w 0 0 ≡ 0 → ⊥). ne_eqb (get_or w 0 0) 0 ne ∙ sym (ap not (data_is w ne)))
    (cases_eq (get_or w 0 0) 0)

-- a side by its words
pub pointer_none : (s : List ℕ) → get_or s 0 0 ≡ 0 → pointer_in s ≡ absent
unfolding pointer_in pick
pointer_none s h = rw h refl

pub pointer_some : (s : List ℕ) → (get_or s 0 0 ≡ 0 → ⊥) → pointer_in s ≡ present (path_in (get_or s 1 0) (part 2 4 s)) (number_in (part 6 4 s)) (eqb (get_or s 0 0) 2)
unfolding pointer_in
pointer_some s ne = pick_false (eqb (get_or s 0 0) 0) absent (present (path_in (get_or s 1 0) (part 2 4 s)) (number_in (part 6 4 s)) (eqb (get_or s 0 0) 2)) (ne_eqb (get_or s 0 0) 0 ne)

pub points_none : (p : Path) (s : List ℕ) → get_or s 0 0 ≡ 0 → points p (pointer_in s) ≡ false
unfolding points
points_none p s h = ap (points p) (pointer_none s h)

pub points_some : (p : Path) (s : List ℕ) → (get_or s 0 0 ≡ 0 → ⊥) → points p (pointer_in s) ≡ same_bytes (path_in (get_or s 1 0) (part 2 4 s)) p
unfolding points
points_some p s ne = ap (points p) (pointer_some s ne)

pub merkle_none : (ss : List Stored) (s : List ℕ) → get_or s 0 0 ≡ 0 → points_at_merkle ss (pointer_in s) ≡ false
unfolding points_at_merkle
merkle_none ss s h = ap (points_at_merkle ss) (pointer_none s h)

pub merkle_away : (ss : List Stored) (s : List ℕ) → (get_or s 0 0 ≡ 0 → ⊥) → find (path_in (get_or s 1 0) (part 2 4 s)) ss ≡ [] → points_at_merkle ss (pointer_in s) ≡ false
unfolding points_at_merkle found_by_merkle
merkle_away ss s ne e = ap (points_at_merkle ss) (pointer_some s ne) ∙ ap found_by_merkle e

pub merkle_found : (ss : List Stored) (s : List ℕ) (x : Stored) → (get_or s 0 0 ≡ 0 → ⊥) → find (path_in (get_or s 1 0) (part 2 4 s)) ss ≡ x ∷ [] → points_at_merkle ss (pointer_in s) ≡ x.by_merkle
unfolding points_at_merkle found_by_merkle
merkle_found ss s x ne e = ap (points_at_merkle ss) (pointer_some s ne) ∙ ap found_by_merkle e

-- a key and a value

pub node_key : (w : List ℕ) (k : Bytes) → get_or w 0 0 ≡ 0 → has_key (rec_in w) k ≡ false
unfolding has_key
node_key w k e = ap (λ (r : Record). has_key r k) (node_stored w e)

pub data_key : (w : List ℕ) (k : Bytes) → (get_or w 0 0 ≡ 0 → ⊥) → has_key (rec_in w) k ≡ same_bytes (slot_key w) k
unfolding has_key
data_key w k ne = ap (λ (r : Record). has_key r k) (data_stored w ne)

pub node_value : (w : List ℕ) (v : Value) → get_or w 0 0 ≡ 0 → has_value (rec_in w) v ≡ false
unfolding has_value
node_value w v e = ap (λ (r : Record). has_value r v) (node_stored w e)

data_value : (w : List ℕ) (v : Value) → (get_or w 0 0 ≡ 0 → ⊥) → has_value (rec_in w) v ≡ same_value (slot_value w) v
unfolding has_value
data_value w v ne = ap (λ (r : Record). has_value r v) (data_stored w ne)

data_none : (w : List ℕ) (v : Value) → (get_or w 0 0 ≡ 0 → ⊥) → (get_or w 0 0 ≡ 2 → ⊥) → has_value (rec_in w) v ≡ same_value None v
data_none w v ne n2 = data_value w v ne ∙ ap (λ (x : Value). same_value x v) (pick_false (eqb (get_or w 0 0) 2) (Some (slot_text w)) None (ne_eqb (get_or w 0 0) 2 n2))

data_some : (w : List ℕ) (v : Value) → get_or w 0 0 ≡ 2 → has_value (rec_in w) v ≡ same_value (Some (slot_text w)) v
data_some w v e =
    data_value w v (λ z. omega arith) ∙ ap (λ (x : Value). same_value x v) (pick_true (eqb (get_or w 0 0) 2) (Some (slot_text w)) None (eq-eqb (get_or w 0 0) 2 e))

pub value_none : (w : List ℕ) → (get_or w 0 0 ≡ 0 → ⊥) → not (eqb (get_or w 0 0) 2) ≡ has_value (rec_in w) None
unfolding same_value
value_none w ne =
    ⊎_elim (λ (e : get_or w 0 0 ≡ 2). ap not (eq-eqb (get_or w 0 0) 2 e) ∙ sym (data_some w None e))
    (λ (d : get_or w 0 0 ≡ 2 → ⊥). ap not (ne_eqb (get_or w 0 0) 2 d) ∙ sym (data_none w None ne d))
    (cases_eq (get_or w 0 0) 2)

pub value_other : (w : List ℕ) (t : Bytes) → (get_or w 0 0 ≡ 2 → ⊥) → has_value (rec_in w) (Some t) ≡ false
unfolding same_value
value_other w t d =
    ⊎_elim (λ (e : get_or w 0 0 ≡ 0). node_value w (Some t) e)
    (λ (ne : get_or w 0 0 ≡ 0 → ⊥). data_none w (Some t) ne d)
    (cases_eq (get_or w 0 0) 0)

pub value_some : (w : List ℕ) (t : Bytes) → get_or w 0 0 ≡ 2 → has_value (rec_in w) (Some t) ≡ same_bytes (slot_text w) t
unfolding same_value
value_some w t e = data_some w (Some t) e

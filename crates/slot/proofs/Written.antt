-- What the writes of whole records leave in a slot.
use Rattle.std.proofs.Common.{◌≡◌, ℕ, zero, suc, ◌+◌, ◌*◌, ◌/◌, ◌<◌, ◌≤◌, Bool, true, eqb, List, ◌++◌, length, get_or, take, drop, set, Some, None, sym, refl, ap, ◌∙◌, subst, arith, length-set, length-take, get_or-set_other, get_or-set_same, drop_at}
use lib.Seq.{take-set-le}
use Rattle.std.proofs.lemmas.Bool.{both_ways, ne_eqb}
use Rattle.model.specs.Records.{pick, Bytes, Path, Pointer, Value, Record, data_record, node, path_of, is_data, key_path, merkle_hash}
use Rattle.model.specs.Verifier.{Stored}
use Rattle.path.specs.Packs.{path_in, Packs}
use Rattle.slot.specs.Parts.{part, put}
use Rattle.slot.specs.Layout.{pointer_in, children_in, slot_path, slot_key, slot_text, slot_value, rec_in, stored_in, number_in, bytes_in, PointerPacks, Shaped, Slot}
use Rattle.slot.specs.Edits.{KeepsPath, Edited, Headed}
use Rattle.slot.proofs.Parted.{length_put, part_put, part_before, at_before, part_set_before, part_set_after}
use Rattle.slot.proofs.Fronts.{at_front, part_front, front_put, at_same, part_same, rec_same, shaped_same, unmarked, rec_unmarked}
use Rattle.slot.proofs.Finding.{pick_false}
use Rattle.slot.proofs.Children.{node_stored}
use Rattle.slot.proofs.Texts.{text_front}

pub headed_front : (w w' : List ℕ) → take 7 w' ≡ take 7 w → (kind : ℕ) (by : Bool) (n : ℕ) (ws : List ℕ) → Headed w kind by n ws → Headed w' kind by n ws
headed_front w w' f kind by n ws h = record {
  tag = at_front 7 w w' f 0 (omega arith) ∙ h.tag;
  added = ap (λ (x : ℕ). eqb x 1) (at_front 7 w w' f 1 (omega arith)) ∙ h.added;
  len = at_front 7 w w' f 2 (omega arith) ∙ h.len;
  bits = part_front 7 w w' f 3 4 (omega arith) ∙ h.bits;
}

pub head_written : (w : List ℕ) (kind b : ℕ) (by : Bool) (n : ℕ) (ws : List ℕ) → length w ≡ 190 → length ws ≡ 4 → eqb b 1 ≡ by
    → Headed (put 3 4 (set (set (set w 0 kind) 1 b) 2 n) ws) kind by n ws
head_written w kind b by n ws size four e =
    let w1 = set w 0 kind in
    let w2 = set w1 1 b in
    let w3 = set w2 2 n in
    let l1 = length-set w 0 kind in
    let l2 = length-set w1 1 b in
    let l3 = length-set w2 2 n in
    let in_it : 3 + 4 ≤ length w3 = omega arith in
    let p : (i : ℕ) → i < 3 → get_or (put 3 4 w3 ws) i 0 ≡ get_or w3 i 0 = λ i h. at_before 3 4 w3 ws in_it four i h in
    record {
      tag = p 0 (omega arith) ∙ get_or-set_other w2 2 0 n 0 (λ z. omega arith) ∙ get_or-set_other w1 1 0 b 0 (λ z. omega arith) ∙ get_or-set_same w 0 kind 0 (omega arith);
      added = ap (λ (x : ℕ). eqb x 1) (p 1 (omega arith) ∙ get_or-set_other w2 2 1 n 0 (λ z. omega arith) ∙ get_or-set_same w1 1 b 0 (omega arith)) ∙ e;
      len = p 2 (omega arith) ∙ get_or-set_same w2 2 n 0 (omega arith);
      bits = part_put 3 4 w3 ws in_it four;
    }

-- what a slot stores, by its head and the rest
stored_is : (w : List ℕ) (kind : ℕ) (by : Bool) (n : ℕ) (ws : List ℕ) (r : Record) → Headed w kind by n ws → rec_in w ≡ r → stored_in w ≡ record { rec = r; by_merkle = by }
stored_is w kind by n ws r h e = ap (λ (x : Record). record { rec = x; by_merkle = eqb (get_or w 1 0) 1 }) e ∙ ap (λ (b : Bool). record { rec = r; by_merkle = b }) h.added

path_is : (w : List ℕ) (kind : ℕ) (by : Bool) (n : ℕ) (ws : List ℕ) → Headed w kind by n ws → slot_path w ≡ path_in n ws
path_is w kind by n ws h = ap (λ (k : ℕ). path_in k (part 3 4 w)) h.len ∙ ap (path_in n) h.bits

packs_is : (w : List ℕ) (kind : ℕ) (by : Bool) (n : ℕ) (ws : List ℕ) → Headed w kind by n ws → Packs n ws → Packs (get_or w 2 0) (part 3 4 w)
packs_is w kind by n ws h p = subst (λ (k : ℕ). Packs k (part 3 4 w)) (sym h.len) (subst (Packs n) (sym h.bits) p)

-- ---- a node

module _ (w ls rs : List ℕ) (size : length w ≡ 190) (left-ten : length ls ≡ 10) (right-ten : length rs ≡ 10) (by : Bool) (n : ℕ) (ws : List ℕ) (head : Headed w 0 by n ws) where
  size_left : length (put 8 10 w ls) ≡ 190
  size_left = length_put 8 10 w ls (omega arith) left-ten ∙ size

  in_left : 18 + 10 ≤ length (put 8 10 w ls)
  in_left = let l = size_left in omega arith

  head_node : Headed (put 18 10 (put 8 10 w ls) rs) 0 by n ws
  head_node =
      headed_front w (put 18 10 (put 8 10 w ls) rs)
      (front_put 7 18 10 (put 8 10 w ls) rs (omega arith) (let l = in_left in omega arith) ∙ front_put 7 8 10 w ls (omega arith) (omega arith)) 0 by n ws head

  left_is : part 8 10 (put 18 10 (put 8 10 w ls) rs) ≡ ls
  left_is = part_before 18 10 (put 8 10 w ls) rs in_left right-ten 8 10 (omega arith) ∙ part_put 8 10 w ls (omega arith) left-ten

  right_is : part 18 10 (put 18 10 (put 8 10 w ls) rs) ≡ rs
  right_is = part_put 18 10 (put 8 10 w ls) rs in_left right-ten

  node_is : (p q : Pointer) → pointer_in ls ≡ p → pointer_in rs ≡ q → rec_in (put 18 10 (put 8 10 w ls) rs) ≡ node (path_in n ws) (record { left = p; right = q })
  node_is p q e f =
      let v = put 18 10 (put 8 10 w ls) rs in
      node_stored v head_node.tag
      ∙ ap (λ (x : Path). node x (children_in v)) (path_is v 0 by n ws head_node)
      ∙ ap (λ (x : Pointer). node (path_in n ws) (record { left = x; right = pointer_in (part 18 10 v) })) (ap pointer_in left_is ∙ e)
      ∙ ap (λ (x : Pointer). node (path_in n ws) (record { left = p; right = x })) (ap pointer_in right_is ∙ f)

  two_packs : PointerPacks ls → PointerPacks rs → (d : ℕ) → d < 2 → PointerPacks (part (8 + 10 * d) 10 (put 18 10 (put 8 10 w ls) rs))
  two_packs a b zero h = subst PointerPacks (sym left_is) a
  two_packs a b (suc zero) h = subst PointerPacks (sym right_is) b
  two_packs a b (suc (suc d)) h = absurd (omega arith)

  node_shaped : (p q : Pointer) → pointer_in ls ≡ p → pointer_in rs ≡ q → Packs n ws → PointerPacks ls → PointerPacks rs → Shaped (put 18 10 (put 8 10 w ls) rs)
  unfolding path_of
  node_shaped p q e f packs a b =
      let v = put 18 10 (put 8 10 w ls) rs in
      record {
        size = length_put 18 10 (put 8 10 w ls) rs in_left right-ten ∙ size_left;
        packs = packs_is v 0 by n ws head_node packs;
        path = ap path_of (node_is p q e f) ∙ sym (path_is v 0 by n ws head_node);
        pointers = λ _. two_packs a b;
        room = λ z. absurd (z head_node.tag);
      }

  pub node_written : (p q : Pointer) → pointer_in ls ≡ p → pointer_in rs ≡ q → Packs n ws → PointerPacks ls → PointerPacks rs
      → Slot (set (put 18 10 (put 8 10 w ls) rs) 150 0)
      × (stored_in (set (put 18 10 (put 8 10 w ls) rs) 150 0) ≡ record { rec = node (path_in n ws) (record { left = p; right = q }); by_merkle = by })
  node_written p q e f packs a b =
      let v = put 18 10 (put 8 10 w ls) rs in (
        unmarked v (node_shaped p q e f packs a b),
        stored_is (set v 150 0) 0 by n ws (node (path_in n ws) (record { left = p; right = q })) (headed_front v (set v 150 0) (take-set-le 7 v 150 0 (omega arith)) 0 by n ws head_node)
            (rec_unmarked v ∙ node_is p q e f),
      )

-- ---- a data record

data_is : (w : List ℕ) (kind : ℕ) → get_or w 0 0 ≡ kind → (kind ≡ 0 → ⊥) → rec_in w ≡ data_record (slot_key w) (pick (eqb kind 2) (Some (slot_text w)) None)
unfolding rec_in
data_is w kind e ne =
    pick_false (eqb (get_or w 0 0) 0) (node (slot_path w) (children_in w)) (data_record (slot_key w) (slot_value w)) (ap (λ (x : ℕ). eqb x 0) e ∙ ne_eqb kind 0 ne)
    ∙ ap (λ (x : ℕ). data_record (slot_key w) (pick (eqb x 2) (Some (slot_text w)) None)) e

-- a text written into the first of N words
text_put : (a N : ℕ) (w ts t : List ℕ) → a + length ts ≤ length w → length t ≤ 8 * length ts → length ts ≤ N → take (length t) (bytes_in ts) ≡ t
    → take (length t) (bytes_in (part a N (put a (length ts) w ts))) ≡ t
text_put a N w ts t h l m e =
    let la : length (take a w) ≡ a = simp length-take (omega arith) in
    ap (λ (x : List ℕ). take (length t) (bytes_in (take N x))) (drop_at (take a w) (ts ++ drop (length ts) (drop a w)) a la)
    ∙ text_front N t ts (drop (length ts) (drop a w)) l m e

module _ (w ts key : List ℕ) (size : length w ≡ 190) (few : length key ≤ 64) (fits : length ts ≡ (length key + 7) / 8) (holds : take (length key) (bytes_in ts) ≡ key)
    (by : Bool) (n : ℕ) (ws : List ℕ) (head : Headed w 1 by n ws) where
  size_2 : length (set w 8 (length key)) ≡ 190
  size_2 = length-set w 8 (length key) ∙ size

  in_2 : 9 + length ts ≤ length (set w 8 (length key))
  in_2 = let l = size_2 in omega arith

  size_3 : length (put 9 (length ts) (set w 8 (length key)) ts) ≡ 190
  size_3 = length_put 9 (length ts) (set w 8 (length key)) ts in_2 refl ∙ size_2

  head_key : Headed (set (put 9 (length ts) (set w 8 (length key)) ts) 17 0) 1 by n ws
  head_key =
      let w2 = set w 8 (length key) in
      let w3 = put 9 (length ts) w2 ts in
      let s = size_2 in
      headed_front w (set w3 17 0) (take-set-le 7 w3 17 0 (omega arith) ∙ front_put 7 9 (length ts) w2 ts (omega arith) (omega arith) ∙ take-set-le 7 w 8 (length key) (omega arith)) 1 by n ws head

  key_length : get_or (set (put 9 (length ts) (set w 8 (length key)) ts) 17 0) 8 0 ≡ length key
  key_length =
      let w2 = set w 8 (length key) in
      get_or-set_other (put 9 (length ts) w2 ts) 17 8 0 0 (λ z. omega arith) ∙ at_before 9 (length ts) w2 ts in_2 refl 8 (omega arith) ∙ get_or-set_same w 8 (length key) 0 (omega arith)

  key_is : slot_key (set (put 9 (length ts) (set w 8 (length key)) ts) 17 0) ≡ key
  key_is =
      let w2 = set w 8 (length key) in
      let w3 = put 9 (length ts) w2 ts in
      ap (λ (k : ℕ). take k (bytes_in (part 9 8 (set w3 17 0)))) key_length
      ∙ ap (λ (l : List ℕ). take (length key) (bytes_in l)) (part_set_before 9 8 17 w3 0 (omega arith))
      ∙ text_put 9 8 w2 ts key in_2 (omega arith) (omega arith) holds

  new_key : rec_in (set (put 9 (length ts) (set w 8 (length key)) ts) 17 0) ≡ data_record key None
  unfolding pick
  new_key =
      let v = set (put 9 (length ts) (set w 8 (length key)) ts) 17 0 in
      data_is v 1 head_key.tag (λ z. omega arith) ∙ ap (λ (k : Bytes). data_record k None) key_is

  key_shaped : Packs n ws → path_in n ws ≡ key_path key → Shaped (set (put 9 (length ts) (set w 8 (length key)) ts) 17 0)
  unfolding path_of
  key_shaped packs e =
      let w3 = put 9 (length ts) (set w 8 (length key)) ts in
      let v = set w3 17 0 in
      let s = size_3 in
      record {
        size = length-set w3 17 0 ∙ size_3;
        packs = packs_is v 1 by n ws head_key packs;
        path = ap path_of new_key ∙ sym e ∙ sym (path_is v 1 by n ws head_key);
        pointers = λ z. let o = head_key.tag in absurd (omega arith);
        room = λ _. (
          subst (λ (k : ℕ). k ≤ 64) (sym key_length) few,
          subst (λ (k : ℕ). k ≤ 1024) (sym (get_or-set_same w3 17 0 0 (omega arith))) (omega arith),
        );
      }

  pub key_slot : Packs n ws → path_in n ws ≡ key_path key → Slot (set (set (put 9 (length ts) (set w 8 (length key)) ts) 17 0) 150 0)
  key_slot packs e = unmarked (set (put 9 (length ts) (set w 8 (length key)) ts) 17 0) (key_shaped packs e)

  pub key_stored : stored_in (set (set (put 9 (length ts) (set w 8 (length key)) ts) 17 0) 150 0) ≡ record { rec = data_record key None; by_merkle = by }
  key_stored =
      let v = set (put 9 (length ts) (set w 8 (length key)) ts) 17 0 in
      stored_is (set v 150 0) 1 by n ws (data_record key None) (headed_front v (set v 150 0) (take-set-le 7 v 150 0 (omega arith)) 1 by n ws head_key) (rec_unmarked v ∙ new_key)

-- ---- a value

data_tag : (w : List ℕ) → is_data (rec_in w) ≡ true → get_or w 0 0 ≡ 0 → ⊥
unfolding is_data
data_tag w h z = both_ways (is_data (rec_in w)) (ap is_data (node_stored w z)) h

module _ (w ts t : List ℕ) (size : length w ≡ 190) (few : length t ≤ 1024) (fits : length ts ≡ (length t + 7) / 8) (holds : take (length t) (bytes_in ts) ≡ t) where
  sizes : length (set (set w 0 2) 17 (length t)) ≡ 190
  sizes = length-set (set w 0 2) 17 (length t) ∙ length-set w 0 2 ∙ size

  in_18 : 18 + length ts ≤ length (set (set w 0 2) 17 (length t))
  in_18 = let s = sizes in omega arith

  -- a word before the value, but for the kind
  word_same : (i : ℕ) → 0 < i → i < 17 → get_or (put 18 (length ts) (set (set w 0 2) 17 (length t)) ts) i 0 ≡ get_or w i 0
  word_same i a b =
      at_before 18 (length ts) (set (set w 0 2) 17 (length t)) ts in_18 refl i (omega arith)
      ∙ get_or-set_other (set w 0 2) 17 i (length t) 0 (λ z. omega arith) ∙ get_or-set_other w 0 i 2 0 (λ z. omega arith)

  words_same : (a k : ℕ) → 0 < a → a + k ≤ 17 → part a k (put 18 (length ts) (set (set w 0 2) 17 (length t)) ts) ≡ part a k w
  words_same a k g h =
      part_before 18 (length ts) (set (set w 0 2) 17 (length t)) ts in_18 refl a k (omega arith)
      ∙ part_set_before a k 17 (set w 0 2) (length t) h ∙ part_set_after a k 0 w 2 g

  tag_2 : get_or (put 18 (length ts) (set (set w 0 2) 17 (length t)) ts) 0 0 ≡ 2
  tag_2 =
      at_before 18 (length ts) (set (set w 0 2) 17 (length t)) ts in_18 refl 0 (omega arith)
      ∙ get_or-set_other (set w 0 2) 17 0 (length t) 0 (λ z. omega arith) ∙ get_or-set_same w 0 2 0 (omega arith)

  text_length : get_or (put 18 (length ts) (set (set w 0 2) 17 (length t)) ts) 17 0 ≡ length t
  text_length =
      let l = length-set w 0 2 in
      at_before 18 (length ts) (set (set w 0 2) 17 (length t)) ts in_18 refl 17 (omega arith) ∙ get_or-set_same (set w 0 2) 17 (length t) 0 (omega arith)

  value_rec : rec_in (put 18 (length ts) (set (set w 0 2) 17 (length t)) ts) ≡ data_record (slot_key w) (Some t)
  unfolding pick
  value_rec =
      let u = put 18 (length ts) (set (set w 0 2) 17 (length t)) ts in
      data_is u 2 tag_2 (λ z. omega arith)
      ∙ ap (λ (k : ℕ). data_record (take k (bytes_in (part 9 8 u))) (Some (slot_text u))) (word_same 8 (omega arith) (omega arith))
      ∙ ap (λ (l : List ℕ). data_record (take (get_or w 8 0) (bytes_in l)) (Some (slot_text u))) (words_same 9 8 (omega arith) (omega arith))
      ∙ ap (λ (k : ℕ). data_record (slot_key w) (Some (take k (bytes_in (part 18 128 u))))) text_length
      ∙ ap (λ (x : Bytes). data_record (slot_key w) (Some x)) (text_put 18 128 (set (set w 0 2) 17 (length t)) ts t in_18 (omega arith) (omega arith) holds)

  value_shaped : Shaped w → is_data (rec_in w) ≡ true → Shaped (put 18 (length ts) (set (set w 0 2) 17 (length t)) ts)
  unfolding path_of
  value_shaped s d =
      let u = put 18 (length ts) (set (set w 0 2) 17 (length t)) ts in
      let l2 = word_same 2 (omega arith) (omega arith) in
      let b = words_same 3 4 (omega arith) (omega arith) in
      record {
        size = length_put 18 (length ts) (set (set w 0 2) 17 (length t)) ts in_18 refl ∙ sizes;
        packs = subst (λ (k : ℕ). Packs k (part 3 4 u)) (sym l2) (subst (Packs (get_or w 2 0)) (sym b) s.packs);
        path =
            ap path_of value_rec ∙ sym (ap path_of (data_is w (get_or w 0 0) refl (data_tag w d))) ∙ s.path
            ∙ sym (ap (λ (k : ℕ). path_in k (part 3 4 u)) l2 ∙ ap (path_in (get_or w 2 0)) b);
        pointers = λ z. let o = tag_2 in absurd (omega arith);
        room = λ _. (
          subst (λ (k : ℕ). k ≤ 64) (sym (word_same 8 (omega arith) (omega arith))) (s.room (data_tag w d)).0,
          subst (λ (k : ℕ). k ≤ 1024) (sym text_length) few,
        );
      }

  pub value_kept : KeepsPath w (set (put 18 (length ts) (set (set w 0 2) 17 (length t)) ts) 150 0)
  value_kept =
      let u = put 18 (length ts) (set (set w 0 2) 17 (length t)) ts in
      let f = take-set-le 146 u 150 0 (omega arith) in
      record {
        len = at_same u (set u 150 0) f 2 (omega arith) ∙ word_same 2 (omega arith) (omega arith);
        bits = part_same u (set u 150 0) f 3 4 (omega arith) ∙ words_same 3 4 (omega arith) (omega arith);
      }

  pub value_edited : Slot w → is_data (rec_in w) ≡ true → Edited w (set (put 18 (length ts) (set (set w 0 2) 17 (length t)) ts) 150 0) (data_record (slot_key w) (Some t))
  value_edited s d =
      let u = put 18 (length ts) (set (set w 0 2) 17 (length t)) ts in
      record {
        slot = unmarked u (value_shaped s.shaped d);
        rec = rec_unmarked u ∙ value_rec;
        added = at_same u (set u 150 0) (take-set-le 146 u 150 0 (omega arith)) 1 (omega arith) ∙ word_same 1 (omega arith) (omega arith);
      }

-- ---- a hash

module _ (w hash : List ℕ) (size : length w ≡ 190) (four : length hash ≡ 4) where
  hash_front : take 146 (set (put 146 4 w hash) 150 1) ≡ take 146 w
  hash_front = take-set-le 146 (put 146 4 w hash) 150 1 (omega arith) ∙ front_put 146 146 4 w hash (omega arith) (omega arith)

  pub hash_kept : KeepsPath w (set (put 146 4 w hash) 150 1)
  hash_kept =
      let u = set (put 146 4 w hash) 150 1 in
      record { len = at_same w u hash_front 2 (omega arith); bits = part_same w u hash_front 3 4 (omega arith) }

  pub hash_edited : Slot w → number_in hash ≡ merkle_hash (rec_in w) → Edited w (set (put 146 4 w hash) 150 1) (rec_in w)
  hash_edited s e =
      let v = put 146 4 w hash in
      let u = set v 150 1 in
      let same = rec_same w u hash_front in
      record {
        slot = record {
          shaped = shaped_same w u hash_front (length-set v 150 1 ∙ length_put 146 4 w hash (omega arith) four) s.shaped;
          marked = λ _. ap number_in (part_set_before 146 4 150 v 1 (omega arith) ∙ part_put 146 4 w hash (omega arith) four) ∙ e ∙ ap merkle_hash (sym same);
        };
        rec = same;
        added = at_same w u hash_front 1 (omega arith);
      }

-- ---- a key, and then its value

key_first : (j k : Bytes) (v u : Value) → data_record j v ≡ data_record k u → j ≡ k
key_first j k v u e = cc

pub key_then_value : (w w' : List ℕ) (key t : Bytes) (by : Bool) → stored_in w ≡ record { rec = data_record key None; by_merkle = by }
    → (is_data (rec_in w) ≡ true → Edited w w' (data_record (slot_key w) (Some t)))
    → Slot w' × (stored_in w' ≡ record { rec = data_record key (Some t); by_merkle = by })
unfolding is_data
key_then_value w w' key t by e f =
    let r : rec_in w ≡ data_record key None = ap (λ (x : Stored). x.rec) e in
    let d : is_data (rec_in w) ≡ true = ap is_data r in
    let E = f d in
    let k : slot_key w ≡ key = key_first (slot_key w) key _ None (sym (data_is w (get_or w 0 0) refl (data_tag w d)) ∙ r) in (
      E.slot,
      ap (λ (x : Record). record { rec = x; by_merkle = eqb (get_or w' 1 0) 1 }) (E.rec ∙ ap (λ (x : Bytes). data_record x (Some t)) k)
          ∙ ap (λ (b : Bool). record { rec = data_record key (Some t); by_merkle = b }) (ap (λ (x : ℕ). eqb x 1) E.added ∙ ap (λ (x : Stored). x.by_merkle) e),
    )

-- Get and Set by what is found of the key.
use Rattle.std.proofs.Common.{◌≡◌, ℕ, true, false, List, [], ◌∷◌, get_or, Some, sym, refl, ap, ◌∙◌, ⊎_elim}
use Rattle.std.proofs.lemmas.Bool.{both_ways, cases_eq}
use Rattle.model.specs.Records.{Bytes, Value, Record, data_record, is_data, key_path, pick}
use Rattle.model.specs.Verifier.{Verifier, Stored, fails, goes_to, find, has_key, has_value, verifier_step, get, set, get_step, set_step, with_store, updated}
use Rattle.path.proofs.Same.{same_true}
use Rattle.slot.specs.Layout.{rec_in, slot_key}
use Rattle.reads.proofs.Read.{data_stored, data_is}
use Rattle.slot.proofs.Children.{node_stored}
use Rattle.verifier.specs.Keys.{OtherKey}

module _ (t : ℕ) (v : Verifier) (k : Bytes) where
  none_got : (w : Value) (xs : List Stored) → OtherKey xs k → get_step v k w xs ≡ fails
  unfolding get_step pick
  none_got w [] o = refl
  none_got w (x ∷ xs) o = rw o refl

  pub get_fails : (w : Value) → OtherKey (find (key_path k) v.store) k → verifier_step t v (get k w) ≡ fails
  unfolding verifier_step
  get_fails w o = none_got w (find (key_path k) v.store) o

  none_set : (w : Bytes) (xs : List Stored) → OtherKey xs k → set_step v k w xs ≡ fails
  unfolding set_step pick
  none_set w [] o = refl
  none_set w (x ∷ xs) o = rw o refl

  pub set_fails : (w : Bytes) → OtherKey (find (key_path k) v.store) k → verifier_step t v (set k w) ≡ fails
  unfolding verifier_step
  set_fails w o = none_set w (find (key_path k) v.store) o

  module _ (x : Stored) (some : find (key_path k) v.store ≡ x ∷ []) (key : has_key x.rec k ≡ true) where
    pub other_value : (w : Value) → false ≡ has_value x.rec w → verifier_step t v (get k w) ≡ fails
    unfolding verifier_step get_step pick
    other_value w e = rw (some, key, ← e) refl

    pub gets : (w : Value) → true ≡ has_value x.rec w → verifier_step t v (get k w) ≡ goes_to v
    unfolding verifier_step get_step pick
    gets w e = rw (some, key, ← e) refl

    pub sets : (w : Bytes) → verifier_step t v (set k w) ≡ goes_to (with_store v (updated (data_record k (Some w)) v.store))
    unfolding verifier_step set_step pick
    sets w = rw (some, key) refl

-- a slot that has a key has a data record with that key
pub key_of_slot : (w : List ℕ) (k : Bytes) → has_key (rec_in w) k ≡ true → (is_data (rec_in w) ≡ true) × (slot_key w ≡ k)
unfolding has_key
key_of_slot w k h =
    ⊎_elim (λ (z : get_or w 0 0 ≡ 0). absurd (both_ways true (sym (sym (ap (λ (r : Record). has_key r k) (node_stored w z)) ∙ h)) refl))
    (λ (ne : get_or w 0 0 ≡ 0 → ⊥). (data_is w ne, same_true (slot_key w) k (sym (ap (λ (r : Record). has_key r k) (data_stored w ne)) ∙ h)))
    (cases_eq (get_or w 0 0) 0)

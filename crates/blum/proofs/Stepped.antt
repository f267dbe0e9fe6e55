-- The steps by Blum, by what was asked.
use Rattle.std.proofs.Common.{◌≡◌, ℕ, Bool, true, false, List, [], ◌∷◌, is_err, Ok, Err, Result, sym, refl, ap, ◌∙◌}
use Rattle.std.proofs.lemmas.Bool.{both_ways}
use Rattle.model.specs.Records.{Bytes, Path, Record}
use Rattle.model.specs.Verifier.{Stored, Timestamp, Verifier, Step, fails, goes, can_add_blum, advance_clock, just_after, with_record, can_evict_blum, evict_blum_step, verifier_step, add_blum}
use Rattle.slot.proofs.Finding.{pick_true, pick_false}
use Rattle.conditions.specs.declared.parts.Failure.{Failure}
use Rattle.blum_conditions.specs.Evicts.{evictable}
use Rattle.blum.specs.Evicts.{without_at, Evicts}

module _ (v : Verifier) (x : Record) (m : Timestamp) (t j : ℕ) where
  pub add_fails : can_add_blum v x m ≡ false → verifier_step t v (add_blum x m j) ≡ fails
  unfolding verifier_step
  add_fails e = pick_false _ _ _ e

  pub adds : can_add_blum v x m ≡ true
      → verifier_step t v (add_blum x m j) ≡ goes (with_record (advance_clock v (just_after m)) x false) (record { rec = x; timestamp = m; verifier = j } ∷ []) [] []
  unfolding verifier_step
  adds e = pick_true _ _ _ e

module _ (v : Verifier) (p : Path) (m : Timestamp) (by : Bool) (t : ℕ) where
  pub evict_fails : (xs : List Stored) → evictable v p m by xs ≡ false → evict_blum_step v t p m by xs ≡ fails
  unfolding evictable evict_blum_step
  evict_fails [] e = refl
  evict_fails (x ∷ xs) e = pick_false _ _ _ e

  pub evicts : (x : Stored) (xs : List Stored) → xs ≡ x ∷ [] → can_evict_blum v p m by x ≡ true
      → evict_blum_step v t p m by xs ≡ goes (without_at v p m) [] (record { rec = x.rec; timestamp = m; verifier = t } ∷ []) []
  unfolding evict_blum_step
  evicts x xs e can = ap (evict_blum_step v t p m by) e ∙ pick_true _ _ _ can

-- a failure, as code answers it
pub wrong : (n : ℕ) (b : List ℕ) (r : Result (List ℕ) Failure) (k : Bytes) (m : Timestamp) (s : Step) → is_err r ≡ true → s ≡ fails → Evicts n b r k m s
wrong n b (Err f) k m s e h = h
wrong n b (Ok x) k m s e h = absurd (both_ways true (sym e) refl)

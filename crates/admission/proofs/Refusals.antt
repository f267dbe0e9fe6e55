-- Which refusal it is, by the first test that fails.
use Rattle.std.proofs.Common.{◌≡◌, ℕ, ◌+◌, ◌-◌, ◌^◌, ◌<◌, ◌≤◌, min, true, false, ltb, leb, refl, arith}
use Rattle.std.proofs.Math.Bool.{and-false}
use Rattle.std.proofs.lemmas.Bool.{lt-ltb, le-leb, lt-leb}
use Rattle.model.specs.Records.{pick}
use Rattle.model.specs.Verifier.{Entry}
use Rattle.model.specs.Monitor.{Limits, State, logged, verifier_at, entry_code, good_entry, epoch_named, fits_32, in_range, store_full, too_far_ahead, refusal}

module _ (l : Limits) (s : State) (t : ℕ) (e : Entry) where
  out : in_range l s t e ≡ false → refusal l s (logged t e) ≡ 2
  unfolding refusal pick
  out h = rw h refl

  pub no_verifier : ltb t l.verifiers ≡ false → refusal l s (logged t e) ≡ 2
  no_verifier h = out (rw h refl)

  pub beyond : fits_32 (epoch_named (verifier_at s.verifiers t) e) ≡ false → refusal l s (logged t e) ≡ 2
  beyond h = out (rw (h, and-false) refl)

  module _ (within : t < l.verifiers) (can : l.supports (entry_code e) ≡ true) (good : good_entry l e ≡ true) (fits : fits_32 (epoch_named (verifier_at s.verifiers t) e) ≡ true) where
    inside : in_range l s t e ≡ true
    inside = rw (lt-ltb t l.verifiers within, can, good, fits) refl

    pub stopped_before : s.stopped ≡ true → refusal l s (logged t e) ≡ 3
    unfolding refusal pick
    stopped_before h = rw (inside, h) refl

    pub no_room : s.stopped ≡ false → store_full l (verifier_at s.verifiers t) e ≡ true → refusal l s (logged t e) ≡ 4
    unfolding refusal pick
    no_room h f = rw (inside, h, f) refl

    pub too_far : s.stopped ≡ false → store_full l (verifier_at s.verifiers t) e ≡ false → too_far_ahead l s (epoch_named (verifier_at s.verifiers t) e) ≡ true → refusal l s (logged t e) ≡ 5
    unfolding refusal pick
    too_far h f g = rw (inside, h, f, g) refl

    pub taken : s.stopped ≡ false → store_full l (verifier_at s.verifiers t) e ≡ false → too_far_ahead l s (epoch_named (verifier_at s.verifiers t) e) ≡ false → refusal l s (logged t e) ≡ 0
    unfolding refusal pick
    taken h f g = rw (inside, h, f, g) refl

-- an epoch is too far ahead, as far as words go
pub far : (c e x r : ℕ) → r ≡ min (c + e) (2 ^ 64 - 1) → x ≤ 4294967295 → r ≤ x → leb (c + e) x ≡ true
far c e x r h small le = le-leb (c + e) x (omega arith)

pub near : (c e x r : ℕ) → r ≡ min (c + e) (2 ^ 64 - 1) → x ≤ 4294967295 → x < r → leb (c + e) x ≡ false
near c e x r h small lt = lt-leb (c + e) x (omega arith)

-- The epoch that an entry names.
use Rattle.std.proofs.Common.{◌≡◌, ℕ, suc, ◌+◌, ◌-◌, ◌^◌, ◌<◌, min, true, sym, ap, ◌∙◌, ⊎_elim, arith}
use Rattle.std.proofs.lemmas.Bool.{cases_lt, ltb-true, le-ltb}
use Rattle.model.specs.Monitor.{fits_32}
use Rattle.admission.specs.Stand.{Named}

pub named_same : (r e : ℕ) → r ≡ e → Named r e
named_same r e h = record { fits = ap fits_32 h; is = λ _. h }

-- the next epoch, as far as words go
pub named_next : (r e : ℕ) → r ≡ min (e + 1) (2 ^ 64 - 1) → Named r (suc e)
named_next r e h =
    ⊎_elim
    (λ (lt : e + 1 < 4294967296). named_same r (suc e) (omega arith))
    (λ ge. record {
      fits = le-ltb r 4294967296 (omega arith) ∙ sym (le-ltb (suc e) 4294967296 (omega arith));
      is = λ f. absurd (no_fit r (omega arith) f);
    })
    (cases_lt (e + 1) 4294967296)
  where
    no_fit : (n : ℕ) → 4294967295 < n → fits_32 n ≡ true → ⊥
    no_fit n big f = let h = ltb-true n 4294967296 f in omega arith

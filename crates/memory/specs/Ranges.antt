-- Which limits there may be, and what memory they need.
use Rattle.std.specs.Prelude.{◌≡◌, ℕ, ◌≤◌, Bool, false, ◌&&◌, List, [], nat_le}
use Rattle.model.specs.Monitor as model
use Rattle.model.specs.Program.{words_needed}
use Rattle.memory.specs.declared.limits.Limits.{Limits}

-- the limits that a program is given, with what else the definitions have among them
abbrev pub with_rest : (ℕ → Bool) → List ℕ → Limits → model.Limits
with_rest can secret x = record { supports = can; verifiers = x.verifiers; places = x.places; epochs = x.epochs; secret = secret }

-- the program's limits are those of the definitions
pub record Agrees (x : Limits) (l : model.Limits) : Type 0 where
  pub verifiers : l.verifiers ≡ x.verifiers
  pub places : l.places ≡ x.places
  pub epochs : l.epochs ≡ x.epochs

abbrev pub words_for : Limits → ℕ
words_for x = words_needed (with_rest (λ k. false) [] x)

-- from 1 to 64 verifiers, 2 to 32768 places, 2 to 16 epochs under way
abbrev pub in_bounds : Limits → Bool
in_bounds x = (nat_le 1 x.verifiers && nat_le x.verifiers 64) && ((nat_le 2 x.places && nat_le x.places 32768) && (nat_le 2 x.epochs && nat_le x.epochs 16))

pub record Bounded (x : Limits) : Type 0 where
  pub some_verifiers : 1 ≤ x.verifiers
  pub most_verifiers : x.verifiers ≤ 64
  pub some_places : 2 ≤ x.places
  pub most_places : x.places ≤ 32768
  pub some_epochs : 2 ≤ x.epochs
  pub most_epochs : x.epochs ≤ 16

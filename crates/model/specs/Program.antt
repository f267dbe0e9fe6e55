-- What is promised of a program that keeps the monitor in memory: its memory, which is numbers; what an event leaves there; what it is answered.
-- Assumes nothing: these are definitions.
use Rattle.std.specs.Prelude.{◌≡◌, ℕ, ◌+◌, ◌*◌, ◌<◌, ◌≤◌, Bool, true, List, [], ◌∷◌, length}
use Rattle.model.specs.Monitor.{Limits, Event, Answer, refusal, answer, state}
use Rattle.model.specs.Readable.{all_below, all_readable}

pub record Monitor : Type 0 where
  pub opened : Limits → List ℕ
  pub called : List ℕ → Event → List ℕ
  pub says : List ℕ → Event → Answer

unfoldable pub memory : Monitor → Limits → List Event → List ℕ
memory f l [] = f.opened l
memory f l (e ∷ es) = f.called (memory f l es) e

pub record GoodLimits (can : ℕ → Bool) (l : Limits) : Type 0 where
  pub some_verifiers : 1 ≤ l.verifiers
  pub most_verifiers : l.verifiers ≤ 64
  pub some_places : 2 ≤ l.places
  pub most_places : l.places ≤ 32768
  pub some_epochs : 2 ≤ l.epochs
  pub most_epochs : l.epochs ≤ 16
  pub secret_length : length l.secret ≡ 32
  pub secret_bytes : all_below 256 l.secret ≡ true
  pub entries : (k : ℕ) → l.supports k ≡ can k

-- words of memory that limits need
abbrev pub words_needed : Limits → ℕ
words_needed l = 192 * (l.verifiers * l.places) + 64 * l.verifiers + 32 * l.epochs + 256

-- after any log, each event is answered by the rules
unfoldable pub Right : (ℕ → Bool) → Monitor → Type 0
Right can f = (l : Limits) (es : List Event) (e : Event) → GoodLimits can l → all_readable (e ∷ es) ≡ true → f.says (memory f l es) e ≡ answer l (state l es) e

-- a refusal leaves the memory as it was, number for number
unfoldable pub RefusalKeeps : (ℕ → Bool) → Monitor → Type 0
RefusalKeeps can f =
    (l : Limits) (es : List Event) (e : Event) → GoodLimits can l → all_readable (e ∷ es) ≡ true → 0 < refusal l (state l es) e → f.called (memory f l es) e ≡ memory f l es

-- memory is never more than the limits say, in numbers of 64 bits
unfoldable pub EnoughMemory : (ℕ → Bool) → Monitor → Type 0
EnoughMemory can f =
    (l : Limits) (es : List Event) → GoodLimits can l → all_readable es ≡ true → (length (memory f l es) ≤ words_needed l) × (all_below 18446744073709551616 (memory f l es) ≡ true)

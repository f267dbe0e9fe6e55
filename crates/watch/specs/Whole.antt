-- A program whose functions do what the contracts of `open`, `take` and `take_cut` say, and what is promised of it after any log.
use Rattle.std.specs.Prelude.{◌≡◌, ℕ, List}
use Rattle.model.specs.Records.{Bytes}
use Rattle.model.specs.Monitor.{Limits, malformed, new_state, state, Event}
use Rattle.model.specs.Order.{all_entries}
use Rattle.model.specs.Program.{Monitor, GoodLimits, Right, RefusalKeeps, EnoughMemory}
use Rattle.model.specs.Wire.{read}
use Rattle.path.specs.Packs.{Fit}
use Rattle.wire.specs.declared.parts.Answer.{Answer}
use Rattle.wire.specs.Meaning.{answer_of}
use Rattle.memory.specs.Keeping.{Kept}
use Rattle.watch.specs.Promise.{IsRefused, Answers}

-- what an event of these bytes leaves and is answered: the clauses of `take`
pub record Takes (m : List ℕ) (bs : Bytes) (m' : List ℕ) (r : Answer) : Type 0 where
  pub same : IsRefused r → m' ≡ m
  pub fit : Fit m → Fit m'
  pub answers : (l : Limits) (es : List Event) → GoodLimits all_entries l → Kept l m (state l es) → Answers l es (read bs) m' r

-- an event is bytes, and then it is taken; or it was cut short by the log's end, at any place, and then nothing is written
pub record ByContract (f : Monitor) : Type 0 where
  pub opens : (l : Limits) → GoodLimits all_entries l → Kept l (f.opened l) (new_state l)
  pub opens_fit : (l : Limits) → GoodLimits all_entries l → Fit (f.opened l)
  pub takes : (m : List ℕ) (bs : Bytes) → (r : Answer) × ((f.says m (read bs) ≡ answer_of r) × Takes m bs (f.called m (read bs)) r)
  pub cuts : (m : List ℕ) (n : ℕ) → f.called m (malformed n) ≡ m
  pub cut_answers : (m : List ℕ) (n : ℕ) → (r : Answer) × ((f.says m (malformed n) ≡ answer_of r)
      × ((l : Limits) (es : List Event) → GoodLimits all_entries l → Kept l m (state l es) → Answers l es (malformed n) m r))

-- so after any log each event is answered by the rules, a refusal leaves the memory as it was, and memory is never more than the limits say
abbrev pub Faithful : Type 0
Faithful = (f : Monitor) → ByContract f → Right all_entries f × RefusalKeeps all_entries f × EnoughMemory all_entries f

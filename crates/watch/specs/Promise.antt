-- What is promised of one event over memory that keeps a monitor.
use Rattle.std.specs.Prelude.{◌≡◌, ℕ, List, ◌∷◌}
use Rattle.model.specs.Monitor.{Limits, Event, State, answer, after, state}
use Rattle.model.specs.Order.{OneOrderOrCollision}
use Rattle.wire.specs.declared.parts.Answer.{Answer}
use Rattle.wire.specs.Meaning.{answer_of}
use Rattle.memory.specs.Keeping.{Kept}
pub use Rattle.finish.specs.Finishing.{IsRefused}

-- the answer is what the rules answer, and the memory keeps the state that they leave
pub record Responds (l : Limits) (s : State) (e : Event) (m : List ℕ) (r : Answer) : Type 0 where
  pub answered : answer_of r ≡ answer l s e
  pub kept : Kept l m (after l s e)

-- the same after a log; and all calls in certified epochs are in one order, or two things in this very log collide
pub record Answers (l : Limits) (es : List Event) (e : Event) (m : List ℕ) (r : Answer) : Type 0 where
  pub answered : answer_of r ≡ answer l (state l es) e
  pub kept : Kept l m (state l (e ∷ es))
  pub one_order : OneOrderOrCollision (state l (e ∷ es))

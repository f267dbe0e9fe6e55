-- Clocks that move, and epochs.
use Rattle.std.proofs.Common.{◌≡◌, ℕ, suc, ◌<◌, ◌≤◌, true, false, eqb, List, [], refl, ap, ◌∙◌, subst, arith}
use Rattle.std.proofs.lemmas.Bool.{le-ltb, lt-ltb, or_from, and_right}
use Rattle.model.specs.Records.{Path, pick}
use Rattle.model.specs.Verifier.{Timestamp, Verifier, fails, goes_to, earlier, advance_clock, verifier_step, next_epoch, verify_epoch}
use Rattle.slot.proofs.Finding.{pick_true, pick_false}
use Rattle.block.specs.Blocks.{Keeps, with_clock, with_done}

-- a clock and a path, named otherwise
pub clock_is : (n : ℕ) (b : List ℕ) (v : Verifier) (m o : Timestamp) (p q : Path) → m ≡ o → p ≡ q → Keeps n b (with_clock v m p) → Keeps n b (with_clock v o q)
clock_is n b v m o p q e f k = subst (λ (x : Path). Keeps n b (with_clock v o x)) f (subst (λ (x : Timestamp). Keeps n b (with_clock v x p)) e k)

not_earlier : (m : Timestamp) → earlier m m ≡ false
not_earlier m = or_from _ _ (le-ltb m.epoch m.epoch (omega arith)) (and_right (eqb m.epoch m.epoch) _ (le-ltb m.counter m.counter (omega arith)))

-- what is left where the clock is at o then
at_clock : Verifier → Timestamp → Verifier
at_clock v o = with_clock v o (pick (earlier v.clock o) [] v.last_evicted)

pub moves : (v : Verifier) (m : Timestamp) → earlier v.clock m ≡ true → advance_clock v m ≡ with_clock v m []
unfolding at_clock
moves v m e = ap (at_clock v) (pick_true (earlier v.clock m) m v.clock e) ∙ ap (with_clock v m) (pick_true (earlier v.clock m) [] v.last_evicted e)

pub stays : (v : Verifier) (m : Timestamp) → earlier v.clock m ≡ false → advance_clock v m ≡ v
unfolding at_clock
stays v m e = ap (at_clock v) (pick_false (earlier v.clock m) m v.clock e) ∙ ap (with_clock v v.clock) (pick_false (earlier v.clock v.clock) [] v.last_evicted (not_earlier v.clock))

-- epochs
module _ (t : ℕ) (v : Verifier) where
  pub goes_on : verifier_step t v next_epoch ≡ goes_to (with_clock v (record { epoch = suc v.clock.epoch; counter = 0 }) [])
  unfolding verifier_step
  goes_on = refl

  pub clock_behind : v.clock.epoch ≤ v.done → verifier_step t v verify_epoch ≡ fails
  unfolding verifier_step
  clock_behind h = pick_false _ _ _ (le-ltb v.done v.clock.epoch h)

  pub epoch_done : v.done < v.clock.epoch → verifier_step t v verify_epoch ≡ goes_to (with_done v (suc v.done))
  unfolding verifier_step
  epoch_done h = pick_true _ _ _ (lt-ltb v.done v.clock.epoch h)

-- All of a monitor in lent words: 256 of a header, 32 for the sums of each epoch under way, and a block for each verifier.
-- Words of the header: 0 how many verifiers there are, 1 places, 2 epochs under way; 3 is 1 if the log was wrong; 4 how many epochs are certified; 8 to 11 the secret.
-- The sums of epoch e are the e % epochs-th, of what was added in four words and then of what was evicted in four.
use Rattle.std.specs.Prelude.{◌≡◌, ℕ, ◌+◌, ◌*◌, ◌%◌, ◌<◌, ◌≤◌, false, List, length, slice_index_or}
use Rattle.model.specs.Records.{pick}
use Rattle.model.specs.Monitor.{Limits, Sum, State, verifier_at, sum_at, no_sum, all_done}
use Rattle.model.specs.Program.{words_needed}
use Rattle.slot.specs.Parts.{part}
use Rattle.block.specs.Blocks.{block_words, Keeps}
use Rattle.slot.specs.Layout.{bytes_in, number_in}

abbrev pub block_start : ℕ → ℕ → ℕ → ℕ
block_start epochs n t = 256 + 32 * epochs + t * block_words n

abbrev pub block_at : Limits → List ℕ → ℕ → List ℕ
block_at l m t = part (block_start l.epochs l.places t) (block_words l.places) m

abbrev pub sum_start : ℕ → ℕ → ℕ
sum_start epochs e = 256 + 32 * (e % epochs)

abbrev pub sum_in : ℕ → List ℕ → ℕ → Sum
sum_in epochs m e = record { added = number_in (part (sum_start epochs e) 4 m); evicted = number_in (part (sum_start epochs e + 4) 4 m) }

pub record Kept (l : Limits) (m : List ℕ) (s : State) : Type 0 where
  pub size : length m ≡ words_needed l
  pub verifiers : slice_index_or m 0 0 ≡ l.verifiers
  pub places : slice_index_or m 1 0 ≡ l.places
  pub epochs : slice_index_or m 2 0 ≡ l.epochs
  pub stopped : slice_index_or m 3 0 ≡ pick s.stopped 1 0
  pub certified : slice_index_or m 4 0 ≡ s.certified
  pub secret : bytes_in (part 8 4 m) ≡ l.secret
  pub count : length s.verifiers ≡ l.verifiers
  pub blocks : (t : ℕ) → t < l.verifiers → Keeps l.places (block_at l m t) (verifier_at s.verifiers t)
  pub sums : (e : ℕ) → s.certified ≤ e → e < s.certified + l.epochs → sum_in l.epochs m e ≡ sum_at s.sums e
  -- nothing was summed yet in the epochs after those
  pub later : (e : ℕ) → s.certified + l.epochs ≤ e → sum_at s.sums e ≡ no_sum
  -- while the log isn't wrong, some verifier isn't done with the first epoch that isn't certified
  pub waiting : s.stopped ≡ false → all_done s.verifiers s.certified ≡ false

-- all that is kept but for who is waited for: this holds between two writes, too
pub record Laid (l : Limits) (m : List ℕ) (s : State) : Type 0 where
  pub size : length m ≡ words_needed l
  pub verifiers : slice_index_or m 0 0 ≡ l.verifiers
  pub places : slice_index_or m 1 0 ≡ l.places
  pub epochs : slice_index_or m 2 0 ≡ l.epochs
  pub stopped : slice_index_or m 3 0 ≡ pick s.stopped 1 0
  pub certified : slice_index_or m 4 0 ≡ s.certified
  pub secret : bytes_in (part 8 4 m) ≡ l.secret
  pub count : length s.verifiers ≡ l.verifiers
  pub blocks : (t : ℕ) → t < l.verifiers → Keeps l.places (block_at l m t) (verifier_at s.verifiers t)
  pub sums : (e : ℕ) → s.certified ≤ e → e < s.certified + l.epochs → sum_in l.epochs m e ≡ sum_at s.sums e
  pub later : (e : ℕ) → s.certified + l.epochs ≤ e → sum_at s.sums e ≡ no_sum

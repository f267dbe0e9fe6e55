-- What a check of a log comes to.
use Rattle.std.specs.Prelude.{◌≡◌, ℕ, Bool, true, false, cond, Option, Some, None, List, [], ◌∷◌, ◌++◌, ◌⊎◌}
use Rattle.std.specs.Io.KnownBytes.{Appends}
use Rattle.logfile.specs.declared.limits.Limits.{Limits}
use Rattle.wire.specs.declared.parts.Answer.{Answer}
use Rattle.wire.specs.Meaning.{answer_text}
use Rattle.summary.specs.declared.Summary.{Summary}
use Rattle.summary.specs.Counted.{none_yet, counted}
use Rattle.checking.specs.declared.error.CheckError.{CheckError}
use Rattle.checking.specs.declared.error.CheckError.TheVariants.{Io, KeyLength, NoMemoryToRead, NoMemoryForLimits, LimitsOutOfRange, FirstLine}

-- a failure of reading or writing, or another one
abbrev pub is_io : CheckError → Bool
is_io (Io n e) = true
is_io (KeyLength n) = false
is_io (NoMemoryToRead n) = false
is_io (NoMemoryForLimits n) = false
is_io (LimitsOutOfRange n) = false
is_io (FirstLine n r) = false

-- the answers, the latest first, counted
abbrev pub count_of : List Answer → Summary
count_of [] = none_yet
count_of (r ∷ rs) = counted (count_of rs) r

-- a line each, and nothing where none is asked for
abbrev pub text_of : List Answer → List ℕ
text_of [] = []
text_of (r ∷ rs) = text_of rs ++ (answer_text r ++ (10 ∷ []))

abbrev pub printed : Bool → List Answer → List ℕ
printed quiet rs = cond quiet [] (text_of rs)

-- by what a monitor does on an event, and on one that is cut
module _ {S : Type 0} (answers : S → List ℕ → Answer → S → Type 0) (cut : S → ℕ → Answer → S → Type 0) where
  -- one event was answered, and the monitor after it
  abbrev pub Gives : S → Answer → S → Type 0
  Gives m r m' = ((event : List ℕ) × answers m event r m') ⊎ ((n : ℕ) × cut m n r m')

  -- one more, or no more, and then the monitor stays
  abbrev pub GivesNext : S → Option Answer → S → Type 0
  GivesNext m None m' = m' ≡ m
  GivesNext m (Some r) m' = Gives m r m'

  -- one after the other, the latest first
  abbrev pub Gave : S → List Answer → S → Type 0
  Gave m [] m' = m' ≡ m
  Gave m (r ∷ rs) m' = (x : S) × (Gave m rs x × Gives x r m')

  -- all that it gave comes to this sum, and to this text
  pub record Checks (quiet : Bool) (m : S) (held : Option (List ℕ)) (s : Summary) (m' : S) (held' : Option (List ℕ)) : Type 0 where
    pub given : List Answer
    pub gave : Gave m given m'
    pub counts : s ≡ count_of given
    pub written : Appends held held' (printed quiet given)

  -- and it was opened for limits, with a key
  abbrev pub ChecksOpened : (Limits → List ℕ → S → Type 0) → Bool → Option (List ℕ) → Summary → Option (List ℕ) → Type 0
  ChecksOpened opened quiet held s held' = (l : Limits) × ((key : List ℕ) × ((m : S) × ((m' : S) × (opened l key m × Checks quiet m held s m' held'))))

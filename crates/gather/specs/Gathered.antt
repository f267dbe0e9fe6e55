-- What is written of a record, where its words are as they should be.
use Rattle.std.specs.Prelude.{◌≡◌, ℕ, ◌+◌, ◌≤◌, List, length}
use Rattle.writer.specs.declared.Writer.{Writer}
use Rattle.writer.specs.Written.{Written}

-- n bytes at most have been written where the next was to go, and they are bs if P holds
pub record Gathered (P : Type 0) (w : Writer) (bs : List ℕ) (n : ℕ) (w' : Writer) : Type 0 where
  pub same : w'.out.ghost_name ≡ w.out.ghost_name
  pub size : length w'.out.now ≡ length w.out.now
  pub end : w'.at ≤ w.at + n
  pub wrote : P → Written w bs w'

-- What a writer has written.
use Rattle.std.specs.Prelude.{◌≡◌, ℕ, List, length}
use Rattle.writer.specs.declared.Writer.{Writer}
use Rattle.writer.specs.Wrote.{Wrote}

-- w' writes to the same bytes as w, and has put bs where the next byte was to go
pub record Written (w : Writer) (bs : List ℕ) (w' : Writer) : Type 0 where
  pub same : w'.out.ghost_name ≡ w.out.ghost_name
  pub size : length w'.out.now ≡ length w.out.now
  pub wrote : Wrote w.out.now w.at bs w'.out.now w'.at

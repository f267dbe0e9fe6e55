-- Bytes written into lent bytes, one after the other.
use Rattle.std.specs.Prelude.{◌≡◌, ℕ, ◌+◌, List, length}
use Rattle.std.proofs.Math.Seq.{paste}

-- bs from `at` on, up to `past`, and no other byte
pub record Wrote (d : List ℕ) (at : ℕ) (bs d' : List ℕ) (past : ℕ) : Type 0 where
  pub end : past ≡ at + length bs
  pub bytes : d' ≡ paste d at bs (length bs)

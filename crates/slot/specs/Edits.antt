-- What a write to one field of a slot leaves.
use Rattle.std.specs.Prelude.{◌≡◌, ℕ, Bool, List, nat_eq, slice_index, slice_index_or}
use Rattle.model.specs.Records.{Record}
use Rattle.slot.specs.Parts.{part}
use Rattle.slot.specs.Layout.{rec_in, Slot}

pub record KeepsPath (w w' : List ℕ) : Type 0 where
  pub len : slice_index_or w' 2 0 ≡ slice_index w 2
  pub bits : part 3 4 w' ≡ part 3 4 w

-- the slot has another record, added as the one before
pub record Edited (w w' : List ℕ) (new : Record) : Type 0 where
  pub slot : Slot w'
  pub rec : rec_in w' ≡ new
  pub added : slice_index_or w' 1 0 ≡ slice_index w 1

-- a slot begins with a kind, how its record was added, and a path
pub record Headed (w : List ℕ) (kind : ℕ) (by_merkle : Bool) (n : ℕ) (ws : List ℕ) : Type 0 where
  pub tag : slice_index_or w 0 0 ≡ kind
  pub added : nat_eq (slice_index w 1) 1 ≡ by_merkle
  pub len : slice_index_or w 2 0 ≡ n
  pub bits : part 3 4 w ≡ ws

-- What an AddMerkle found, where it may be done.
use Rattle.std.specs.Prelude.{◌≡◌, ℕ, ◌<◌, false, not, Some, None, Ok, Err, Option, Result}
use Rattle.model.specs.Records.{Path, Record, Pointer, is_data, is_initial, path_of, side, merkle_bytes, merkle_hash}
use Rattle.model.specs.Verifier.{Verifier, fails, add_merkle, add_merkle_at, verifier_step}
use Rattle.path.specs.Packs.{path_in}
use Rattle.path.specs.declared.packed.Path as packed
use Rattle.path.specs.Sides.{side_number}
use Rattle.store.specs.Holding.{Walked}
use Rattle.store.specs.Stores.{stored_of}
use Rattle.store.specs.declared.StoreRef.{StoreRef}
use Rattle.conditions.specs.declared.parts.Adding.{Adding}
use Rattle.conditions.specs.declared.parts.Candidate.{Candidate}
use Rattle.conditions.specs.declared.parts.Failure.{Failure}
use Rattle.conditions.specs.declared.parts.Way.{Way}
use Rattle.conditions.specs.Ways.{added_by, OwnHash, Over}

-- what code is told of a record
pub record Told (x : Record) (c : Candidate) : Type 0 where
  pub path_is : path_of x ≡ path_in c.path.len c.path.bits
  pub initial_is : c.is_initial ≡ is_initial x
  pub node_is : c.of_node ≡ not (is_data x)
  pub bytes_are : c.merkle_bytes.now ≡ merkle_bytes x

-- it is added in this way, by what the node above knows on its side
pub record Coming (v : Verifier) (x : Record) (q : Path) (above : Record) (c : Pointer) (w : Way) : Type 0 where
  pub step : add_merkle_at v x q above c ≡ added_by w v x q above (side (path_of x) q)
  pub own : OwnHash w (merkle_hash x)
  pub over : Over w x

abbrev pub Comes : Verifier → Record → Path → Record → Pointer → Option Way → Type 0
Comes v x q above c None = add_merkle_at v x q above c ≡ fails
Comes v x q above c (Some w) = Coming v x q above c w

-- the slot of the node above is within, and a walk leads to it
abbrev pub AboveWithin : ℕ → Result Adding Failure → Type 0
AboveWithin n (Err f) = Unit {0}
AboveWithin n (Ok a) = a.above < n

abbrev pub AboveLed : StoreRef → packed.Path → Result Adding Failure → Type 0
AboveLed s q (Err f) = Unit {0}
AboveLed s q (Ok a) = Walked s.places s.salt s.words.now q.len q.bits a.above

-- what the step is, by what is in the slot
pub record Adds (s : StoreRef) (t : ℕ) (v : Verifier) (x : Record) (q : Path) (a : Adding) : Type 0 where
  pub is_node : is_data (stored_of s a.above).rec ≡ false
  pub step : verifier_step t v (add_merkle x q) ≡ added_by a.way v x q (stored_of s a.above).rec (side_number a.side)
  pub own : OwnHash a.way (merkle_hash x)
  pub over : Over a.way x

abbrev pub MayAdd : StoreRef → ℕ → Verifier → Record → Path → Result Adding Failure → Type 0
MayAdd s t v x q (Err f) = verifier_step t v (add_merkle x q) ≡ fails
MayAdd s t v x q (Ok a) = Adds s t v x q a

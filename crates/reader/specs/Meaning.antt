-- What the values of the code mean.
use Rattle.std.specs.Prelude.{◌≡◌, ℕ, ◌+◌, ◌*◌, List, [], ◌∷◌, Some, None, Option}
use Rattle.std.specs.Borrow.{Bor}
use Rattle.model.specs.Records as m
use Rattle.model.specs.Wire.{Got, got, stop}
use Rattle.reader.specs.declared.Pointer.{Pointer}
use Rattle.reader.specs.declared.Pointer.TheVariants.{Absent, Present}
use Rattle.reader.specs.declared.Contents.{Contents}
use Rattle.reader.specs.declared.Contents.TheVariants.{Value, Children}
use Rattle.reader.specs.declared.Record.{Record}
pub use Rattle.path.specs.Times.{timestamp_of}

-- what was read, from what code returned and the bytes that it left
abbrev pub out : {A : Type 0} → Option A → List ℕ → Got A
out (Some a) bs = got a bs
out None bs = stop bs

-- a number in words of 64 bits, the low one first
abbrev pub hash_number : List ℕ → ℕ
hash_number [] = 0
hash_number (w ∷ ws) = w + 18446744073709551616 * hash_number ws

abbrev pub value_of : Option (Bor (List ℕ)) → m.Value
value_of None = None
value_of (Some t) = Some t.now

abbrev pub pointer_of : Pointer → m.Pointer
pointer_of Absent = m.absent
pointer_of (Present p h b) = m.present p.now (hash_number h) b

abbrev pub contents_of : List ℕ → Contents → m.Record
contents_of n (Value v) = m.data_record n (value_of v)
contents_of n (Children l r) = m.node n (record { left = pointer_of l; right = pointer_of r })

abbrev pub record_of : Record → m.Record
record_of r = contents_of r.name.now r.contents

-- the part of the input that it hands out is what its Merkle hash is taken over
abbrev pub MerklePart : Record → Type 0
MerklePart r = r.merkle_bytes.now ≡ m.merkle_bytes (record_of r)

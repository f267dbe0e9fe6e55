-- What an entry in range names, packed, and how long its keys and values are.
use Rattle.std.specs.Prelude.{◌≡◌, ℕ, ◌≤◌, List, [], length, IfSome, Some, Option}
use Rattle.std.specs.Borrow.{Bor}
use Rattle.model.specs.Records.{absent}
use Rattle.path.specs.Packs.{path_in}
use Rattle.path.specs.declared.packed.Path.{Path}
use Rattle.slot.specs.Meant.{child_meant}
use Rattle.reader.specs.Meaning.{pointer_of}
use Rattle.reader.specs.declared.Contents.{Contents}
use Rattle.reader.specs.declared.Contents.TheVariants.{Value, Children}
use Rattle.reader.specs.declared.Record.{Record}
use Rattle.wire.specs.declared.parts.Entry.{Entry}
use Rattle.wire.specs.declared.parts.Entry.TheVariants.{AddMerkle, AddBlum, EvictMerkle, EvictBlum, EvictBlumMerkle, NextEpoch, VerifyEpoch, Get, Set}
use Rattle.range.specs.declared.packed.Packed.{Packed}

-- the bits of a packed path
abbrev pub bits_of : Path → List ℕ
bits_of p = path_in p.len p.bits

-- the root and absent children
abbrev pub NamesNothing : Packed → Type 0
NamesNothing p = (bits_of p.path ≡ []) × (bits_of p.above ≡ []) × (child_meant p.left ≡ absent) × (child_meant p.right ≡ absent)

-- a key and its value are no longer than they may be
abbrev pub Short : List ℕ → Option (Bor (List ℕ)) → Type 0
Short k v = (length k ≤ 64) × IfSome v (λ t. length t.now ≤ 1024)

abbrev pub PacksContents : List ℕ → Contents → Packed → Type 0
PacksContents n (Value v) p = Short n v
PacksContents n (Children l r) p = (bits_of p.path ≡ n) × (child_meant p.left ≡ pointer_of l) × (child_meant p.right ≡ pointer_of r)

abbrev pub PacksRecord : Record → Packed → Type 0
PacksRecord r p = PacksContents r.name.now r.contents p

abbrev pub PacksEntry : Entry → Packed → Type 0
PacksEntry (AddMerkle r q) p = (bits_of p.above ≡ q.now) × PacksRecord r p
PacksEntry (AddBlum r m j x) p = PacksRecord r p
PacksEntry (EvictMerkle n q) p = (bits_of p.path ≡ n.now) × (bits_of p.above ≡ q.now)
PacksEntry (EvictBlum n m) p = bits_of p.path ≡ n.now
PacksEntry (EvictBlumMerkle n q m) p = (bits_of p.path ≡ n.now) × (bits_of p.above ≡ q.now)
PacksEntry NextEpoch p = Unit {0}
PacksEntry VerifyEpoch p = Unit {0}
PacksEntry (Get k v) p = Short k.now v
PacksEntry (Set k v) p = Short k.now (Some v)

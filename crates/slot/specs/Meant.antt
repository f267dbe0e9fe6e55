-- What the code's child pointers mean, and their words.
use Rattle.std.specs.Prelude.{◌≡◌, ℕ, ◌≤◌, List, ◌∷◌, ◌++◌, length, replicate, IfSome}
use Rattle.std.specs.Option.{option_map}
use Rattle.std.proofs.Props.{props}
use Rattle.model.specs.Records.{Pointer, absent, present, pick, Record, data_record, node, key_path}
use Rattle.path.specs.Packs.{path_in}
use Rattle.path.specs.declared.packed.Path.{Path}
use Rattle.slot.specs.declared.child.Child.{Child}
use Rattle.slot.specs.declared.child.Child.TheVariants.{Absent, Present}
use Rattle.slot.specs.declared.contents.Contents.{Contents}
use Rattle.slot.specs.declared.contents.Contents.TheVariants.{Node, Data}
use Rattle.slot.specs.Layout.{number_in}

abbrev pub child_meant : Child → Pointer
child_meant Absent = absent
child_meant (Present p h b) = present (path_in p.len p.bits) (number_in h) b

abbrev pub child_words : Child → List ℕ
child_words Absent = replicate 10 0
child_words (Present p h b) = pick b 2 1 ∷ (p.len ∷ (p.bits ++ h))

abbrev pub record_meant : Path → Contents → Record
record_meant p (Node l r) = node (path_in p.len p.bits) (record { left = child_meant l; right = child_meant r })
record_meant p (Data k v) = data_record k.now (option_map (λ x. x.now) v)

-- the path is the key's
abbrev pub IsNamed : Path → Contents → Type 0
IsNamed p (Node l r) = Unit {0}
IsNamed p (Data k v) = path_in p.len p.bits ≡ key_path k.now

pub IsNamed-prop : (p : Path) (c : Contents) → IsProp (IsNamed p c)
IsNamed-prop p (Node l r) = Prim.hlevel props
IsNamed-prop p (Data k v) = Prim.hlevel props

-- key and value have room in a slot
abbrev pub IsShort : Contents → Type 0
IsShort (Node l r) = Unit {0}
IsShort (Data k v) = (length k.now ≤ 64) × IfSome v (λ x. length x.now ≤ 1024)

pub IsShort-prop : (c : Contents) → IsProp (IsShort c)
IsShort-prop (Node l r) = Prim.hlevel props
IsShort-prop (Data k v) = Prim.hlevel props

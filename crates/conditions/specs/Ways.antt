-- What is left by each of the ways in which a record is added by Merkle.
use Rattle.std.specs.Prelude.{◌≡◌, ℕ, true, false, List, [], ◌∷◌}
use Rattle.std.specs.Option.{option_map}
use Rattle.model.specs.Records.{Path, Record, Children, present, node, data_record, path_of, is_data, children_of, with_child, side}
use Rattle.model.specs.Verifier.{Stored, Verifier, Step, goes, updated, with_record, with_store}
use Rattle.path.specs.Packs.{path_in}
use Rattle.conditions.specs.declared.parts.Way.{Way}
use Rattle.conditions.specs.declared.parts.Way.TheVariants.{First, Again, Between}
use Rattle.path.specs.declared.packed.Path as packed
use Rattle.slot.specs.declared.contents.Contents.{Contents}
use Rattle.slot.specs.declared.contents.Contents.TheVariants.{Node, Data}
use Rattle.slot.specs.Meant.{child_meant}
use Rattle.slot.specs.Layout.{number_in}

-- the store where the node above is this one, unless it knew the record before
abbrev pub after_link : Way → Record → List Stored → List Stored
after_link First above xs = updated above xs
after_link (Again h) above xs = xs
after_link (Between o h b) above xs = updated above xs

-- the children of the record, with what it is put above
abbrev pub children_after : Way → Path → Children → Children
children_after First p c = c
children_after (Again h) p c = c
children_after (Between o h b) p c = with_child c (side (path_in o.len o.bits) p) (present (path_in o.len o.bits) (number_in h) b)

-- the hash that comes with a record is this one
abbrev pub OwnHash : Way → ℕ → Type 0
OwnHash First h = Unit {0}
OwnHash (Again k) h = number_in k ≡ h
OwnHash (Between o k b) h = Unit {0}

abbrev pub record_after : Way → Record → Record
record_after First x = x
record_after (Again h) x = x
record_after (Between o h b) x = node (path_of x) (children_after (Between o h b) (path_of x) (children_of x))

abbrev pub hashed_by : Way → Record → List Record
hashed_by First x = []
hashed_by (Again h) x = x ∷ []
hashed_by (Between o h b) x = []

-- only a node is put between
abbrev pub Over : Way → Record → Type 0
Over First x = Unit {0}
Over (Again h) x = Unit {0}
Over (Between o h b) x = is_data x ≡ false

-- the node above, with a pointer on side d to the record that is added, with hash 0
abbrev pub pointing : Path → Record → ℕ → Path → Record
pointing q above d p = node q (with_child (children_of above) d (present p 0 false))

abbrev pub added_by : Way → Verifier → Record → Path → Record → ℕ → Step
added_by w v x q above d = goes (with_record (with_store v (after_link w (pointing q above d (path_of x)) v.store)) (record_after w x) true) [] [] (hashed_by w x)

-- what is stored of what is added, with what it is put above
abbrev pub contents_after : Way → packed.Path → Contents → Record
contents_after w p (Node l r) = node (path_in p.len p.bits) (children_after w (path_in p.len p.bits) (record { left = child_meant l; right = child_meant r }))
contents_after w p (Data k v) = data_record k.now (option_map (λ x. x.now) v)

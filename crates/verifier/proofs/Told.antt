-- What code tells of the record that is added.
use Rattle.std.proofs.Common.{◌≡◌, ℕ, Bool, true, false, not, ◌&&◌, List, is_some, Some, None, Option, sym, refl, Bor}
use Rattle.std.specs.Option.{option_map}
use Rattle.std.proofs.lemmas.Bool.{both_ways}
use Rattle.model.specs.Records.{Bytes, Children, data_record, node, path_of, is_data, children_of, is_initial, is_absent, same_value, key_path, merkle_bytes}
use Rattle.path.specs.Packs.{path_in}
use Rattle.path.specs.declared.packed.Path as packed
use Rattle.slot.specs.declared.contents.Contents.{Contents}
use Rattle.slot.specs.declared.contents.Contents.TheVariants.{Node, Data}
use Rattle.slot.specs.Meant.{record_meant, IsNamed}
use Rattle.conditions.specs.declared.parts.Way.{Way}
use Rattle.conditions.specs.declared.parts.Way.TheVariants.{First, Again, Between}
use Rattle.conditions.specs.Adds.{Told}
use Rattle.conditions.specs.Ways.{record_after, contents_after, Over}

no_value : (v : Option (Bor (List ℕ))) (b : Bool) → is_some v ≡ not b → b ≡ same_value (option_map (λ x. x.now) v) None
unfolding same_value
no_value None true e = refl
no_value None false e = absurd (both_ways true (sym e) refl)
no_value (Some x) true e = absurd (both_ways true e refl)
no_value (Some x) false e = refl

pub told_data : (k : Bytes) (v : Option (Bor (List ℕ))) (p : packed.Path) (b : Bool) (bytes : Bor (List ℕ)) → path_in p.len p.bits ≡ key_path k → is_some v ≡ not b → bytes.now ≡ merkle_bytes (data_record k (option_map (λ x. x.now) v))
    → Told (data_record k (option_map (λ x. x.now) v)) (record { path = p; is_initial = b; of_node = false; merkle_bytes = bytes })
unfolding path_of is_initial is_data
told_data k v p b bytes e i h = record { path_is = sym e; initial_is = no_value v b i; node_is = refl; bytes_are = h }

pub told_node : (p : packed.Path) (c : Children) (b : Bool) (bytes : Bor (List ℕ)) → b ≡ (is_absent c.left && is_absent c.right) → bytes.now ≡ merkle_bytes (node (path_in p.len p.bits) c)
    → Told (node (path_in p.len p.bits) c) (record { path = p; is_initial = b; of_node = true; merkle_bytes = bytes })
unfolding path_of is_initial is_data
told_node p c b bytes i h = record { path_is = refl; initial_is = i; node_is = refl; bytes_are = h }

-- what is stored of what is added; a key is put between nothing
pub stored_after : (w : Way) (p : packed.Path) (c : Contents) → Over w (record_meant p c) → contents_after w p c ≡ record_after w (record_meant p c)
unfolding is_data path_of children_of
stored_after First p (Node l r) o = refl
stored_after First p (Data k v) o = refl
stored_after (Again h) p (Node l r) o = refl
stored_after (Again h) p (Data k v) o = refl
stored_after (Between x h b) p (Node l r) o = refl
stored_after (Between x h b) p (Data k v) o = absurd (both_ways true o refl)

pub named_path : (p : packed.Path) (c : Contents) → IsNamed p c → path_of (record_meant p c) ≡ path_in p.len p.bits
unfolding path_of
named_path p (Node l r) h = refl
named_path p (Data k v) h = sym h

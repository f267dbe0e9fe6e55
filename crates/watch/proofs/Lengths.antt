-- How long the bytes of an element in range are.
use Rattle.std.proofs.Common.{◌≡◌, ℕ, ◌+◌, ◌≤◌, true, ◌&&◌, ltb, leb, [], ◌∷◌, ◌++◌, length, Some, None, ap, ◌∙◌, arith, length-append}
use Rattle.std.proofs.lemmas.Bool.{and_parts, ltb-true, leb-true}
use Rattle.model.specs.Records.{Bytes, Pointer, absent, present, Value, Record, data_record, node, le_bytes, sized_bytes, pointer_bytes, value_bytes, merkle_bytes, record_bytes}
use Rattle.model.specs.Verifier.{Element}
use Rattle.model.specs.Monitor.{are_bits, good_path, good_node_path, good_pointer, good_key, good_value, good_record, element_bytes, modulus}
use Rattle.wire_laws.proofs.Numbers.{length_le_bytes}

sized : (t : Bytes) → length (sized_bytes t) ≡ 2 + length t
sized t = length-append (le_bytes 2 (length t)) t ∙ ap (λ (k : ℕ). k + length t) (length_le_bytes 2 (length t))

pointer : (c : Pointer) → good_pointer c ≡ true → length (pointer_bytes c) ≤ 292
unfolding pointer_bytes good_pointer
pointer absent g = omega arith
pointer (present p h b) g =
    let a = and_parts (good_path p) (ltb h modulus) g in
    let short = leb-true (length p) 256 (and_parts (are_bits p) (leb (length p) 256) a.0).1 in
    let x = length-append (sized_bytes p) (le_bytes 32 h) in
    let y = sized p in
    let z = length_le_bytes 32 h in
    omega arith

value : (v : Value) → good_value v ≡ true → length (value_bytes v) ≤ 1027
unfolding value_bytes good_value
value None g = omega arith
value (Some t) g = let a = leb-true (length t) 1024 g in let y = sized t in omega arith

of_record : (r : Record) → good_record r ≡ true → length (record_bytes r) ≤ 1095
unfolding record_bytes merkle_bytes good_record
of_record (data_record k v) g =
    let a = and_parts (good_key k) (good_value v) g in
    let short = leb-true (length k) 64 a.0 in
    let w = value v a.1 in
    let y = sized k in
    let x = length-append (sized_bytes k) (0 ∷ value_bytes v) in
    omega arith
of_record (node p c) g =
    let a = and_parts (good_node_path p) (good_pointer c.left && good_pointer c.right) g in
    let short = ltb-true (length p) 256 (and_parts (are_bits p) (ltb (length p) 256) a.0).1 in
    let b = and_parts (good_pointer c.left) (good_pointer c.right) a.1 in
    let u = pointer c.left b.0 in
    let w = pointer c.right b.1 in
    let y = sized p in
    let x = length-append (sized_bytes p) (1 ∷ (pointer_bytes c.left ++ pointer_bytes c.right)) in
    let z = length-append (pointer_bytes c.left) (pointer_bytes c.right) in
    omega arith

pub of_element : (x : Element) → good_record x.rec ≡ true → length (element_bytes x) ≤ 1112
of_element x g =
    let r = of_record x.rec g in
    let a = length-append (record_bytes x.rec) (le_bytes 8 x.timestamp.epoch ++ (le_bytes 8 x.timestamp.counter ++ (x.verifier ∷ []))) in
    let b = length-append (le_bytes 8 x.timestamp.epoch) (le_bytes 8 x.timestamp.counter ++ (x.verifier ∷ [])) in
    let c = length-append (le_bytes 8 x.timestamp.counter) (x.verifier ∷ []) in
    let d = length_le_bytes 8 x.timestamp.epoch in
    let f = length_le_bytes 8 x.timestamp.counter in
    omega arith

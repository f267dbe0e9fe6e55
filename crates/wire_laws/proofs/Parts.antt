-- What the code needs of what it read: parts of the bytes, and how many are left.
use Rattle.std.proofs.Common.{◌≡◌, ℕ, zero, suc, ◌+◌, ◌-◌, ◌%◌, ◌<◌, ◌≤◌, Bool, true, false, cond, eqb, ltb, List, [], ◌∷◌, ◌++◌, length, get_or, take, drop, Some, None, sym, refl, ap, ◌∙◌, subst, arith, w8, Fits}
use Rattle.std.proofs.lemmas.List.{append_assoc, length-append}
use Rattle.std.proofs.lemmas.Bool.{lt-ltb, ltb-true, eqb-true}
use Rattle.model.specs.Records.{Record, data_record, node, le_bytes, value_bytes, pointer_bytes, merkle_bytes, record_bytes}
use Rattle.model.specs.Verifier.{Timestamp}
use Rattle.model.specs.Monitor.{Event, malformed, element_bytes}
use Rattle.model.specs.Readable.{all_below, fits_64, readable_value, readable_pointer, readable_record, readable_timestamp, readable}
use Rattle.model.specs.Wire.{timestamp_bytes, Got, got, stop, and_then, reads_number, reads_one, reads_tag, reads_just, reads_contents, reads_record, reads_timestamp, reads_event, whole, read, alone}
use Rattle.wire_laws.proofs.Format.{AreBytes, bytes_right, Took, Halted, Seq, seq, choose}
use Rattle.wire_laws.proofs.Numbers.{bytes_below, One, just_law}
use Rattle.wire_laws.proofs.Fields.{Of, eight_law, timestamp_law, pair_law, single_law}
use Rattle.wire_laws.proofs.Records.{Contents, value_law, pointer_law, record_law}
use Rattle.wire_laws.proofs.Fronts.{take_part, take_one_more}
use Rattle.wire_laws.proofs.Events.{Logged, event_law}

pub typed_bytes : (xs : List ℕ) → ((i : ℕ) → Fits w8 (get_or xs i 0)) → AreBytes xs
typed_bytes [] h = tt
typed_bytes (x ∷ xs) h = (omega (arith, h 0), typed_bytes xs (λ i. h (suc i)))

pub left_at_value : (bs zs : List ℕ) (v : Event) → ((i : ℕ) → Fits w8 (get_or bs i 0)) → reads_event bs ≡ got v zs → length zs ≤ length bs
left_at_value bs zs v h e = let k : Took Logged bs v zs = event_law.exact bs v zs (typed_bytes bs h) e in omega (arith, simp length-append at (ap length k.splits))

pub left_at_stop : (bs zs : List ℕ) → ((i : ℕ) → Fits w8 (get_or bs i 0)) → reads_event bs ≡ stop zs → length zs ≤ length bs
left_at_stop bs zs h e = let k : Halted reads_event Logged bs zs = event_law.halts bs zs (typed_bytes bs h) e in omega (arith, simp length-append at (ap length k.splits))

pub whole_more : (n : ℕ) (v : Event) (zs : List ℕ) → 0 < length zs → whole n (got v zs) ≡ malformed (n - length zs)
unfolding whole
whole_more n v [] h = absurd (omega arith)
whole_more n v (z ∷ zs) h = refl

pub whole_all : (n : ℕ) (v : Event) (zs : List ℕ) → length zs ≤ 0 → whole n (got v zs) ≡ v
unfolding whole
whole_all n v [] h = refl
whole_all n v (z ∷ zs) h = absurd (omega arith)

-- the bytes that are summed of an element: a record, its timestamp, and the low byte of its verifier
element_same : (r : Record) (m : Timestamp) (j : ℕ) → j < 256 → (record_bytes r ++ timestamp_bytes m) ++ (j % 256 ∷ []) ≡ element_bytes (record { rec = r; timestamp = m; verifier = j })
element_same r m j h =
    let e : j % 256 ≡ j = omega arith in
    rw (e, append_assoc (record_bytes r) (timestamp_bytes m) (j ∷ []), append_assoc (le_bytes 8 m.epoch) (le_bytes 8 m.counter) (j ∷ []))

pub element_part : (bs : List ℕ) → all_below 256 bs ≡ true → (r : Record) (xs : List ℕ) (m : Timestamp) (ys : List ℕ) (j : ℕ) (zs : List ℕ) →
    reads_record bs ≡ got r xs → reads_timestamp xs ≡ got m ys → reads_number 8 ys ≡ got j zs →
    (length bs - length ys + 1 ≤ length bs) × (j < 256 → take (length bs - length ys + 1) bs ≡ element_bytes (record { rec = r; timestamp = m; verifier = j }))
unfolding le_bytes
element_part bs b r xs m ys j zs h g f =
    let bb = bytes_below bs b in
    let k : Took (Of readable_record record_bytes) bs r xs = record_law.exact bs r xs bb h in
    let bx = bytes_right k.used xs (subst AreBytes (sym k.splits) bb) in
    let l : Took (Of readable_timestamp timestamp_bytes) xs m ys = timestamp_law.exact xs m ys bx g in
    let by = bytes_right l.used ys (subst AreBytes (sym l.splits) bx) in
    let n : Took (Of fits_64 (le_bytes 8)) ys j zs = eight_law.exact ys j zs by f in
    let p : record_bytes r ++ xs ≡ bs = ap (λ us. us ++ xs) k.is.same ∙ k.splits in
    let q : timestamp_bytes m ++ ys ≡ xs = ap (λ us. us ++ ys) l.is.same ∙ l.splits in
    let s : le_bytes 8 j ++ zs ≡ ys = ap (λ us. us ++ zs) n.is.same ∙ n.splits in
    let w : (record_bytes r ++ timestamp_bytes m) ++ (le_bytes 8 j ++ zs) ≡ bs =
    append_assoc (record_bytes r) (timestamp_bytes m) (le_bytes 8 j ++ zs) ∙ (ap (λ us. record_bytes r ++ (timestamp_bytes m ++ us)) s ∙ (ap (λ us. record_bytes r ++ us) q ∙ p)) in
    let t = take_one_more (record_bytes r ++ timestamp_bytes m) (j % 256) (drop 1 (le_bytes 8 j ++ zs)) bs w in
    let e : length (le_bytes 8 j ++ zs) ≡ length ys = ap length s in (
      omega (arith, simp length-append at (ap length w)),
      λ small. subst (λ n. take (length bs - n + 1) bs ≡ element_bytes (record { rec = r; timestamp = m; verifier = j })) e (t ∙ element_same r m j small),
    )

pub timestamp_within : (bs : List ℕ) → all_below 256 bs ≡ true → (r : Record) (xs : List ℕ) (m : Timestamp) (ys : List ℕ) → reads_record bs ≡ got r xs → reads_timestamp xs ≡ got m ys → length ys ≤ length bs
timestamp_within bs b r xs m ys h g =
    let bb = bytes_below bs b in
    let k : Took (Of readable_record record_bytes) bs r xs = record_law.exact bs r xs bb h in
    let l : Took (Of readable_timestamp timestamp_bytes) xs m ys = timestamp_law.exact xs m ys (bytes_right k.used xs (subst AreBytes (sym k.splits) bb)) g in
    omega (arith, simp length-append at (ap length k.splits), simp length-append at (ap length l.splits))

pub tag_below : (n t : ℕ) (bs xs : List ℕ) → reads_tag n bs ≡ got t xs → t < n
unfolding reads_tag reads_one
tag_below n t [] xs e = absurd (let z : ◌≡◌ {A = ℕ} 0 1 = cc in omega arith)
tag_below n t (b ∷ bs) xs e = by (ltb b n) refl e
  where
    by : (k : Bool) → ltb b n ≡ k → cond k (got b bs) (stop (b ∷ bs)) ≡ got t xs → t < n
    by true h g = let q : b ≡ t = cc in omega (arith, ltb-true b n h)
    by false h g = absurd (let z : ◌≡◌ {A = ℕ} 0 1 = cc in omega arith)

merkle_same : (t : ℕ) (n : List ℕ) (r : Record) (ws : List ℕ) → t < 2 → Seq (One (λ b. eqb b t)) (λ x. Contents t n) r ws → merkle_bytes r ≡ ws
unfolding merkle_bytes
merkle_same zero n r ws l s =
    let v = s.tail in
    let x : s.us ≡ 0 ∷ [] = s.head.same ∙ ap (λ y. y ∷ []) (eqb-true s.first 0 s.head.fit) in
    rw v.is (ap (λ ys. 0 ∷ ys) v.same ∙ (ap (λ ys. ys ++ s.vs) (sym x) ∙ s.splits))
merkle_same (suc zero) n r ws l s =
    let v = s.tail in
    let x : s.us ≡ 1 ∷ [] = s.head.same ∙ ap (λ y. y ∷ []) (eqb-true s.first 1 s.head.fit) in
    rw v.is (ap (λ ys. 1 ∷ ys) v.same ∙ (ap (λ ys. ys ++ s.vs) (sym x) ∙ s.splits))
merkle_same (suc (suc t)) n r ws l s = absurd (omega arith)

pub merkle_part : (xs : List ℕ) → all_below 256 xs ≡ true → (t : ℕ) (n : List ℕ) (x : ℕ) (ys : List ℕ) (r : Record) (zs : List ℕ) → t < 2 →
    reads_just t xs ≡ got x ys → reads_contents t n ys ≡ got r zs → (length zs ≤ length xs) × (take (length xs - length zs) xs ≡ merkle_bytes r)
merkle_part xs b t n x ys r zs l h g =
    let law = seq (just_law t) (λ x vs h.
    choose (eqb t 0) (single_law readable_value value_bytes (data_record n) value_law) (pair_law readable_pointer pointer_bytes readable_pointer pointer_bytes (λ l r. node n (record { left = l; right = r })) pointer_law pointer_law)) in
    let e : and_then (reads_just t xs) (λ _ es. reads_contents t n es) ≡ got r zs = rw h g in
    let k : Took (Seq (One (λ b. eqb b t)) (λ x. Contents t n)) xs r zs = law.exact xs r zs (bytes_below xs b) e in
    let p = take_part k.used zs xs k.splits in
    (omega (arith, simp length-append at (ap length k.splits)), p.0 ∙ sym (merkle_same t n r k.used l k.is))

-- what is read is readable
pub read_readable : (bs : List ℕ) → AreBytes bs → length bs < 18446744073709551616 → readable (read bs) ≡ true
unfolding whole readable
read_readable bs b h = go (reads_event bs) refl
  where
    go : (r : Got Event) → reads_event bs ≡ r → readable (whole (length bs) r) ≡ true
    go (got v []) e =
        let k : Took Logged bs v [] = event_law.exact bs v [] b e in
        rw k.is.is k.is.ok
    go (got v (x ∷ xs)) e = lt-ltb (length bs - length (x ∷ xs)) 18446744073709551616 (omega arith)
    go (stop xs) e = lt-ltb (length bs - length xs) 18446744073709551616 (omega arith)

pub alone_more : {A : Type 0} (a : A) (zs : List ℕ) → 0 < length zs → alone (got a zs) ≡ None
unfolding alone
alone_more a [] h = absurd (omega arith)
alone_more a (z ∷ zs) h = refl

pub alone_all : {A : Type 0} (a : A) (zs : List ℕ) → length zs ≤ 0 → alone (got a zs) ≡ Some a
unfolding alone
alone_all a [] h = refl
alone_all a (z ∷ zs) h = absurd (omega arith)

pub alone_stop : {A : Type 0} (zs : List ℕ) → alone {A = A} (stop zs) ≡ None
unfolding alone
alone_stop zs = refl

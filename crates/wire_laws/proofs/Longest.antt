-- How long an event's bytes are at most, and that one byte more tells what longer bytes are.
use Rattle.std.proofs.Common.{◌≡◌, ℕ, zero, suc, ◌+◌, ◌-◌, ◌<◌, ◌≤◌, Bool, true, false, ◌&&◌, ltb, leb, List, [], ◌∷◌, ◌++◌, length, take, Some, None, refl, ap, arith}
use Rattle.std.proofs.lemmas.List.{length-append, take_all}
use Rattle.std.proofs.lemmas.Bool.{leb-true, leb-false, and_parts}
use Rattle.model.specs.Records.{Bytes, Pointer, absent, present, Value, Record, data_record, node, le_bytes, sized_bytes, value_bytes, pointer_bytes, merkle_bytes, record_bytes}
use Rattle.model.specs.Verifier.{Timestamp, Entry, add_merkle, add_blum, evict_merkle, evict_blum, evict_blum_merkle, next_epoch, verify_epoch, get, set}
use Rattle.model.specs.Monitor.{Event, malformed, modulus}
use Rattle.model.specs.Readable.{all_below, readable_bytes, readable_value, fits_64, readable_pointer, readable_record, readable_timestamp, readable_entry}
use Rattle.model.specs.Wire.{timestamp_bytes, fields_bytes, entry_bytes, Got, got, stop, reads_event, whole, read, longest_event, FirstBytesTell}
use Rattle.wire_laws.proofs.Format.{AreBytes, Took, Halted}
use Rattle.wire_laws.proofs.Numbers.{bytes_below, length_le_bytes}
use Rattle.wire_laws.proofs.Events.{Logged, event_law}

sized_most : (t : Bytes) → readable_bytes t ≡ true → length (sized_bytes t) ≤ 65537
sized_most t h =
    let p = and_parts (all_below 256 t) (leb (length t) 65535) h in
    simp (length-append, length_le_bytes) (omega (arith, leb-true (length t) 65535 p.1))

value_most : (v : Value) → readable_value v ≡ true → length (value_bytes v) ≤ 65538
unfolding value_bytes readable_value
value_most None h = omega arith
value_most (Some t) h = omega (arith, sized_most t h)

pointer_most : (c : Pointer) → readable_pointer c ≡ true → length (pointer_bytes c) ≤ 65571
unfolding pointer_bytes readable_pointer
pointer_most absent h = omega arith
pointer_most (present p k b) h =
    let o = and_parts (readable_bytes p) (ltb k modulus) h in
    omega (arith, length-append (sized_bytes p) (le_bytes 32 k), length_le_bytes 32 k, sized_most p o.0)

record_most : (r : Record) → readable_record r ≡ true → length (record_bytes r) ≤ 196681
unfolding record_bytes merkle_bytes readable_record
record_most (data_record k v) h =
    let o = and_parts (readable_bytes k) (readable_value v) h in
    omega (arith, length-append (sized_bytes k) (0 ∷ value_bytes v), sized_most k o.0, value_most v o.1)
record_most (node p c) h =
    let o = and_parts (readable_bytes p) (readable_pointer c.left && readable_pointer c.right) h in
    let s = and_parts (readable_pointer c.left) (readable_pointer c.right) o.1 in
    omega (
      arith,
      length-append (sized_bytes p) (1 ∷ (pointer_bytes c.left ++ pointer_bytes c.right)),
      length-append (pointer_bytes c.left) (pointer_bytes c.right),
      sized_most p o.0,
      pointer_most c.left s.0,
      pointer_most c.right s.1,
    )

timestamp_long : (m : Timestamp) → length (timestamp_bytes m) ≡ 16
timestamp_long m = simp (length-append, length_le_bytes)

entry_most : (e : Entry) → readable_entry e ≡ true → length (entry_bytes e) ≤ 262219
unfolding entry_bytes fields_bytes readable_entry
entry_most (add_merkle r q) h =
    let o = and_parts (readable_record r) (readable_bytes q) h in
    omega (arith, length-append (record_bytes r) (sized_bytes q), record_most r o.0, sized_most q o.1)
entry_most (add_blum r m j) h =
    let o = and_parts (readable_record r && readable_timestamp m) (fits_64 j) h in
    let s = and_parts (readable_record r) (readable_timestamp m) o.0 in
    omega (
      arith,
      length-append (record_bytes r) (timestamp_bytes m ++ le_bytes 8 j),
      length-append (timestamp_bytes m) (le_bytes 8 j),
      record_most r s.0,
      timestamp_long m,
      length_le_bytes 8 j,
    )
entry_most (evict_merkle p q) h =
    let o = and_parts (readable_bytes p) (readable_bytes q) h in
    omega (arith, length-append (sized_bytes p) (sized_bytes q), sized_most p o.0, sized_most q o.1)
entry_most (evict_blum p m) h =
    let o = and_parts (readable_bytes p) (readable_timestamp m) h in
    omega (arith, length-append (sized_bytes p) (timestamp_bytes m), sized_most p o.0, timestamp_long m)
entry_most (evict_blum_merkle p q m) h =
    let o = and_parts (readable_bytes p && readable_bytes q) (readable_timestamp m) h in
    let s = and_parts (readable_bytes p) (readable_bytes q) o.0 in
    omega (
      arith,
      length-append (sized_bytes p) (sized_bytes q ++ timestamp_bytes m),
      length-append (sized_bytes q) (timestamp_bytes m),
      sized_most p s.0,
      sized_most q s.1,
      timestamp_long m,
    )
entry_most next_epoch h = omega arith
entry_most verify_epoch h = omega arith
entry_most (get k v) h =
    let o = and_parts (readable_bytes k) (readable_value v) h in
    omega (arith, length-append (sized_bytes k) (value_bytes v), sized_most k o.0, value_most v o.1)
entry_most (set k v) h =
    let o = and_parts (readable_bytes k) (readable_bytes v) h in
    omega (arith, length-append (sized_bytes k) (sized_bytes v), sized_most k o.0, sized_most v o.1)

event_most : (v : Event) (ws : List ℕ) → Logged v ws → length ws ≤ longest_event
event_most v ws p =
    let o = and_parts (fits_64 p.a) (readable_entry p.b) p.ok in
    omega (arith, simp (length-append, length_le_bytes) at (ap length p.same), entry_most p.b o.1)

-- so many bytes, past the front and the byte after it
take_past : (us : List ℕ) (z : ℕ) (zs : List ℕ) (n : ℕ) → length us < n → take n (us ++ (z ∷ zs)) ≡ us ++ (z ∷ take (n - length us - 1) zs)
take_past [] z zs zero h = absurd (omega arith)
take_past [] z zs (suc n) h = let e : suc n - 0 - 1 ≡ n = omega arith in rw e
take_past (u ∷ us) z zs zero h = absurd (omega arith)
take_past (u ∷ us) z zs (suc n) h =
    let e : suc n - suc (length us) - 1 ≡ n - length us - 1 = omega arith in
    rw e (ap (λ xs. u ∷ xs) (take_past us z zs n (omega arith)))

-- bytes that go on after what is read, or after where it stops, are malformed there
Goes_on : List ℕ → ℕ → Type 0
Goes_on us z = (ys : List ℕ) → read (us ++ (z ∷ ys)) ≡ malformed (length us)

after_value : (us : List ℕ) (z : ℕ) (ys : List ℕ) (v : Event) → reads_event (us ++ (z ∷ ys)) ≡ got v (z ∷ ys) → read (us ++ (z ∷ ys)) ≡ malformed (length us)
unfolding whole
after_value us z ys v e = rw e (ap malformed (simp length-append (omega arith)))

after_stop : (us : List ℕ) (z : ℕ) (ys : List ℕ) → reads_event (us ++ (z ∷ ys)) ≡ stop (z ∷ ys) → read (us ++ (z ∷ ys)) ≡ malformed (length us)
unfolding whole
after_stop us z ys e = rw e (ap malformed (simp length-append (omega arith)))

cut : (n : ℕ) (bs us : List ℕ) (z : ℕ) (zs : List ℕ) → us ++ (z ∷ zs) ≡ bs → length us < n → Goes_on us z → read (take n bs) ≡ read bs
unfolding Goes_on
cut n bs us z zs q l g = rw (← q, take_past us z zs n l, g (take (n - length us - 1) zs), g zs)

long : (n : ℕ) (bs : List ℕ) → longest_event < n → AreBytes bs → n < length bs → read (take n bs) ≡ read bs
unfolding Goes_on
long n bs l b h = go (reads_event bs) refl
  where
    go : (r : Got Event) → reads_event bs ≡ r → read (take n bs) ≡ read bs
    go (got v []) e =
        let k : Took Logged bs v [] = event_law.exact bs v [] b e in
        absurd (omega (arith, event_most v k.used k.is, simp length-append at (ap length k.splits)))
    go (got v (z ∷ zs)) e =
        let k : Took Logged bs v (z ∷ zs) = event_law.exact bs v (z ∷ zs) b e in
        cut n bs k.used z zs k.splits (omega (arith, event_most v k.used k.is)) (λ ys. after_value k.used z ys v (event_law.round v k.used (z ∷ ys) k.is))
    go (stop []) e =
        let k : Halted reads_event Logged bs [] = event_law.halts bs [] b e in
        absurd (omega (arith, event_most k.begun.who (k.front ++ k.begun.more) k.begun.is, length-append k.front k.begun.more, simp length-append at (ap length k.splits)))
    go (stop (z ∷ zs)) e =
        let k : Halted reads_event Logged bs (z ∷ zs) = event_law.halts bs (z ∷ zs) b e in
        cut n bs k.front z zs k.splits (omega (arith, event_most k.begun.who (k.front ++ k.begun.more) k.begun.is, length-append k.front k.begun.more)) (λ ys. after_stop k.front z ys (k.dead ys))

tells : (n : ℕ) (bs : List ℕ) → longest_event < n → AreBytes bs → (t : Bool) → leb (length bs) n ≡ t → read (take n bs) ≡ read bs
tells n bs l b true h = ap read (take_all n bs (leb-true (length bs) n h))
tells n bs l b false h = long n bs l b (leb-false (length bs) n h)

pub first_bytes_tell : FirstBytesTell
unfolding FirstBytesTell
first_bytes_tell bs b = tells (longest_event + 1) bs (omega arith) (bytes_below bs b) (leb (length bs) (longest_event + 1)) refl

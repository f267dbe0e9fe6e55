-- The laws of entries and events.
use Rattle.std.proofs.Common.{◌≡◌, ℕ, zero, suc, ◌+◌, ◌-◌, ◌<◌, ◌≤◌, true, eqb, ◌⊎◌, List, [], ◌∷◌, ◌++◌, length, take, sym, refl, ap, ◌∙◌, subst, inl, inr, arith}
use Rattle.std.proofs.lemmas.List.{append_assoc, append-nil}
use Rattle.model.specs.Records.{le_bytes, sized_bytes, value_bytes, record_bytes}
use Rattle.model.specs.Verifier.{Entry, add_merkle, add_blum, evict_merkle, evict_blum, evict_blum_merkle, next_epoch, verify_epoch, get, set}
use Rattle.model.specs.Monitor.{Event, logged, malformed, entry_code}
use Rattle.model.specs.Readable.{readable_bytes, readable_value, fits_64, readable_record, readable_timestamp, readable_entry, readable}
use Rattle.model.specs.Wire.{timestamp_bytes, fields_bytes, entry_bytes, event_bytes, Got, got, stop, reads_fields, reads_entry, reads_event, whole, BeginsEvent, EventsReadBack, EventsReadExactly, MalformedThere}
use Rattle.wire_laws.proofs.Format.{Took, Dead, Halted, Lawful, like, End, end, Either, choose}
use Rattle.wire_laws.proofs.Numbers.{bytes_below}
use Rattle.wire_laws.proofs.Fields.{Of, sized_law, eight_law, timestamp_law, Pair, pair_law, Triple, triple_law, Tagged, tagged_law}
use Rattle.wire_laws.proofs.Records.{value_law, record_law}
use Rattle.wire_laws.proofs.Fronts.{take_part, take_one_more}

abbrev Code : ℕ → Entry → List ℕ → Type 0
Code n =
    Either (eqb n 0) (Pair readable_record record_bytes readable_bytes sized_bytes add_merkle) (Either (eqb n 1) (Triple readable_record record_bytes readable_timestamp timestamp_bytes fits_64 (le_bytes 8) add_blum)
    (Either (eqb n 2) (Pair readable_bytes sized_bytes readable_bytes sized_bytes evict_merkle) (Either (eqb n 3) (Pair readable_bytes sized_bytes readable_timestamp timestamp_bytes evict_blum)
    (Either (eqb n 4) (Triple readable_bytes sized_bytes readable_bytes sized_bytes readable_timestamp timestamp_bytes evict_blum_merkle) (Either (eqb n 5) (End next_epoch) (Either (eqb n 6) (End verify_epoch)
    (Either (eqb n 7) (Pair readable_bytes sized_bytes readable_value value_bytes get) (Pair readable_bytes sized_bytes readable_bytes sized_bytes set))))))))

fields_law : (n : ℕ) → Lawful (reads_fields n) (Code n)
fields_law n =
    choose (eqb n 0) (pair_law readable_record record_bytes readable_bytes sized_bytes add_merkle record_law sized_law)
    (choose (eqb n 1) (triple_law readable_record record_bytes readable_timestamp timestamp_bytes fits_64 (le_bytes 8) add_blum record_law timestamp_law eight_law)
    (choose (eqb n 2) (pair_law readable_bytes sized_bytes readable_bytes sized_bytes evict_merkle sized_law sized_law)
    (choose (eqb n 3) (pair_law readable_bytes sized_bytes readable_timestamp timestamp_bytes evict_blum sized_law timestamp_law)
    (choose (eqb n 4) (triple_law readable_bytes sized_bytes readable_bytes sized_bytes readable_timestamp timestamp_bytes evict_blum_merkle sized_law sized_law timestamp_law)
    (choose (eqb n 5) (end next_epoch) (choose (eqb n 6) (end verify_epoch)
    (choose (eqb n 7) (pair_law readable_bytes sized_bytes readable_value value_bytes get sized_law value_law) (pair_law readable_bytes sized_bytes readable_bytes sized_bytes set sized_law sized_law))))))))

pub entry_law : Lawful reads_entry (Of readable_entry entry_bytes)
unfolding readable_entry entry_bytes fields_bytes entry_code
entry_law = like (tagged_law 9 (omega arith) fields_law) (λ e ws t. to e ws t.code t.rest t.small t.is t.same) from
  where
    to : (e : Entry) (ws : List ℕ) (t : ℕ) (rest : List ℕ) → t < 9 → Code t e rest → t ∷ rest ≡ ws → Of readable_entry entry_bytes e ws
    to e ws zero rest l p q = record { ok = rw p.is p.ok; same = rw p.is (ap (λ ys. 0 ∷ ys) p.same ∙ q) }
    to e ws (suc zero) rest l p q = record { ok = rw p.is p.ok; same = rw p.is (ap (λ ys. 1 ∷ ys) p.same ∙ q) }
    to e ws (suc (suc zero)) rest l p q = record { ok = rw p.is p.ok; same = rw p.is (ap (λ ys. 2 ∷ ys) p.same ∙ q) }
    to e ws (suc (suc (suc zero))) rest l p q = record { ok = rw p.is p.ok; same = rw p.is (ap (λ ys. 3 ∷ ys) p.same ∙ q) }
    to e ws (suc (suc (suc (suc zero)))) rest l p q = record { ok = rw p.is p.ok; same = rw p.is (ap (λ ys. 4 ∷ ys) p.same ∙ q) }
    to e ws (suc (suc (suc (suc (suc zero))))) rest l p q = record { ok = rw p.same; same = rw p.same (ap (λ ys. 5 ∷ ys) (sym p.none) ∙ q) }
    to e ws (suc (suc (suc (suc (suc (suc zero)))))) rest l p q = record { ok = rw p.same; same = rw p.same (ap (λ ys. 6 ∷ ys) (sym p.none) ∙ q) }
    to e ws (suc (suc (suc (suc (suc (suc (suc zero))))))) rest l p q = record { ok = rw p.is p.ok; same = rw p.is (ap (λ ys. 7 ∷ ys) p.same ∙ q) }
    to e ws (suc (suc (suc (suc (suc (suc (suc (suc zero)))))))) rest l p q = record { ok = rw p.is p.ok; same = rw p.is (ap (λ ys. 8 ∷ ys) p.same ∙ q) }
    to e ws (suc (suc (suc (suc (suc (suc (suc (suc (suc t))))))))) rest l p q = absurd (omega arith)

    from : (e : Entry) (ws : List ℕ) → Of readable_entry entry_bytes e ws → Tagged 9 Code e ws
    from (add_merkle r q) ws o = record { code = 0; rest = record_bytes r ++ sized_bytes q; small = omega arith; is = record { a = r; b = q; ok = o.ok; is = refl; same = refl }; same = o.same }
    from (add_blum r m j) ws o = record { code = 1; rest = record_bytes r ++ (timestamp_bytes m ++ le_bytes 8 j); small = omega arith; is = record { a = r; b = m; c = j; ok = o.ok; is = refl; same = refl }; same = o.same }
    from (evict_merkle p q) ws o = record { code = 2; rest = sized_bytes p ++ sized_bytes q; small = omega arith; is = record { a = p; b = q; ok = o.ok; is = refl; same = refl }; same = o.same }
    from (evict_blum p m) ws o = record { code = 3; rest = sized_bytes p ++ timestamp_bytes m; small = omega arith; is = record { a = p; b = m; ok = o.ok; is = refl; same = refl }; same = o.same }
    from (evict_blum_merkle p q m) ws o = record { code = 4; rest = sized_bytes p ++ (sized_bytes q ++ timestamp_bytes m); small = omega arith; is = record { a = p; b = q; c = m; ok = o.ok; is = refl; same = refl }; same = o.same }
    from next_epoch ws o = record { code = 5; rest = []; small = omega arith; is = record { same = refl; none = refl }; same = o.same }
    from verify_epoch ws o = record { code = 6; rest = []; small = omega arith; is = record { same = refl; none = refl }; same = o.same }
    from (get k v) ws o = record { code = 7; rest = sized_bytes k ++ value_bytes v; small = omega arith; is = record { a = k; b = v; ok = o.ok; is = refl; same = refl }; same = o.same }
    from (set k v) ws o = record { code = 8; rest = sized_bytes k ++ sized_bytes v; small = omega arith; is = record { a = k; b = v; ok = o.ok; is = refl; same = refl }; same = o.same }

abbrev pub Logged : Event → List ℕ → Type 0
Logged = Pair fits_64 (le_bytes 8) readable_entry entry_bytes logged

pub event_law : Lawful reads_event Logged
event_law = pair_law fits_64 (le_bytes 8) readable_entry entry_bytes logged eight_law entry_law

as_logged : (t : ℕ) (e : Entry) → readable (logged t e) ≡ true → Logged (logged t e) (event_bytes t e)
unfolding readable event_bytes
as_logged t e ok = record { a = t; b = e; ok = ok; is = refl; same = refl }

read_written : (t : ℕ) (e : Entry) (bs : List ℕ) → readable (logged t e) ≡ true → event_bytes t e ≡ bs → reads_event bs ≡ got (logged t e) []
read_written t e bs ok q = ap reads_event (sym q ∙ sym (append-nil (event_bytes t e))) ∙ event_law.round (logged t e) (event_bytes t e) [] (as_logged t e ok)

pub events_read_back : EventsReadBack
unfolding EventsReadBack whole
events_read_back t e ok = rw (read_written t e (event_bytes t e) ok refl)

pub logged_bytes : (t : ℕ) (e : Entry) (ws : List ℕ) → Logged (logged t e) ws → (event_bytes t e ≡ ws) × (readable (logged t e) ≡ true)
unfolding readable event_bytes
logged_bytes t e ws p =
    let a : t ≡ p.a = cc in
    let b : e ≡ p.b = cc in
    (rw (a, b) p.same, rw (a, b) p.ok)

pub events_read_exactly : EventsReadExactly
unfolding EventsReadExactly whole
events_read_exactly bs t e b h = go (reads_event bs) refl h
  where
    go : (r : Got Event) → reads_event bs ≡ r → whole (length bs) r ≡ logged t e → (event_bytes t e ≡ bs) × (readable (logged t e) ≡ true)
    go (got v []) q w =
        let k : Took Logged bs (logged t e) [] = event_law.exact bs (logged t e) [] (bytes_below bs b) (q ∙ ap (λ x. got x []) w) in
        let l = logged_bytes t e k.used k.is in
        (l.0 ∙ (sym (append-nil k.used) ∙ k.splits), l.1)
    go (got v (x ∷ xs)) q w = absurd (let z : ◌≡◌ {A = ℕ} 0 1 = cc in omega arith)
    go (stop xs) q w = absurd (let z : ◌≡◌ {A = ℕ} 0 1 = cc in omega arith)

-- the beginning of an event
begins : (v : Event) (front more : List ℕ) → Logged v (front ++ more) → BeginsEvent front
unfolding readable event_bytes
begins v front more p = record { verifier = p.a; entry = p.b; more = more; fits = p.ok; is = p.same }

-- no event goes on so, where the reader does otherwise than to read one to its end
never : (us : List ℕ) (z : ℕ) → ((ys : List ℕ) (v : Event) → reads_event (us ++ (z ∷ ys)) ≡ got v [] → ⊥) → BeginsEvent (us ++ (z ∷ [])) → ⊥
never us z nay b = nay b.more (logged b.verifier b.entry) (read_written b.verifier b.entry (us ++ (z ∷ b.more)) b.fits (b.is ∙ append_assoc us (z ∷ []) b.more))

pub malformed_there : MalformedThere
unfolding MalformedThere whole
malformed_there bs n b h = go (reads_event bs) refl h
  where
    by : (us zs : List ℕ) → us ++ zs ≡ bs → malformed (length bs - length zs) ≡ malformed n → BeginsEvent us → ((z : ℕ) (xs : List ℕ) → zs ≡ z ∷ xs → (ys : List ℕ) (v : Event) → reads_event (us ++ (z ∷ ys)) ≡ got v [] → ⊥) →
        (n ≤ length bs) × BeginsEvent (take n bs) × ((n ≡ length bs) ⊎ (BeginsEvent (take (n + 1) bs) → ⊥))
    by us [] q w g nay =
        let z : length bs - 0 ≡ n = cc in
        let t = take_part us [] bs q in
        (omega arith, rw (← z, t.0) g, inl (omega arith))
    by us (x ∷ xs) q w g nay =
        let z : length bs - length (x ∷ xs) ≡ n = cc in
        let t = take_part us (x ∷ xs) bs q in
        (rw (← z) t.1, rw (← z, t.0) g, inr (rw (← z, take_one_more us x xs bs q) (never us x (nay x xs refl))))

    go : (r : Got Event) → reads_event bs ≡ r → whole (length bs) r ≡ malformed n → (n ≤ length bs) × BeginsEvent (take n bs) × ((n ≡ length bs) ⊎ (BeginsEvent (take (n + 1) bs) → ⊥))
    go (got v []) q w =
        let k : Took Logged bs v [] = event_law.exact bs v [] (bytes_below bs b) q in
        absurd (let e : logged k.is.a k.is.b ≡ malformed n = sym k.is.is ∙ w in let z : ◌≡◌ {A = ℕ} 0 1 = cc in omega arith)
    go (got v (x ∷ xs)) q w =
        let k : Took Logged bs v (x ∷ xs) = event_law.exact bs v (x ∷ xs) (bytes_below bs b) q in
        by k.used (x ∷ xs) k.splits w (begins v k.used [] (subst (Logged v) (sym (append-nil k.used)) k.is))
        (λ z zs e ys u r. let f : reads_event (k.used ++ (z ∷ ys)) ≡ got v (z ∷ ys) = event_law.round v k.used (z ∷ ys) k.is in let y : ◌≡◌ {A = ℕ} 0 1 = cc in omega arith)
    go (stop zs) q w =
        let k : Halted reads_event Logged bs zs = event_law.halts bs zs (bytes_below bs b) q in
        by k.front zs k.splits w (begins k.begun.who k.front k.begun.more k.begun.is)
        (λ z xs e ys u r. let d : Dead reads_event k.front (z ∷ xs) = subst (Dead reads_event k.front) e k.dead in let f = d ys in let y : ◌≡◌ {A = ℕ} 0 1 = cc in omega arith)

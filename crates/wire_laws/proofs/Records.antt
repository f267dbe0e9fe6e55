-- The laws of values, child pointers and records.
use Rattle.std.proofs.Common.{◌≡◌, ℕ, zero, suc, ◌<◌, true, false, ◌&&◌, eqb, List, [], ◌∷◌, ◌++◌, Some, None, sym, refl, ap, ◌∙◌, arith}
use Rattle.std.proofs.lemmas.Bool.{eqb-true, and_parts, and_from}
use Rattle.model.specs.Records.{pick, Pointer, absent, present, Value, Record, data_record, node, le_bytes, sized_bytes, value_bytes, pointer_bytes, merkle_bytes, record_bytes}
use Rattle.model.specs.Readable.{readable_bytes, readable_value, readable_pointer, readable_record}
use Rattle.model.specs.Wire.{reads_value, reads_pointer, reads_record}
use Rattle.wire_laws.proofs.Format.{Lawful, like, End, end, Seq, seq, Either, choose}
use Rattle.wire_laws.proofs.Numbers.{One, just_law}
use Rattle.wire_laws.proofs.Fields.{Of, sized_law, hash_fits, hash_law, Pair, pair_law, Single, single_law, Tagged, tagged_law}

abbrev Valued : ℕ → Value → List ℕ → Type 0
Valued t = Either (eqb t 0) (End None) (Single readable_bytes sized_bytes Some)

pub value_law : Lawful reads_value (Of readable_value value_bytes)
unfolding readable_value value_bytes
value_law =
    like (tagged_law 2 (omega arith) (λ t. choose (eqb t 0) (end None) (single_law readable_bytes sized_bytes Some sized_law)))
    (λ v ws t. to v ws t.code t.rest t.small t.is t.same) from
  where
    to : (v : Value) (ws : List ℕ) (t : ℕ) (rest : List ℕ) → t < 2 → Valued t v rest → t ∷ rest ≡ ws → Of readable_value value_bytes v ws
    to v ws zero rest l e q = record { ok = rw e.same; same = rw (e.same, ← q, e.none) }
    to v ws (suc zero) rest l e q = record { ok = rw e.is e.ok; same = rw (e.is, e.same) q }
    to v ws (suc (suc t)) rest l e q = absurd (omega arith)

    from : (v : Value) (ws : List ℕ) → Of readable_value value_bytes v ws → Tagged 2 Valued v ws
    from None ws o = record { code = 0; rest = []; small = omega arith; is = record { same = refl; none = refl }; same = o.same }
    from (Some t) ws o = record { code = 1; rest = sized_bytes t; small = omega arith; is = record { a = t; ok = o.ok; is = refl; same = refl }; same = o.same }

abbrev Known : ℕ → Pointer → List ℕ → Type 0
Known b = Pair readable_bytes sized_bytes hash_fits (le_bytes 32) (λ p h. present p h (eqb b 1))

abbrev Pointed : ℕ → Pointer → List ℕ → Type 0
Pointed t = Either (eqb t 0) (End absent) (Tagged 2 Known)

pub pointer_law : Lawful reads_pointer (Of readable_pointer pointer_bytes)
unfolding readable_pointer pointer_bytes pick
pointer_law =
    like (tagged_law 2 (omega arith) (λ t. choose (eqb t 0) (end absent) (tagged_law 2 (omega arith) (λ b. pair_law readable_bytes sized_bytes hash_fits (le_bytes 32) (λ p h. present p h (eqb b 1)) sized_law hash_law))))
    (λ s ws t. to s ws t.code t.rest t.small t.is t.same) from
  where
    known : (s : Pointer) (ws : List ℕ) (b : ℕ) (rest : List ℕ) → b < 2 → Known b s rest → 1 ∷ (b ∷ rest) ≡ ws → Of readable_pointer pointer_bytes s ws
    known s ws zero rest l e q = record { ok = rw e.is e.ok; same = rw (e.is, e.same) q }
    known s ws (suc zero) rest l e q = record { ok = rw e.is e.ok; same = rw (e.is, e.same) q }
    known s ws (suc (suc b)) rest l e q = absurd (omega arith)

    to : (s : Pointer) (ws : List ℕ) (t : ℕ) (rest : List ℕ) → t < 2 → Pointed t s rest → t ∷ rest ≡ ws → Of readable_pointer pointer_bytes s ws
    to s ws zero rest l e q = record { ok = rw e.same; same = rw (e.same, ← q, e.none) }
    to s ws (suc zero) rest l e q = known s ws e.code e.rest e.small e.is (ap (λ xs. 1 ∷ xs) e.same ∙ q)
    to s ws (suc (suc t)) rest l e q = absurd (omega arith)

    from : (s : Pointer) (ws : List ℕ) → Of readable_pointer pointer_bytes s ws → Tagged 2 Pointed s ws
    from absent ws o = record { code = 0; rest = []; small = omega arith; is = record { same = refl; none = refl }; same = o.same }
    from (present p h true) ws o =
        record {
          code = 1;
          rest = 1 ∷ (sized_bytes p ++ le_bytes 32 h);
          small = omega arith;
          is = record { code = 1; rest = sized_bytes p ++ le_bytes 32 h; small = omega arith; is = record { a = p; b = h; ok = o.ok; is = refl; same = refl }; same = refl };
          same = o.same;
        }
    from (present p h false) ws o =
        record {
          code = 1;
          rest = 0 ∷ (sized_bytes p ++ le_bytes 32 h);
          small = omega arith;
          is = record { code = 0; rest = sized_bytes p ++ le_bytes 32 h; small = omega arith; is = record { a = p; b = h; ok = o.ok; is = refl; same = refl }; same = refl };
          same = o.same;
        }

abbrev pub Contents : ℕ → List ℕ → Record → List ℕ → Type 0
Contents t n = Either (eqb t 0) (Single readable_value value_bytes (data_record n)) (Pair readable_pointer pointer_bytes readable_pointer pointer_bytes (λ l r. node n (record { left = l; right = r })))

abbrev Kind : ℕ → Record → List ℕ → Type 0
Kind t = Seq (Of readable_bytes sized_bytes) (λ n. Seq (One (λ b. eqb b t)) (λ x. Contents t n))

pub record_law : Lawful reads_record (Of readable_record record_bytes)
unfolding readable_record record_bytes merkle_bytes
record_law =
    like (tagged_law 2 (omega arith) (λ t. seq sized_law (λ n us e. seq (just_law t) (λ x vs h.
    choose (eqb t 0) (single_law readable_value value_bytes (data_record n) value_law) (pair_law readable_pointer pointer_bytes readable_pointer pointer_bytes (λ l r. node n (record { left = l; right = r })) pointer_law pointer_law)))))
    (λ r ws t. to r ws t.code t.rest t.small t.is t.same) from
  where
    to : (r : Record) (ws : List ℕ) (t : ℕ) (rest : List ℕ) → t < 2 → Kind t r rest → t ∷ rest ≡ ws → Of readable_record record_bytes r ws
    to r ws zero rest l e q =
        let v = e.tail.tail in
        let x : e.tail.us ≡ 0 ∷ [] = e.tail.head.same ∙ ap (λ y. y ∷ []) (eqb-true e.tail.first 0 e.tail.head.fit) in
        record {
          ok = rw v.is (and_from (readable_bytes e.first) (readable_value v.a) e.head.ok v.ok);
          same = rw v.is (ap (λ ys. 0 ∷ (ys ++ (0 ∷ value_bytes v.a))) e.head.same ∙ (ap (λ ys. 0 ∷ (e.us ++ (0 ∷ ys))) v.same ∙ (ap (λ ys. 0 ∷ (e.us ++ ys)) (ap (λ ys. ys ++ e.tail.vs) (sym x) ∙ e.tail.splits) ∙ (ap (λ ys. 0 ∷ ys) e.splits ∙ q))));
        }
    to r ws (suc zero) rest l e q =
        let v = e.tail.tail in
        let x : e.tail.us ≡ 1 ∷ [] = e.tail.head.same ∙ ap (λ y. y ∷ []) (eqb-true e.tail.first 1 e.tail.head.fit) in
        record {
          ok = rw v.is (and_from (readable_bytes e.first) (readable_pointer v.a && readable_pointer v.b) e.head.ok v.ok);
          same = rw v.is (ap (λ ys. 1 ∷ (ys ++ (1 ∷ (pointer_bytes v.a ++ pointer_bytes v.b)))) e.head.same ∙ (ap (λ ys. 1 ∷ (e.us ++ (1 ∷ ys))) v.same ∙ (ap (λ ys. 1 ∷ (e.us ++ ys)) (ap (λ ys. ys ++ e.tail.vs) (sym x) ∙ e.tail.splits) ∙ (ap (λ ys. 1 ∷ ys) e.splits ∙ q))));
        }
    to r ws (suc (suc t)) rest l e q = absurd (omega arith)

    from : (r : Record) (ws : List ℕ) → Of readable_record record_bytes r ws → Tagged 2 Kind r ws
    from (data_record k v) ws o =
        let p = and_parts (readable_bytes k) (readable_value v) o.ok in
        record {
          code = 0;
          rest = sized_bytes k ++ (0 ∷ value_bytes v);
          small = omega arith;
          is = record {
            first = k;
            us = sized_bytes k;
            vs = 0 ∷ value_bytes v;
            head = record { ok = p.0; same = refl };
            tail = record { first = 0; us = 0 ∷ []; vs = value_bytes v; head = record { fit = refl; same = refl }; tail = record { a = v; ok = p.1; is = refl; same = refl }; splits = refl };
            splits = refl;
          };
          same = o.same;
        }
    from (node n t) ws o =
        let p = and_parts (readable_bytes n) (readable_pointer t.left && readable_pointer t.right) o.ok in
        record {
          code = 1;
          rest = sized_bytes n ++ (1 ∷ (pointer_bytes t.left ++ pointer_bytes t.right));
          small = omega arith;
          is = record {
            first = n;
            us = sized_bytes n;
            vs = 1 ∷ (pointer_bytes t.left ++ pointer_bytes t.right);
            head = record { ok = p.0; same = refl };
            tail = record {
              first = 1;
              us = 1 ∷ [];
              vs = pointer_bytes t.left ++ pointer_bytes t.right;
              head = record { fit = refl; same = refl };
              tail = record { a = t.left; b = t.right; ok = p.1; is = refl; same = refl };
              splits = refl;
            };
            splits = refl;
          };
          same = o.same;
        }

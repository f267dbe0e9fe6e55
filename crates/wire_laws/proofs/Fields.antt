-- The laws of fields, and of several fields in a row.
use Rattle.std.proofs.Common.{◌≡◌, ℕ, ◌^◌, ◌<◌, ◌≤◌, Bool, true, ◌&&◌, ltb, leb, List, [], ◌∷◌, ◌++◌, length, sym, refl, ap, ◌∙◌, arith}
use Rattle.std.proofs.lemmas.List.{append-nil}
use Rattle.std.proofs.lemmas.Bool.{lt-ltb, le-leb, ltb-true, leb-true, and_parts, and_from}
use Rattle.model.specs.Records.{le_bytes, sized_bytes}
use Rattle.model.specs.Monitor.{modulus}
use Rattle.model.specs.Readable.{all_below, readable_bytes, fits_64, readable_timestamp}
use Rattle.model.specs.Wire.{timestamp_bytes, got, Reads, and_then, reads_number, reads_tag, reads_sized, reads_timestamp}
use Rattle.wire_laws.proofs.Format.{Lawful, like, End, end, Seq, seq}
use Rattle.wire_laws.proofs.Numbers.{below_bytes, bytes_below, Chunk, chunk_law, One, Number, number_law, tag_law}

-- the bytes w a of the values a that fit, by the test f
pub record Of {A : Type 0} (f : A → Bool) (w : A → List ℕ) (a : A) (ws : List ℕ) : Type 0 where
  pub ok : f a ≡ true
  pub same : w a ≡ ws

pub sized_law : Lawful reads_sized (Of readable_bytes sized_bytes)
unfolding reads_sized
sized_law = like (seq (number_law 2) (λ n us e. chunk_law n)) to from
  where
    to : (t ws : List ℕ) → Seq (Number 2) Chunk t ws → Of readable_bytes sized_bytes t ws
    to t ws s =
        let l : length t ≡ s.first = s.tail.size in
        let sm : s.first < 65536 = s.head.small in
        let e : sized_bytes t ≡ s.us ++ s.vs = rw (l, ← s.tail.same, ← s.head.same) refl in
        record { ok = and_from (all_below 256 t) (leb (length t) 65535) (below_bytes t s.tail.small) (le-leb (length t) 65535 (omega arith)); same = e ∙ s.splits }

    from : (t ws : List ℕ) → Of readable_bytes sized_bytes t ws → Seq (Number 2) Chunk t ws
    from t ws o =
        let p = and_parts (all_below 256 t) (leb (length t) 65535) o.ok in
        let l : length t ≤ 65535 = leb-true (length t) 65535 p.1 in
        let sm : length t < 65536 = omega arith in
        record { first = length t; us = le_bytes 2 (length t); vs = t; head = record { small = sm; same = refl }; tail = record { size = refl; small = bytes_below t p.0; same = refl }; splits = o.same }

-- a number below what n bytes can say
pub below_law : (n end : ℕ) → 256 ^ n ≡ end → Lawful (reads_number n) (Of (λ v. ltb v end) (le_bytes n))
below_law n end e =
    like (number_law n) (λ v ws k. record { ok = lt-ltb v end (rw e at k.small); same = k.same })
    (λ v ws o. record { small = rw e (ltb-true v end o.ok); same = o.same })

pub eight_law : Lawful (reads_number 8) (Of fits_64 (le_bytes 8))
eight_law = below_law 8 18446744073709551616 refl

abbrev pub hash_fits : ℕ → Bool
hash_fits h = ltb h modulus

pub hash_law : Lawful (reads_number 32) (Of hash_fits (le_bytes 32))
hash_law = below_law 32 modulus refl

-- two fields, and three
pub record Pair {A B C : Type 0} (f : A → Bool) (w : A → List ℕ) (g : B → Bool) (v : B → List ℕ) (mk : A → B → C) (c : C) (ws : List ℕ) : Type 0 where
  pub a : A
  pub b : B
  pub ok : (f a && g b) ≡ true
  pub is : c ≡ mk a b
  pub same : w a ++ v b ≡ ws

module _ {A B C : Type 0} (f : A → Bool) (w : A → List ℕ) (g : B → Bool) (v : B → List ℕ) (mk : A → B → C) where
  pub pair_law : {p : Reads A} {q : Reads B} → Lawful p (Of f w) → Lawful q (Of g v) → Lawful (λ bs. and_then (p bs) (λ a xs. and_then (q xs) (λ b zs. got (mk a b) zs))) (Pair f w g v mk)
  pair_law l m = like (seq l (λ a us e. seq m (λ b vs h. end (mk a b)))) to from
    where
      to : (c : C) (ws : List ℕ) → Seq (Of f w) (λ a. Seq (Of g v) (λ b. End (mk a b))) c ws → Pair f w g v mk c ws
      to c ws s =
          let t = s.tail in
          let e : s.us ++ t.us ≡ ws = ap (λ xs. s.us ++ xs) (sym (append-nil t.us) ∙ (ap (λ xs. t.us ++ xs) (sym t.tail.none) ∙ t.splits)) ∙ s.splits in
          record { a = s.first; b = t.first; ok = and_from (f s.first) (g t.first) s.head.ok t.head.ok; is = t.tail.same; same = rw (s.head.same, t.head.same) e }

      from : (c : C) (ws : List ℕ) → Pair f w g v mk c ws → Seq (Of f w) (λ a. Seq (Of g v) (λ b. End (mk a b))) c ws
      from c ws p =
          let o = and_parts (f p.a) (g p.b) p.ok in
          record {
            first = p.a;
            us = w p.a;
            vs = v p.b;
            head = record { ok = o.0; same = refl };
            tail = record { first = p.b; us = v p.b; vs = []; head = record { ok = o.1; same = refl }; tail = record { same = p.is; none = refl }; splits = append-nil (v p.b) };
            splits = p.same;
          }

pub timestamp_law : Lawful reads_timestamp (Of readable_timestamp timestamp_bytes)
timestamp_law = like (pair_law fits_64 (le_bytes 8) fits_64 (le_bytes 8) (λ e c. record { epoch = e; counter = c }) eight_law eight_law)
    (λ m ws p. record { ok = rw p.is p.ok; same = rw p.is p.same })
    (λ m ws o. record { a = m.epoch; b = m.counter; ok = o.ok; is = refl; same = o.same })

-- one field
pub record Single {A C : Type 0} (f : A → Bool) (w : A → List ℕ) (mk : A → C) (c : C) (ws : List ℕ) : Type 0 where
  pub a : A
  pub ok : f a ≡ true
  pub is : c ≡ mk a
  pub same : w a ≡ ws

module _ {A C : Type 0} (f : A → Bool) (w : A → List ℕ) (mk : A → C) where
  pub single_law : {p : Reads A} → Lawful p (Of f w) → Lawful (λ bs. and_then (p bs) (λ a zs. got (mk a) zs)) (Single f w mk)
  single_law l = like (seq l (λ a us e. end (mk a))) to from
    where
      to : (c : C) (ws : List ℕ) → Seq (Of f w) (λ a. End (mk a)) c ws → Single f w mk c ws
      to c ws s =
          record {
            a = s.first;
            ok = s.head.ok;
            is = s.tail.same;
            same = s.head.same ∙ (sym (append-nil s.us) ∙ (ap (λ xs. s.us ++ xs) (sym s.tail.none) ∙ s.splits));
          }

      from : (c : C) (ws : List ℕ) → Single f w mk c ws → Seq (Of f w) (λ a. End (mk a)) c ws
      from c ws p =
          record { first = p.a; us = w p.a; vs = []; head = record { ok = p.ok; same = refl }; tail = record { same = p.is; none = refl }; splits = append-nil (w p.a) ∙ p.same }

pub record Triple {A B C D : Type 0} (f : A → Bool) (w : A → List ℕ) (g : B → Bool) (v : B → List ℕ) (h : C → Bool) (u : C → List ℕ) (mk : A → B → C → D) (d : D) (ws : List ℕ) : Type 0 where
  pub a : A
  pub b : B
  pub c : C
  pub ok : ((f a && g b) && h c) ≡ true
  pub is : d ≡ mk a b c
  pub same : w a ++ (v b ++ u c) ≡ ws

module _ {A B C D : Type 0} (f : A → Bool) (w : A → List ℕ) (g : B → Bool) (v : B → List ℕ) (h : C → Bool) (u : C → List ℕ) (mk : A → B → C → D) where
  pub triple_law : {p : Reads A} {q : Reads B} {r : Reads C} → Lawful p (Of f w) → Lawful q (Of g v) → Lawful r (Of h u) →
      Lawful (λ bs. and_then (p bs) (λ a xs. and_then (q xs) (λ b cs. and_then (r cs) (λ c zs. got (mk a b c) zs)))) (Triple f w g v h u mk)
  triple_law l m n = like (seq l (λ a us e. pair_law g v h u (mk a) m n)) to from
    where
      to : (d : D) (ws : List ℕ) → Seq (Of f w) (λ a. Pair g v h u (mk a)) d ws → Triple f w g v h u mk d ws
      to d ws s =
          let t = s.tail in
          let o = and_parts (g t.a) (h t.b) t.ok in
          record {
            a = s.first;
            b = t.a;
            c = t.b;
            ok = and_from (f s.first && g t.a) (h t.b) (and_from (f s.first) (g t.a) s.head.ok o.0) o.1;
            is = t.is;
            same = rw (s.head.same, t.same) s.splits;
          }

      from : (d : D) (ws : List ℕ) → Triple f w g v h u mk d ws → Seq (Of f w) (λ a. Pair g v h u (mk a)) d ws
      from d ws p =
          let o = and_parts (f p.a && g p.b) (h p.c) p.ok in
          let o2 = and_parts (f p.a) (g p.b) o.0 in
          record {
            first = p.a;
            us = w p.a;
            vs = v p.b ++ u p.c;
            head = record { ok = o2.0; same = refl };
            tail = record { a = p.b; b = p.c; ok = and_from (g p.b) (h p.c) o2.1 o.1; is = p.is; same = refl };
            splits = p.same;
          }

-- a code below n, and then what it says
pub record Tagged {C : Type 0} (n : ℕ) (G : ℕ → C → List ℕ → Type 0) (c : C) (ws : List ℕ) : Type 0 where
  pub code : ℕ
  pub rest : List ℕ
  pub small : code < n
  pub is : G code c rest
  pub same : code ∷ rest ≡ ws

pub tagged_law : {C : Type 0} {k : ℕ → Reads C} {G : ℕ → C → List ℕ → Type 0} (n : ℕ) → 0 < n → ((t : ℕ) → Lawful (k t) (G t)) → Lawful (λ bs. and_then (reads_tag n bs) k) (Tagged n G)
tagged_law {C} {k} {G} n h m = like (seq (tag_law n h) (λ t us e. m t)) to from
  where
    to : (c : C) (ws : List ℕ) → Seq (One (λ b. ltb b n)) G c ws → Tagged n G c ws
    to c ws s = record { code = s.first; rest = s.vs; small = ltb-true s.first n s.head.fit; is = s.tail; same = ap (λ xs. xs ++ s.vs) (sym s.head.same) ∙ s.splits }

    from : (c : C) (ws : List ℕ) → Tagged n G c ws → Seq (One (λ b. ltb b n)) G c ws
    from c ws t = record { first = t.code; us = t.code ∷ []; vs = t.rest; head = record { fit = lt-ltb t.code n t.small; same = refl }; tail = t.is; splits = t.same }

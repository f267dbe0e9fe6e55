-- The laws of answers.
use Rattle.std.proofs.Common.{◌≡◌, ℕ, zero, suc, ◌<◌, Bool, true, eqb, ltb, List, [], ◌∷◌, Some, sym, refl, ap, ◌∙◌, arith}
use Rattle.std.proofs.lemmas.List.{append-nil}
use Rattle.model.specs.Records.{Bytes, le_bytes}
use Rattle.model.specs.Monitor.{Answer, refused, wrong, right, certified}
use Rattle.model.specs.Readable.{fits_64}
use Rattle.model.specs.Wire.{answer_bytes, readable_answer, Got, got, stop, reads_tag, reads_answer, alone, AnswersReadBack, AnswersReadExactly}
use Rattle.wire_laws.proofs.Format.{Took, Lawful, like, End, end, Either, choose}
use Rattle.wire_laws.proofs.Numbers.{bytes_below, tag_law}
use Rattle.wire_laws.proofs.Fields.{Of, Single, single_law, Pair, pair_law, Tagged, tagged_law, eight_law}

abbrev byte_fits : ℕ → Bool
byte_fits b = ltb b 256

abbrev byte_alone : ℕ → Bytes
byte_alone b = b ∷ []

byte_law : Lawful (reads_tag 256) (Of byte_fits byte_alone)
byte_law = like (tag_law 256 (omega arith)) (λ b ws o. record { ok = o.fit; same = sym o.same }) (λ b ws o. record { fit = o.ok; same = sym o.same })

abbrev Kind : ℕ → Answer → List ℕ → Type 0
Kind t = Either (eqb t 0) (Pair byte_fits byte_alone fits_64 (le_bytes 8) refused) (Either (eqb t 1) (End wrong) (Either (eqb t 2) (End right) (Single fits_64 (le_bytes 8) certified)))

pub answer_law : Lawful reads_answer (Of readable_answer answer_bytes)
answer_law =
    like (tagged_law 4 (omega arith) (λ t. choose (eqb t 0) (pair_law byte_fits byte_alone fits_64 (le_bytes 8) refused byte_law eight_law)
    (choose (eqb t 1) (end wrong) (choose (eqb t 2) (end right) (single_law fits_64 (le_bytes 8) certified eight_law)))))
    (λ a ws t. to a ws t.code t.rest t.small t.is t.same) from
  where
    to : (a : Answer) (ws : List ℕ) (t : ℕ) (rest : List ℕ) → t < 4 → Kind t a rest → t ∷ rest ≡ ws → Of readable_answer answer_bytes a ws
    to a ws zero rest l e q = record { ok = rw e.is e.ok; same = rw e.is (ap (λ ys. 0 ∷ ys) e.same ∙ q) }
    to a ws (suc zero) rest l e q = record { ok = rw e.same; same = rw e.same (ap (λ ys. 1 ∷ ys) (sym e.none) ∙ q) }
    to a ws (suc (suc zero)) rest l e q = record { ok = rw e.same; same = rw e.same (ap (λ ys. 2 ∷ ys) (sym e.none) ∙ q) }
    to a ws (suc (suc (suc zero))) rest l e q = record { ok = rw e.is e.ok; same = rw e.is (ap (λ ys. 3 ∷ ys) e.same ∙ q) }
    to a ws (suc (suc (suc (suc t)))) rest l e q = absurd (omega arith)

    from : (a : Answer) (ws : List ℕ) → Of readable_answer answer_bytes a ws → Tagged 4 Kind a ws
    from (refused c p) ws o = record { code = 0; rest = c ∷ (le_bytes 8) p; small = omega arith; is = record { a = c; b = p; ok = o.ok; is = refl; same = refl }; same = o.same }
    from wrong ws o = record { code = 1; rest = []; small = omega arith; is = record { same = refl; none = refl }; same = o.same }
    from right ws o = record { code = 2; rest = []; small = omega arith; is = record { same = refl; none = refl }; same = o.same }
    from (certified n) ws o = record { code = 3; rest = (le_bytes 8) n; small = omega arith; is = record { a = n; ok = o.ok; is = refl; same = refl }; same = o.same }

pub answers_read_back : AnswersReadBack
unfolding AnswersReadBack alone
answers_read_back a h = rw (ap reads_answer (sym (append-nil (answer_bytes a))) ∙ answer_law.round a (answer_bytes a) [] (record { ok = h; same = refl }))

pub answers_read_exactly : AnswersReadExactly
unfolding AnswersReadExactly alone
answers_read_exactly bs a b h = go (reads_answer bs) refl h
  where
    go : (r : Got Answer) → reads_answer bs ≡ r → alone r ≡ Some a → (answer_bytes a ≡ bs) × (readable_answer a ≡ true)
    go (got x []) e w =
        let q : x ≡ a = cc in
        let k : Took (Of readable_answer answer_bytes) bs a [] = answer_law.exact bs a [] (bytes_below bs b) (e ∙ ap (λ y. got y []) q) in
        (k.is.same ∙ (sym (append-nil k.used) ∙ k.splits), k.is.ok)
    go (got x (z ∷ zs)) e w = absurd (let z : ◌≡◌ {A = ℕ} 0 1 = cc in omega arith)
    go (stop zs) e w = absurd (let z : ◌≡◌ {A = ℕ} 0 1 = cc in omega arith)

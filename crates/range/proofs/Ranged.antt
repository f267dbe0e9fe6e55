-- Hashes in four words, and child pointers: what is in range.
use Rattle.std.proofs.Common.{◌≡◌, ℕ, ◌<◌, Bool, true, List, [], ◌∷◌, length, get_or, refl, ap, ◌+◌, ◌*◌, ◌^◌, arith}
use Rattle.std.proofs.lemmas.Bool.{lt-ltb}
use Rattle.path.specs.Packs.{Fit}
use Rattle.model.specs.Records.{Pointer, present}
use Rattle.model.specs.Monitor.{modulus, good_path, good_pointer}
use Rattle.reader.specs.Meaning.{hash_number}
use Rattle.slot.specs.Layout.{number_in}

-- four words, one by one
pub four : (ws : List ℕ) → length ws ≡ 4 → get_or ws 0 0 ∷ (get_or ws 1 0 ∷ (get_or ws 2 0 ∷ (get_or ws 3 0 ∷ []))) ≡ ws
four [] e = absurd (omega arith)
four (a ∷ []) e = absurd (omega arith)
four (a ∷ b ∷ []) e = absurd (omega arith)
four (a ∷ b ∷ c ∷ []) e = absurd (omega arith)
four (a ∷ b ∷ c ∷ d ∷ []) e = refl
four (a ∷ b ∷ c ∷ d ∷ f ∷ ws) e = absurd (omega arith)

-- a hash that is read, as the store's words have it
pub hash_in : (ws : List ℕ) → hash_number ws ≡ number_in ws
unfolding number_in
hash_in [] = refl
hash_in (w ∷ ws) = ap (λ (n : ℕ). w + 2 ^ 64 * n) (hash_in ws)

pub hash_fits : (ws : List ℕ) → length ws ≡ 4 → Fit ws → number_in ws < modulus
unfolding number_in
hash_fits [] e h = absurd (omega arith)
hash_fits (a ∷ []) e h = absurd (omega arith)
hash_fits (a ∷ b ∷ []) e h = absurd (omega arith)
hash_fits (a ∷ b ∷ c ∷ []) e h = absurd (omega arith)
hash_fits (a ∷ b ∷ c ∷ d ∷ []) e h = omega (arith, h 0, h 1, h 2, h 3)
hash_fits (a ∷ b ∷ c ∷ d ∷ f ∷ ws) e h = absurd (omega arith)

-- the test of child pointers
pub present_good : (p : Pointer) (q : List ℕ) (h : ℕ) (b : Bool) → p ≡ present q h b → true ≡ good_path q → h < modulus → true ≡ good_pointer p
unfolding good_pointer
present_good p q h b e f l = rw (e, ← f, lt-ltb h modulus l) refl

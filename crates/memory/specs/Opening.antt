-- A monitor's memory at first.
use Rattle.std.specs.Prelude.{◌≡◌, ℕ, ◌%◌, List, [], ◌∷◌, ◌++◌, slice_index_or}
use Rattle.model.specs.Records.{hash_of}
use Rattle.slot.specs.Parts.{part}
use Rattle.memory.specs.declared.limits.Limits.{Limits}
use Rattle.slot.specs.Layout.{bytes_in}

-- the salt of every store, from the secret: 64 bits of the hash of the secret and a byte more
abbrev pub salt_from : List ℕ → ℕ
salt_from secret = hash_of (secret ++ (0 ∷ [])) % 18446744073709551616

-- a header at first
pub record Headed (m : List ℕ) (x : Limits) (bytes : List ℕ) : Type 0 where
  pub verifiers : slice_index_or m 0 0 ≡ x.verifiers
  pub places : slice_index_or m 1 0 ≡ x.places
  pub epochs : slice_index_or m 2 0 ≡ x.epochs
  pub stopped : slice_index_or m 3 0 ≡ 0
  pub certified : slice_index_or m 4 0 ≡ 0
  pub secret : bytes_in (part 8 4 m) ≡ bytes

-- What was read, in the verifier's words.
use Rattle.std.proofs.Common.{◌≡◌, ℕ, List, Some, None, Option, refl, Bor}
use Rattle.std.specs.Option.{option_map}
use Rattle.reader.specs.Meaning.{value_of}

pub value_is : (v : Option (Bor (List ℕ))) → value_of v ≡ option_map (λ x. x.now) v
value_is None = refl
value_is (Some x) = refl

use Rattle.std.proofs.Common.{◌≡◌, ℕ, List, [], ◌∷◌, arith}
use Rattle.model.specs.Sha256.{State}
use Rattle.sha256.specs.View.{state_of}
use Rattle.sha256.proofs.Output.{Words, limbs_of, digest_bytes, digest_number, four_limbs}
use Rattle.sha256.proofs.digest.Goals as goal

pub returns : goal.returns
unfolding limbs_of
returns c =
    let m : List ℕ = c.args.message.now in
    let s : State = state_of c.hash-s.result in
    let w : Words s =
    record { a = omega arith; b = omega arith; c = omega arith; d = omega arith; e = omega arith; f = omega arith; g = omega arith; h = omega arith } in
    let l : c.limb.result ∷ (c.limb-2.result ∷ (c.limb-3.result ∷ (c.limb-4.result ∷ []))) ≡ limbs_of s = cc in
    record {
      bytes = digest_bytes m s _ c.hash-s.ensures w l;
      number = digest_number m s _ c.hash-s.ensures l;
      limbs = four_limbs c.limb.type_inv c.limb-2.type_inv c.limb-3.type_inv c.limb-4.type_inv;
    }

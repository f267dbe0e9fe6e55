use Rattle.std.proofs.Common.{◌≡◌, ℕ, ◌-◌, ◌/◌, length, drop, ap, ◌∙◌, arith}
use Rattle.std.specs.List.{flat_map}
use Rattle.std.specs.Simd.{first_chunks}
use Rattle.std.proofs.lemmas.List.{length-append, length-drop, take_all}
use Rattle.model.specs.Sha256.{be_words}
use Rattle.sha256.proofs.Loading.{sixteen_words}
use Rattle.sha256.proofs.block_words.Goals as goal

pub returns : goal.returns
returns c =
    let block = c.args.block.now in
    let xs = c.as_chunks.result.0.now in
    let front : xs ≡ first_chunks 4 16 block = c.as_chunks.ensures.front ∙ ap (λ (k : ℕ). first_chunks 4 k block) (let e : length block / 4 ≡ 16 = omega arith in e) in
    let last : c.four_words-4.result ≡ flat_map be_words (drop 12 xs) =
    c.four_words-4.ensures ∙ ap (flat_map be_words) (take_all (length xs - 12) (drop 12 xs) (omega (arith, length-drop 12 xs))) in
    let all = sixteen_words block xs c.told-block front in
    record {
      words = cc;
      count = simp length-append (omega arith);
    }

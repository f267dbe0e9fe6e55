use Rattle.std.proofs.Common.{◌≡◌, ℕ, ◌+◌, ◌*◌, ◌^◌, ◌<◌, List, [], ◌++◌, get_or, take, drop, sym, refl, ap, ◌∙◌, subst, ap₂, arith, lit<}
use Rattle.std.proofs.lemmas.List.{take_all}
use Rattle.model.specs.Monitor.{are_bits}
use Rattle.model.specs.Records.{bits}
use Rattle.sha256.proofs.Loading.{chunk_at}
use Rattle.record.proofs.Filled.{take_plus}
use Rattle.record.proofs.Joined.{bits_append, shifted, shifted_below}
use Rattle.record.proofs.Ones.{take_bits, drop_bits}
use Rattle.record.proofs.packing.pack_word.Goals as goal

pub loop-eight-init : goal.loop-eight-init
unfolding bits
loop-eight-init c = record { fits = lit< tt; bits = λ h. refl }

pub loop-eight-preserved : goal.loop-eight-preserved
loop-eight-preserved c =
    let xs = c.args.bytes.now in
    let i = c.loop-eight.eight-index in
    let n = 8 * i in
    let w = c.loop-eight.word in
    let b = c.pack_byte.result in
    let m : n + 8 ≡ 8 * (i + 1) = omega arith in
    let v = shifted n w b (omega arith) c.loop-eight.invariant.fits c.pack_byte.ensures.byte in
    let piece : get_or c.as_chunks.result.0.now i [] ≡ take 8 (drop n xs) = ap (λ l. get_or l i []) c.as_chunks.ensures.front ∙ chunk_at 8 _ xs i [] (omega arith) in
    record {
      fits = subst (λ (x : ℕ). x < 2 ^ (8 * (i + 1))) (sym v) (subst (λ (x : ℕ). w * 256 + b < 2 ^ x) m (shifted_below n w b c.loop-eight.invariant.fits c.pack_byte.ensures.byte));
      bits = λ h.
          ap₂ bits (sym m) v
          ∙ (bits_append n 8 w b c.pack_byte.ensures.byte
          ∙ (ap₂ (λ (x y : List ℕ). x ++ y) (c.loop-eight.invariant.bits h) (c.pack_byte.ensures.bits (ap are_bits piece ∙ take_bits 8 (drop n xs) (drop_bits n xs h)) ∙ piece)
          ∙ (sym (take_plus n 8 xs) ∙ ap (λ (x : ℕ). take x xs) m)));
    }

pub returns : goal.returns
returns c = λ h.
    let xs = c.args.bytes.now in
    let m : 8 * c.loop-eight.eight-index ≡ 64 = omega arith in
    subst (λ (n : ℕ). bits n c.loop-eight.word ≡ take n xs) m (c.loop-eight.invariant.bits h) ∙ take_all 64 xs (omega arith)

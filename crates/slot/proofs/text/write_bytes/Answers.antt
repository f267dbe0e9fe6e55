use Rattle.std.proofs.Common.{◌≡◌, ℕ, ◌+◌, ◌*◌, ◌/◌, ◌<◌, List, [], ◌∷◌, ◌++◌, length, get_or, take, drop, set, refl, sym, ap, ◌∙◌, arith, length-set, length-drop, take_all}
use Rattle.std.proofs.lemmas.Bool.{eqb-true, eqb-false}
use Rattle.std.proofs.lemmas.List.{take_more_set, length-take-le}
use Rattle.model.specs.Records.{le_number}
use Rattle.sha256.proofs.Loading.{chunk_at}
use Rattle.slot.proofs.Texts.{words_of, words_more, number_eight, all_back}
use Rattle.slot.proofs.text.write_bytes.Goals as goal

pub loop-j-init : goal.loop-j-init
unfolding words_of
loop-j-init c = record { done = refl; many = refl }

pub loop-j-preserved : goal.loop-j-preserved
loop-j-preserved c =
    let t = c.args.bytes.now in
    let es = c.as_chunks.result.0.now in
    let j = c.loop-j.j in
    let v = c.from_le_bytes.result in
    let i : j < length es = omega arith in
    let piece : get_or es j [] ≡ take 8 (drop (8 * j) t) = ap (λ (l : List (List ℕ)). get_or l j []) c.as_chunks.ensures.front ∙ chunk_at 8 (length t / 8) t j [] (omega arith) in
    let eight : length (get_or es j []) ≡ 8 = ap length piece ∙ length-take-le 8 (drop (8 * j) t) (omega (arith, length-drop (8 * j) t)) in
    record {
      done =
          take_more_set c.loop-j.words j v (omega arith) ∙ ap (λ (y : List ℕ). y ++ v ∷ []) c.loop-j.invariant.done
          ∙ ap (λ (y : ℕ). words_of j t ++ y ∷ []) (c.from_le_bytes.ensures ∙ number_eight (get_or es j []) eight ∙ ap le_number piece)
          ∙ sym (words_more j t);
      many = length-set c.loop-j.words j v ∙ c.loop-j.invariant.many;
    }

pub returns-then-not-is_empty : goal.returns-then-not-is_empty
returns-then-not-is_empty c =
    let t = c.args.bytes.now in
    let es = c.as_chunks.result.0.now in
    let tail = c.as_chunks.result.1.now in
    let k = length es in
    let jk : c.loop-j.j ≡ k = omega arith in
    let some = eqb-false (length tail) 0 (sym c.is_empty.ensures ∙ c.if-not-is_empty.true) in
    let v = c.word_of.result in
    let q : length t / 8 * 8 ≡ 8 * k = omega arith in
    let left : tail ≡ take 8 (drop (8 * k) t) = sym (take_all 8 tail (omega arith)) ∙ ap (take 8) (c.as_chunks.ensures.back ∙ ap (λ (m : ℕ). drop m t) q) in
    let e : take (k + 1) (set c.loop-j.words k v) ≡ words_of (k + 1) t =
    take_more_set c.loop-j.words k v (omega arith)
    ∙ ap (λ (x : List ℕ). x ++ v ∷ []) (ap (λ (m : ℕ). take m c.loop-j.words) (sym jk) ∙ c.loop-j.invariant.done ∙ ap (λ (m : ℕ). words_of m t) jk)
    ∙ ap (λ (x : ℕ). words_of k t ++ x ∷ []) (c.word_of.ensures ∙ ap le_number left)
    ∙ sym (words_more k t) in
    all_back (k + 1) t (set c.loop-j.words k v) e (omega (arith, length-set c.loop-j.words k v)) (omega arith) (λ i. (c.type_inv.bytes i).fits)

pub returns-else-not-is_empty : goal.returns-else-not-is_empty
returns-else-not-is_empty c =
    let none = eqb-true (length c.as_chunks.result.1.now) 0 (sym c.is_empty.ensures ∙ c.if-not-is_empty.false) in
    all_back c.loop-j.j c.args.bytes.now c.loop-j.words c.loop-j.invariant.done (omega arith) (omega arith) (λ i. (c.type_inv.bytes i).fits)

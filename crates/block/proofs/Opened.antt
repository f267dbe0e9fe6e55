-- A block as it is at first.
use Rattle.std.proofs.Common.{◌≡◌, ℕ, ◌+◌, ◌-◌, ◌*◌, ◌<◌, ◌≤◌, Bool, true, eqb, List, [], ◌∷◌, length, get_or, take, set, replicate, sym, refl, ap, ◌∙◌, subst, arith, lit≤, length-set, get_or-take, get_or-set_same}
use lib.Seq.{take-set-le}
use Rattle.model.specs.Records.{pick, bits, node, no_children}
use Rattle.model.specs.Verifier.{Stored, with_first_store, new_verifier}
use Rattle.path.specs.Packs.{word_bits, path_in, Packs}
use Rattle.slot.specs.Parts.{part, put}
use Rattle.slot.proofs.Parted.{length_put, part_put, part_before, part_part, at_before}
use Rattle.store.specs.Holding.{Holds}
use Rattle.block.specs.Blocks.{Keeps, block_words, store_in}

packs_root : Packs 0 (replicate 4 0)
unfolding word_bits bits
packs_root = (lit≤ tt, refl)

-- zeros, the salt, and a store
pub first_keeps : (n : ℕ) (b m : List ℕ) (xs : List Stored)
    → length b ≡ block_words n → take 8 b ≡ replicate 8 0 → length m ≡ 192 * n → Holds n (get_or b 8 0) m xs
    → Keeps n (put 64 (64 + 192 * n - 64) b m) (with_first_store xs)
first_keeps n b m xs size zeros len h =
    let e : 64 + 192 * n - 64 ≡ 192 * n = omega arith in
    let room : 64 + 192 * n ≤ length b = omega arith in
    let b' : List ℕ = put 64 (192 * n) b m in
    let at : (i : ℕ) → i < 64 → get_or b' i 0 ≡ get_or b i 0 = at_before 64 (192 * n) b m room len in
    let zero-at : (i : ℕ) → i < 8 → get_or b' i 0 ≡ get_or (replicate 8 0) i 0 = λ i lt. at i (omega arith) ∙ sym (get_or-take 8 b i 0 lt) ∙ ap (λ (w : List ℕ). get_or w i 0) zeros in
    let bits : part 3 4 b' ≡ replicate 4 0 = part_before 64 (192 * n) b m room len 3 4 (omega arith) ∙ sym (part_part 3 4 0 8 b (omega arith)) ∙ ap (part 3 4) zeros in
    let l2 : get_or b' 2 0 ≡ 0 = zero-at 2 (omega arith) in
    let kept : Keeps n b' (with_first_store xs) = record {
      size = length_put 64 (192 * n) b m room len ∙ size;
      clock = λ i. record { epoch = zero-at 0 (omega arith) i; counter = zero-at 1 (omega arith) i };
      packs = subst (λ (x : ℕ). Packs x (part 3 4 b')) (sym l2) (subst (Packs 0) (sym bits) packs_root);
      last = ap (λ (x : ℕ). path_in x (part 3 4 b')) l2;
      done = zero-at 7 (omega arith);
      store = subst (λ (x : ℕ). Holds n x (store_in n b') xs) (sym (at 8 (omega arith))) (subst (λ (w : List ℕ). Holds n (get_or b 8 0) w xs) (sym (part_put 64 (192 * n) b m room len)) h);
    } in
    subst (λ (x : ℕ). Keeps n (put 64 x b m) (with_first_store xs)) (sym e) kept

pub open_keeps : (n salt : ℕ) (b ys m : List ℕ) (xs : List Stored)
    → length b ≡ block_words n → ys ≡ replicate 8 0 → length m ≡ 192 * n → Holds n salt m xs
    → Keeps n (put 64 (64 + 192 * n - 64) (set (put 0 8 b ys) 8 salt) m) (with_first_store xs)
open_keeps n salt b ys m xs size zeros len h =
    let room : 0 + 8 ≤ length b = omega arith in
    let eight : length ys ≡ 8 = ap length zeros in
    let w : List ℕ = put 0 8 b ys in
    let long : length w ≡ length b = length_put 0 8 b ys room eight in
    let at-salt : get_or (set w 8 salt) 8 0 ≡ salt = get_or-set_same w 8 salt 0 (omega arith) in
    first_keeps n (set w 8 salt) m xs (length-set w 8 salt ∙ long ∙ size) (take-set-le 8 w 8 salt (omega arith) ∙ part_put 0 8 b ys room eight ∙ zeros) len
    (subst (λ (x : ℕ). Holds n x m xs) (sym at-salt) h)

-- the root, if the verifier is the first
pub first_store : (n salt t : ℕ) (m : List ℕ) (has : Bool) → has ≡ eqb t 0 → Holds n salt m (pick has (record { rec = node [] no_children; by_merkle = true } ∷ []) []) → Holds n salt m (new_verifier t).store
first_store n salt t m has e h = subst (λ (b : Bool). Holds n salt m (pick b (record { rec = node [] no_children; by_merkle = true } ∷ []) [])) e h

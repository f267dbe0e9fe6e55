-- What a write to a verifier's own words leaves of a block.
use Rattle.std.proofs.Common.{◌≡◌, ℕ, ◌+◌, ◌*◌, ◌<◌, ◌≤◌, ◌≢◌, List, length, get_or, set, sym, ap, ◌∙◌, subst, arith, length-set, get_or-set_other, get_or-set_same}
use Rattle.model.specs.Verifier.{Verifier, Stored}
use Rattle.path.specs.Packs.{path_in, Packs}
use Rattle.slot.specs.Parts.{part, put}
use Rattle.slot.proofs.Parted.{length_put, part_put, part_after, part_set_before, part_set_after, at_before, at_after}
use Rattle.store.specs.Holding.{Holds}
use Rattle.block.specs.Blocks.{Keeps, with_clock, with_done, salt_in, store_in}

-- the store is as it was where its words and its salt are
store_kept : (n : ℕ) (b b' : List ℕ) (xs : List Stored) → get_or b' 8 0 ≡ get_or b 8 0 → store_in n b' ≡ store_in n b → Holds n (salt_in b) (store_in n b) xs → Holds n (salt_in b') (store_in n b') xs
store_kept n b b' xs salt words h = subst (λ (x : ℕ). Holds n x (store_in n b') xs) (sym salt) (subst (λ (w : List ℕ). Holds n (salt_in b) w xs) (sym words) h)

-- the clock and the path evicted last
pub clock_written : (n : ℕ) (b : List ℕ) (v : Verifier) (e k l : ℕ) (ws : List ℕ) → Keeps n b v → length ws ≡ 4 → Packs l ws
    → Keeps n (put 3 4 (set (set (set b 0 e) 1 k) 2 l) ws) (with_clock v (record { epoch = e; counter = k }) (path_in l ws))
clock_written n b v e k l ws kept four packs =
    let size = kept.size in
    let b1 = set b 0 e in
    let b2 = set b1 1 k in
    let b3 = set b2 2 l in
    let l1 = length-set b 0 e in
    let l2 = length-set b1 1 k in
    let l3 = length-set b2 2 l in
    let room : 3 + 4 ≤ length b3 = omega arith in
    let b' : List ℕ = put 3 4 b3 ws in
    let front : (i : ℕ) → i < 3 → get_or b' i 0 ≡ get_or b3 i 0 = at_before 3 4 b3 ws room four in
    let back : (i : ℕ) → 7 ≤ i → get_or b' i 0 ≡ get_or b i 0 =
    λ i h.
    at_after 3 4 b3 ws room four i h ∙ get_or-set_other b2 2 i l 0 (λ z. omega arith) ∙ get_or-set_other b1 1 i k 0 (λ z. omega arith) ∙ get_or-set_other b 0 i e 0 (λ z. omega arith) in
    let len : get_or b' 2 0 ≡ l = front 2 (omega arith) ∙ get_or-set_same b2 2 l 0 (omega arith) in
    let bits : part 3 4 b' ≡ ws = part_put 3 4 b3 ws room four in
    record {
      size = length_put 3 4 b3 ws room four ∙ l3 ∙ l2 ∙ l1 ∙ size;
      clock = λ i. record {
        epoch = (front 0 (omega arith) ∙ get_or-set_other b2 2 0 l 0 (λ z. omega arith) ∙ get_or-set_other b1 1 0 k 0 (λ z. omega arith) ∙ get_or-set_same b 0 e 0 (omega arith)) i;
        counter = (front 1 (omega arith) ∙ get_or-set_other b2 2 1 l 0 (λ z. omega arith) ∙ get_or-set_same b1 1 k 0 (omega arith)) i;
      };
      packs = subst (λ (x : ℕ). Packs x (part 3 4 b')) (sym len) (subst (Packs l) (sym bits) packs);
      last = ap (λ (x : ℕ). path_in x (part 3 4 b')) len ∙ ap (path_in l) bits;
      done = back 7 (omega arith) ∙ kept.done;
      store = store_kept n b b' v.store (back 8 (omega arith))
          (part_after 3 4 b3 ws room four 64 (192 * n) (omega arith) ∙ part_set_after 64 (192 * n) 2 b2 l (omega arith) ∙ part_set_after 64 (192 * n) 1 b1 k (omega arith) ∙ part_set_after 64 (192 * n) 0 b e (omega arith))
          kept.store;
    }

-- how many epochs it is done with
pub done_written : (n : ℕ) (b : List ℕ) (v : Verifier) (d : ℕ) → Keeps n b v → Keeps n (set b 7 d) (with_done v d)
done_written n b v d kept =
    let size = kept.size in
    let b' : List ℕ = set b 7 d in
    let at : (i : ℕ) → i ≢ 7 → get_or b' i 0 ≡ get_or b i 0 = λ i ne. get_or-set_other b 7 i d 0 ne in
    let len = at 2 (λ z. omega arith) in
    let bits : part 3 4 b' ≡ part 3 4 b = part_set_before 3 4 7 b d (omega arith) in
    record {
      size = length-set b 7 d ∙ size;
      clock = (λ i. record { epoch = at 0 (λ z. omega arith) i; counter = at 1 (λ z. omega arith) i }) ∙ kept.clock;
      packs = subst (λ (x : ℕ). Packs x (part 3 4 b')) (sym len) (subst (Packs (get_or b 2 0)) (sym bits) kept.packs);
      last = ap (λ (x : ℕ). path_in x (part 3 4 b')) len ∙ ap (path_in (get_or b 2 0)) bits ∙ kept.last;
      done = get_or-set_same b 7 d 0 (omega arith);
      store = store_kept n b b' v.store (at 8 (λ z. omega arith)) (part_set_after 64 (192 * n) 7 b d (omega arith)) kept.store;
    }

-- What a write to the store leaves of a block.
use Rattle.std.proofs.Common.{◌≡◌, ℕ, ◌+◌, ◌-◌, ◌*◌, ◌≤◌, List, [], ◌++◌, length, get_or, take, drop, sym, ap, ◌∙◌, subst, append-nil, arith, length-drop, take_all}
use Rattle.std.proofs.lemmas.List.{drop_all}
use Rattle.model.specs.Verifier.{Verifier, Stored, with_store}
use Rattle.path.specs.Packs.{path_in, Packs}
use Rattle.slot.specs.Parts.{part, put}
use Rattle.slot.proofs.Parted.{length_part, length_put, part_put, part_before, at_before}
use Rattle.store.specs.Holding.{Holds}
use Rattle.store.specs.Stores.{Contains}
use Rattle.store.specs.declared.StoreRef.{StoreRef}
use Rattle.block.specs.Blocks.{IsStoreOf, Keeps, block_words, salt_in, store_in}

-- the store's words, as code takes them
pub store_taken : (n : ℕ) (b : List ℕ) → part 64 (64 + 192 * n - 64) b ≡ store_in n b
store_taken n b = let e : 64 + 192 * n - 64 ≡ 192 * n = omega arith in ap (λ (k : ℕ). part 64 k b) e

pub taken_holds : (n : ℕ) (b : List ℕ) (v : Verifier) → Keeps n b v → Holds n (salt_in b) (part 64 (64 + 192 * n - 64) b) v.store
taken_holds n b v k = subst (λ (m : List ℕ). Holds n (salt_in b) m v.store) (sym (store_taken n b)) k.store

-- a store that is lent to be read
pub viewed : (n : ℕ) (b : List ℕ) (v : Verifier) (s : StoreRef) → IsStoreOf n b s → Keeps n b v → Contains s v.store
viewed n b v s e k =
    subst (λ (m : ℕ). Holds m s.salt s.words.now v.store) (sym e.places)
    (subst (λ (t : ℕ). Holds n t s.words.now v.store) (sym e.salt) (subst (λ (m : List ℕ). Holds n (salt_in b) m v.store) (sym e.words) k.store))

-- other words in the store, and the rest as it was
pub store_written : (n : ℕ) (b m : List ℕ) (v : Verifier) (xs : List Stored) → Keeps n b v → length m ≡ length (part 64 (64 + 192 * n - 64) b) → Holds n (salt_in b) m xs → Keeps n (put 64 (64 + 192 * n - 64) b m) (with_store v xs)
store_written n b m v xs k as_many h =
    let e : 64 + 192 * n - 64 ≡ 192 * n = omega arith in
    let size = k.size in
    let room : 64 + 192 * n ≤ length b = omega arith in
    let len : length m ≡ 192 * n = as_many ∙ ap length (store_taken n b) ∙ length_part 64 (192 * n) b room in
    let b' : List ℕ = put 64 (192 * n) b m in
    let at : (i : ℕ) → i ≤ 63 → get_or b' i 0 ≡ get_or b i 0 = λ i h. at_before 64 (192 * n) b m room len i (omega arith) in
    let bits : part 3 4 b' ≡ part 3 4 b = part_before 64 (192 * n) b m room len 3 4 (omega arith) in
    let l2 = at 2 (omega arith) in
    let kept : Keeps n b' (with_store v xs) = record {
      size = length_put 64 (192 * n) b m room len ∙ k.size;
      clock = (λ i. record { epoch = at 0 (omega arith) i; counter = at 1 (omega arith) i }) ∙ k.clock;
      packs = subst (λ (x : ℕ). Packs x (part 3 4 b')) (sym l2) (subst (Packs (get_or b 2 0)) (sym bits) k.packs);
      last = ap (λ (x : ℕ). path_in x (part 3 4 b')) l2 ∙ ap (path_in (get_or b 2 0)) bits ∙ k.last;
      done = at 7 (omega arith) ∙ k.done;
      store = subst (λ (x : ℕ). Holds n x (store_in n b') xs) (sym (at 8 (omega arith))) (subst (λ (w : List ℕ). Holds n (salt_in b) w xs) (sym (part_put 64 (192 * n) b m room len)) h);
    } in
    subst (λ (x : ℕ). Keeps n (put 64 x b m) (with_store v xs)) (sym e) kept

-- the store is what comes after a block's own words
pub rest_store : (n : ℕ) (b : List ℕ) → length b ≡ block_words n → store_in n b ≡ drop 64 b
rest_store n b size = let l = length-drop 64 b in take_all (192 * n) (drop 64 b) (omega arith)

-- the front as it was, and other words in the store
pub store_split : (n : ℕ) (b f m : List ℕ) (v : Verifier) (xs : List Stored) → Keeps n b v → f ≡ take 64 b → length m ≡ 192 * n → Holds n (salt_in b) m xs → Keeps n (f ++ m) (with_store v xs)
store_split n b f m v xs k front len h =
    let e : 64 + 192 * n - 64 ≡ 192 * n = omega arith in
    let size = k.size in
    let room : 64 + 192 * n ≤ length b = omega arith in
    let l : length (drop 64 b) ≡ length b - 64 = length-drop 64 b in
    let none : drop (192 * n) (drop 64 b) ≡ [] = drop_all (192 * n) (drop 64 b) (omega arith) in
    let as_many : length m ≡ length (part 64 (64 + 192 * n - 64) b) = len ∙ sym (ap length (store_taken n b) ∙ length_part 64 (192 * n) b room) in
    let w : put 64 (64 + 192 * n - 64) b m ≡ f ++ m =
    ap (λ (j : ℕ). put 64 j b m) e ∙ ap (λ (y : List ℕ). take 64 b ++ (m ++ y)) none ∙ ap (λ (y : List ℕ). take 64 b ++ y) (append-nil m) ∙ ap (λ (y : List ℕ). y ++ m) (sym front) in
    subst (λ (y : List ℕ). Keeps n y (with_store v xs)) w (store_written n b m v xs k as_many h)

-- the words that were lent, once they are given back
pub keeps_back : (n : ℕ) (f x m : List ℕ) (v : Verifier) → x ≡ m → Keeps n (f ++ m) v → Keeps n (f ++ x) v
keeps_back n f x m v e k = subst (λ (y : List ℕ). Keeps n (f ++ y) v) (sym e) k

-- the same words, lent to be written
pub relent : (n : ℕ) (b w rest : List ℕ) (s : StoreRef) → IsStoreOf n b s → length b ≡ block_words n → w ≡ rest → rest ≡ drop 64 b → w ≡ s.words.now
relent n b w rest s e size h g = h ∙ g ∙ sym (rest_store n b size) ∙ sym e.words

pub from_view : (n : ℕ) (b m : List ℕ) (s : StoreRef) (xs : List Stored) → IsStoreOf n b s → Holds s.places s.salt m xs → Holds n (salt_in b) m xs
from_view n b m s xs e h = subst (λ (j : ℕ). Holds j (salt_in b) m xs) e.places (subst (λ (t : ℕ). Holds s.places t m xs) e.salt h)

-- What was gathered behind other bytes, and a walk of the store in a block whose store was written.
use Rattle.std.proofs.Common.{◌≡◌, ℕ, ◌+◌, ◌-◌, ◌*◌, ◌≤◌, List, ◌++◌, length, get_or, take, drop, sym, ap, ◌∙◌, subst, ap₂, arith, take_all}
use lib.Seq.{take-paste}
use Rattle.std.proofs.lemmas.List.{drop_at, get_or_append_left, get_or-take, length-take-le}
use Rattle.store.specs.Holding.{Walked}
use Rattle.gather.specs.Wrote.{Wrote}
use Rattle.block.specs.Blocks.{Leads, block_words, salt_in, store_in}

pub gathered : (d ks bs d' : List ℕ) (at past : ℕ) → take at d ≡ ks → at ≤ length d → Wrote d at bs d' past → take (past - 0) (drop 0 d') ≡ ks ++ bs
gathered d ks bs d' at past e room w =
    let l : past - 0 ≡ at + length bs = let x = w.end in omega arith in
    ap (λ (k : ℕ). take k (drop 0 d')) l
    ∙ ap (take (at + length bs)) w.bytes
    ∙ take-paste d at bs (length bs) room (omega arith)
    ∙ ap₂ (λ (x y : List ℕ). x ++ y) e (take_all (length bs) bs (omega arith))

-- a walk of the store in a block whose front is as it was
pub walked_split : (n : ℕ) (b f m : List ℕ) (k : ℕ) (ws : List ℕ) (i : ℕ) → length b ≡ block_words n → f ≡ take 64 b → length m ≡ 192 * n
    → Walked n (salt_in b) m k ws i → Leads n (f ++ m) k ws i
walked_split n b f m k ws i size front len w =
    let l : length f ≡ 64 = ap length front ∙ length-take-le 64 b (omega arith) in
    let salt : salt_in (f ++ m) ≡ salt_in b = get_or_append_left f m 0 8 (omega arith) ∙ ap (λ (x : List ℕ). get_or x 8 0) front ∙ get_or-take 64 b 8 0 (omega arith) in
    let words : store_in n (f ++ m) ≡ m = ap (take (192 * n)) (drop_at f m 64 l) ∙ take_all (192 * n) m (omega arith) in
    record { walked = subst (λ (s : ℕ). Walked n s (store_in n (f ++ m)) k ws i) (sym salt) (subst (λ (x : List ℕ). Walked n (salt_in b) x k ws i) (sym words) w) }

pub leads_back : (n : ℕ) (f x m : List ℕ) (k : ℕ) (ws : List ℕ) (i : ℕ) → x ≡ m → Leads n (f ++ m) k ws i → Leads n (f ++ x) k ws i
leads_back n f x m k ws i e w = subst (λ (y : List ℕ). Leads n (f ++ y) k ws i) (sym e) w

-- What is held, and found, after a write to one slot that leaves its path.
use Rattle.std.proofs.Common.{◌≡◌, ℕ, ◌+◌, ◌*◌, ◌<◌, ◌≤◌, true, ◌&&◌, eqb, List, [], ◌∷◌, length, get_or, sym, refl, ap, ◌∙◌, subst, ⊎_elim, arith}
use Rattle.std.proofs.lemmas.Bool.{cases_eq}
use Rattle.model.specs.Records.{Path, Record, path_of, same_bytes}
use Rattle.model.specs.Verifier.{Stored, find, updated}
use Rattle.path.specs.Packs.{path_in, Fit}
use Rattle.path.proofs.Same.{same_true}
use Rattle.slot.specs.Parts.{part, put}
use Rattle.slot.specs.Layout.{rec_in, stored_in, slot_path, Slot}
use Rattle.slot.specs.Finds.{position}
use Rattle.slot.specs.Edits.{KeepsPath, Edited}
use Rattle.slot.proofs.Parted.{part_put, part_before, fit_part}
use Rattle.slot.proofs.Finding.{position_is, updated_same}
use Rattle.index.specs.Chains.{says, Chain}
use Rattle.store.specs.Holding.{home, slot_at, stored_at, Held, Holds, Walked}
use Rattle.store.proofs.Members.{other_slot, says_is, position_same}
use Rattle.store.proofs.Held.{found, found_at, in_n, length_chain, held_updated}

-- the slot at which a walk ends is the path's
pub walk_end : (n salt : ℕ) (m : List ℕ) (ss : List Stored) (H : Holds n salt m ss) (k : ℕ) (ws : List ℕ) (i : ℕ) → Walked n salt m k ws i
    → i ≡ get_or (get_or H.0 (home n salt k ws) []) (position (λ j. says k ws (slot_at n m j)) (get_or H.0 (home n salt k ws) [])) n
walk_end n salt m ss H k ws i W =
    W.ends (get_or H.0 (home n salt k ws) []) (H.1.index.chain (home n salt k ws) (in_n n salt m H.0 ss H.1 W.fit k ws W.packing))
    (length_chain n salt m H.0 ss H.1 W.fit k ws W.packing)

pub walked_slot : (n salt : ℕ) (m : List ℕ) (ss : List Stored) → Holds n salt m ss → (k : ℕ) (ws : List ℕ) (i : ℕ) → Walked n salt m k ws i → i < n
    → Slot (slot_at n m i) × (path_in k ws ≡ slot_path (slot_at n m i))
walked_slot n salt m ss H k ws i W h =
    let cs = H.0 in
    let x : Held n salt m cs ss = H.1 in
    let T = λ (j : ℕ). says k ws (slot_at n m j) in
    let is = get_or cs (home n salt k ws) [] in
    let K = position T is in
    let w = slot_at n m i in
    let e = walk_end n salt m ss H k ws i W in
    let slot : Slot w = (found n salt m cs ss x W.fit k ws W.packing i e).slot h in
    let said : says k ws w ≡ true =
    subst (λ (j : ℕ). says k ws (slot_at n m j) ≡ true) (sym e) (position_is T is K n refl (found_at n salt m cs ss x W.fit k ws W.packing i e h)) in (
      slot,
      same_true (path_in k ws) (path_of (rec_in w)) (sym (says_is k ws w W.packing slot (fit_part 3 4 w (fit_part (2 * n + i * 190) 190 m W.fit))) ∙ said) ∙ slot.shaped.path,
    )

module _ (n : ℕ) (m : List ℕ) (i : ℕ) (w : List ℕ) (room : 2 * n + i * 190 + 190 ≤ length m) (size : length w ≡ 190) (kept : KeepsPath (slot_at n m i) w) where
  written : slot_at n (put (2 * n + i * 190) 190 m w) i ≡ w
  written = part_put (2 * n + i * 190) 190 m w room size

  others : (j : ℕ) → (j ≡ i → ⊥) → slot_at n (put (2 * n + i * 190) 190 m w) j ≡ slot_at n m j
  others j ne = other_slot n i j m w room size ne

  index_same : part 0 (2 * n) (put (2 * n + i * 190) 190 m w) ≡ part 0 (2 * n) m
  index_same = part_before (2 * n + i * 190) 190 m w room size 0 (2 * n) (omega arith)

  said_same : (k : ℕ) (ws : List ℕ) (j : ℕ) → says k ws (slot_at n m j) ≡ says k ws (slot_at n (put (2 * n + i * 190) 190 m w) j)
  said_same k ws j =
      let m' = put (2 * n + i * 190) 190 m w in
      ⊎_elim
      (λ (e : j ≡ i).
      ap (λ (q : ℕ). says k ws (slot_at n m q)) e
      ∙ ap (λ (q : ℕ). eqb q k && same_bytes (part 3 4 (slot_at n m i)) ws) (sym kept.len)
      ∙ ap (λ (q : List ℕ). eqb (get_or w 2 0) k && same_bytes q ws) (sym kept.bits)
      ∙ ap (says k ws) (sym written)
      ∙ ap (λ (q : ℕ). says k ws (slot_at n m' q)) (sym e))
      (λ (ne : j ≡ i → ⊥). ap (says k ws) (sym (others j ne)))
      (cases_eq j i)

  pub walked_on : Fit (put (2 * n + i * 190) 190 m w) → (salt k : ℕ) (ws : List ℕ) (r : ℕ) → Walked n salt m k ws r → Walked n salt (put (2 * n + i * 190) 190 m w) k ws r
  walked_on fit salt k ws r W =
      let m' = put (2 * n + i * 190) 190 m w in
      record {
        packing = W.packing;
        fit = fit;
        ends = λ is h l.
            W.ends is (subst (λ (q : List ℕ). Chain n q (get_or q (home n salt k ws) 0) is) index_same h) l
            ∙ ap (λ (q : ℕ). get_or is q n) (position_same (λ j. says k ws (slot_at n m j)) (λ j. says k ws (slot_at n m' j)) is (λ j _. said_same k ws j));
      }

  pub held_edited : (salt : ℕ) (ss : List Stored) (k : ℕ) (ws : List ℕ) → Holds n salt m ss → Walked n salt m k ws i → i < n → (new : Record) → Edited (slot_at n m i) w new
      → Holds n salt (put (2 * n + i * 190) 190 m w) (updated new ss)
  held_edited salt ss k ws H W h new E =
      let cs = H.0 in
      let x : Held n salt m cs ss = H.1 in
      let T = λ (j : ℕ). says k ws (slot_at n m j) in
      let is = get_or cs (home n salt k ws) [] in
      let e = walk_end n salt m ss H k ws i W in
      let sp = walked_slot n salt m ss H k ws i W h in
      let path_is : path_of new ≡ path_in k ws =
      ap path_of (sym E.rec) ∙ E.slot.shaped.path
      ∙ ap (λ (q : ℕ). path_in q (part 3 4 w)) kept.len ∙ ap (path_in (get_or (slot_at n m i) 2 0)) kept.bits ∙ sym sp.1 in
      let stored_is : stored_in w ≡ record { rec = new; by_merkle = (stored_at n m i).by_merkle } =
      ap (λ (r : Record). record { rec = r; by_merkle = eqb (get_or w 1 0) 1 }) E.rec ∙ ap (λ (q : ℕ). record { rec = new; by_merkle = eqb q 1 }) E.added in (
        cs,
        held_updated n salt m cs ss x W.fit k ws W.packing i (position T is) refl (found_at n salt m cs ss x W.fit k ws W.packing i e h) e
            (put (2 * n + i * 190) 190 m w) w new written others E.slot kept.len kept.bits stored_is path_is index_same,
      )

  -- the same record, with another hash beside it
  pub held_rehashed : (salt : ℕ) (ss : List Stored) (k : ℕ) (ws : List ℕ) → Holds n salt m ss → Walked n salt m k ws i → i < n → Edited (slot_at n m i) w (rec_in (slot_at n m i))
      → Holds n salt (put (2 * n + i * 190) 190 m w) ss
  held_rehashed salt ss k ws H W h E =
      let sp = walked_slot n salt m ss H k ws i W h in
      let r = rec_in (slot_at n m i) in
      let found_it : find (path_in k ws) ss ≡ stored_at n m i ∷ [] = (found n salt m H.0 ss H.1 W.fit k ws W.packing i (walk_end n salt m ss H k ws i W)).some h in
      let path : path_in k ws ≡ path_of r = sp.1 ∙ sym sp.0.shaped.path in
      subst (Holds n salt (put (2 * n + i * 190) 190 m w))
      (updated_same r ss (stored_at n m i) (ap (λ (p : Path). find p ss) (sym path) ∙ found_it) refl)
      (held_edited salt ss k ws H W h r E)

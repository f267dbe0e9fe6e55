use Rattle.std.proofs.Common.{◌≡◌, ℕ, ◌+◌, ◌-◌, ◌*◌, ◌≤◌, List, length, sym, ap, ◌∙◌, subst, arith}
use Rattle.model.specs.Records.{merkle_hash}
use Rattle.path.specs.Packs.{Fit}
use Rattle.slot.specs.Parts.{part, put}
use Rattle.slot.specs.Layout.{rec_in, Slot}
use Rattle.slot.specs.Edits.{KeepsPath, Edited}
use Rattle.slot.proofs.Parted.{length_part}
use Rattle.store.specs.Holding.{slot_at, Holds, Walked}
use Rattle.store.proofs.Edits.{walked_slot, walked_on, held_rehashed}
use Rattle.store.proofs.write_hash.Goals as goal

pub returns : goal.returns
returns c =
    let n = c.args.n in
    let m = c.args.mem.now in
    let i = c.args.i in
    let a = 2 * n + i * 190 in
    let w = c.set_hash.new.slot in
    let room : a + 190 ≤ length m = omega (arith, c.requires.room, c.requires.within) in
    let q : a + 190 - a ≡ 190 = omega arith in
    let p : part a (a + 190 - a) m ≡ slot_at n m i = ap (λ (k : ℕ). part a k m) q in
    let size : length w ≡ 190 = c.set_hash.auto.slot ∙ ap length p ∙ length_part a 190 m room in
    let kept : KeepsPath (slot_at n m i) w = subst (λ (v : List ℕ). KeepsPath v w) p c.set_hash.ensures.kept in
    let e : put a (a + 190 - a) m w ≡ put a 190 m w = ap (λ (k : ℕ). put a k m w) q in
    record {
      stay = λ salt k ws r W. subst (λ (v : List ℕ). Walked n salt v k ws r) (sym e) (walked_on n m i w room size kept (subst Fit e (λ j. (c.type_inv.mem j).fits)) salt k ws r W);
      stored = λ salt ss k ws H W nk.
          let sp = walked_slot n salt m ss H k ws i W c.requires.within in
          let E : Edited (slot_at n m i) w (rec_in (slot_at n m i)) =
          subst (λ (v : List ℕ). Edited v w (rec_in v)) p
          (c.set_hash.ensures.edited (subst Slot (sym p) sp.0) (nk ∙ ap (λ (v : List ℕ). merkle_hash (rec_in v)) (sym p))) in
          subst (λ (v : List ℕ). Holds n salt v ss) (sym e) (held_rehashed n m i w room size kept salt ss k ws H W c.requires.within E);
    }

use Rattle.std.proofs.Common.{◌≡◌, ℕ, ◌+◌, ◌-◌, ◌*◌, ◌<◌, ◌≤◌, List, length, get_or, sym, ap, ◌∙◌, subst, arith}
use Rattle.model.specs.Verifier.{Stored}
use Rattle.slot.specs.Parts.{part, put}
use Rattle.slot.specs.Layout.{stored_in, Slot}
use Rattle.slot.specs.Meant.{record_meant}
use Rattle.slot.proofs.Parted.{length_part}
use Rattle.store.specs.Holding.{slot_at, stored_at, Holds, Added}
use Rattle.store.proofs.Held.{holds_free}
use Rattle.store.proofs.Store.add.Goals as goal

pub returns-in_err-i-clause-full : goal.returns-in_err-i-clause-full
returns-in_err-i-clause-full c = λ ss H. rw c.from_residual.ensures (c.in_err-i.ensures.full c.args.self.now.salt ss H)

pub returns-clause-full : goal.returns-clause-full
returns-clause-full c = λ ss H. c.in_ok-i.ensures.full c.args.self.now.salt ss H

pub returns-clause-stored : goal.returns-clause-stored
returns-clause-stored c = λ ss H p.
    let n = c.args.self.now.places in
    let salt = c.args.self.now.salt in
    let m = c.args.self.now.words.now in
    let i = c.in_ok-i.i in
    let a = 2 * n + i * 190 in
    let w = c.write_record.new.slot in
    let within : i < n = c.in_ok-i.ensures.within in
    let room : a + 190 ≤ length m = omega (arith, c.args.self.now.room) in
    let q : a + 190 - a ≡ 190 = omega arith in
    let size : length w ≡ 190 = c.write_record.auto.slot ∙ ap (λ (k : ℕ). length (part a k m)) q ∙ length_part a 190 m room in
    let e : put a (a + 190 - a) m w ≡ put a 190 m w = ap (λ (k : ℕ). put a k m w) q in
    let f = holds_free n salt m ss H i c.in_ok-i.ensures.free w room size in
    let m1 = put a (a + 190 - a) m w in
    let at : slot_at n m1 i ≡ w = ap (λ (l : List ℕ). slot_at n l i) e ∙ f.2 in
    let new : stored_at n m1 i ≡ record { rec = record_meant c.args.path.now c.args.contents; by_merkle = c.args.by_merkle } = ap stored_in at ∙ (c.write_record.ensures p).1 in
    subst (λ (x : Stored). Added n salt c.link_first.new.mem ss x i) new
    (c.link_first.ensures ss (subst (λ (l : List ℕ). Holds n salt l ss) (sym e) f.0) (ap (λ (l : List ℕ). get_or l (n - 1) 0) e ∙ f.1) (subst Slot (sym at) (c.write_record.ensures p).0))

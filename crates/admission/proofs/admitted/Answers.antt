use Rattle.std.proofs.Common.{◌≡◌, ℕ, ◌+◌, ◌≤◌, Bool, true, false, ◌&&◌, leb, length, sym, ap, ◌∙◌, arith}
use Rattle.std.proofs.lemmas.Bool.{lt-ltb, le-ltb}
use Rattle.model.specs.Verifier.{Verifier, Entry}
use Rattle.model.specs.Monitor.{Limits, State, verifier_at, entry_code, is_add, epoch_named, fits_32, store_full, too_far_ahead}
use Rattle.model.specs.Order.{all_entries}
use Rattle.model.specs.Program.{GoodLimits}
use Rattle.wire.specs.Meaning.{entry_of}
use Rattle.admission.specs.declared.standing.Standing.{Standing}
use Rattle.admission.specs.Stand.{Stands, Named}
use Rattle.admission.proofs.Refusals.{beyond, stopped_before, no_room, too_far, taken, far, near}
use Rattle.admission.proofs.admitted.Goals as goal

-- what code's tests say, in the definitions' words
supported : (l : Limits) (e : Entry) → GoodLimits all_entries l → l.supports (entry_code e) ≡ true
supported l e g = g.entries (entry_code e)

fits : (v : Verifier) (e : Entry) (r : ℕ) → Named r (epoch_named v e) → r ≤ 4294967295 → fits_32 (epoch_named v e) ≡ true
fits v e r n h = sym n.fits ∙ lt-ltb r 4294967296 (omega arith)

-- the epoch is the one named
epoch_is : (v : Verifier) (e : Entry) (r : ℕ) → Named r (epoch_named v e) → r ≤ 4294967295 → r ≡ epoch_named v e
epoch_is v e r n h = n.is (lt-ltb r 4294967296 (omega arith))

fullness : (x : Standing) (l : Limits) (s : State) (v : Verifier) (e : Entry) (b : Bool) → Stands x l s → b ≡ (is_add e && leb x.places (length v.store)) → store_full l v e ≡ b
fullness x l s v e b st i = ap (λ (n : ℕ). is_add e && leb n (length v.store)) st.places ∙ sym i

distance : (x : Standing) (l : Limits) (s : State) (n r : ℕ) (b : Bool) → Stands x l s → r ≡ n → leb (x.certified + x.epochs) r ≡ b → too_far_ahead l s n ≡ b
distance x l s n r b st h i = ap (λ (k : ℕ). leb (k + l.epochs) n) st.certified ∙ ap (λ (k : ℕ). leb (x.certified + k) n) st.epochs ∙ ap (leb (x.certified + x.epochs)) (sym h) ∙ i

pub returns-then-epoch-gt-LAST_EPOCH-clause-refusal : goal.returns-then-epoch-gt-LAST_EPOCH-clause-refusal
returns-then-epoch-gt-LAST_EPOCH-clause-refusal c = λ l s t g st lt k.
    beyond l s t _ (sym (c.named_epoch-epoch.ensures c.args.standing.places (verifier_at s.verifiers t) k).fits ∙ le-ltb c.named_epoch-epoch.result 4294967296 (omega (arith, c.if-epoch-gt-LAST_EPOCH.true)))

pub returns-then-standing-clause-refusal : goal.returns-then-standing-clause-refusal
returns-then-standing-clause-refusal c = λ l s t g st lt k.
    let e = entry_of c.args.entry in
    let v = verifier_at s.verifiers t in
    let named = c.named_epoch-epoch.ensures c.args.standing.places v k in
    stopped_before l s t e lt (supported l e g) (sym (c.in-Some.ensures.some l st.verifiers)) (fits v e _ named c.if-epoch-gt-LAST_EPOCH.false)
    (st.stopped ∙ c.if-standing.true)

pub returns-then-lacks_room-clause-refusal : goal.returns-then-lacks_room-clause-refusal
returns-then-lacks_room-clause-refusal c = λ l s t g st lt k.
    let e = entry_of c.args.entry in
    let v = verifier_at s.verifiers t in
    let named = c.named_epoch-epoch.ensures c.args.standing.places v k in
    no_room l s t e lt (supported l e g) (sym (c.in-Some.ensures.some l st.verifiers)) (fits v e _ named c.if-epoch-gt-LAST_EPOCH.false)
    (st.stopped ∙ c.if-standing.false)
    (fullness c.args.standing l s v e true st (c.if-lacks_room.ensures v k))

pub returns-then-epoch-saturating_add-clause-refusal : goal.returns-then-epoch-saturating_add-clause-refusal
returns-then-epoch-saturating_add-clause-refusal c = λ l s t g st lt k.
    let e = entry_of c.args.entry in
    let v = verifier_at s.verifiers t in
    let named = c.named_epoch-epoch.ensures c.args.standing.places v k in
    too_far l s t e lt (supported l e g) (sym (c.in-Some.ensures.some l st.verifiers)) (fits v e _ named c.if-epoch-gt-LAST_EPOCH.false)
    (st.stopped ∙ c.if-standing.false)
    (fullness c.args.standing l s v e false st (c.if-lacks_room.ensures v k))
    (distance c.args.standing l s _ c.named_epoch-epoch.result true st (epoch_is v e _ named c.if-epoch-gt-LAST_EPOCH.false) (far _ _ _ _ c.saturating_add.ensures c.if-epoch-gt-LAST_EPOCH.false c.if-epoch-saturating_add.true))

pub returns-clause-refusal : goal.returns-clause-refusal
returns-clause-refusal c = λ l s t g st lt k.
    let e = entry_of c.args.entry in
    let v = verifier_at s.verifiers t in
    let named = c.named_epoch-epoch.ensures c.args.standing.places v k in
    taken l s t e lt (supported l e g) (sym (c.in-Some.ensures.some l st.verifiers)) (fits v e _ named c.if-epoch-gt-LAST_EPOCH.false)
    (st.stopped ∙ c.if-standing.false)
    (fullness c.args.standing l s v e false st (c.if-lacks_room.ensures v k))
    (distance c.args.standing l s _ c.named_epoch-epoch.result false st (epoch_is v e _ named c.if-epoch-gt-LAST_EPOCH.false) (near _ _ _ _ c.saturating_add.ensures c.if-epoch-gt-LAST_EPOCH.false c.if-epoch-saturating_add.false))

-- A program that does what the contracts say does what is promised, after any log.
use Rattle.std.proofs.Common.{◌≡◌, ℕ, zero, suc, ◌<◌, true, List, [], ◌∷◌, sym, refl, ap, ◌∙◌, subst, arith}
use Rattle.std.proofs.lemmas.Bool.{and_parts, lt-ltb}
use Rattle.model.specs.Monitor.{Limits, Event, State, logged, malformed, refusal, refused, answer, state, place_of, Response}
use Rattle.model.specs.Order.{all_entries}
use Rattle.model.specs.Program.{Monitor, memory, GoodLimits, Right, RefusalKeeps, EnoughMemory}
use Rattle.model.specs.Readable.{all_below, readable, all_readable}
use Rattle.model.specs.Wire.{read, event_bytes, EventsReadBack}
use Rattle.path.specs.Packs.{Fit}
use Rattle.wire_laws.proofs.Events.{events_read_back}
use Rattle.wire.specs.declared.parts.Answer.{Answer}
use Rattle.wire.specs.declared.parts.Answer.TheVariants.{Refused, Wrong, Right as RightAnswer, Certified}
use Rattle.wire.specs.Meaning.{answer_of}
use Rattle.memory.specs.Keeping.{Kept}
use Rattle.watch.specs.Promise.{IsRefused}
use Rattle.watch.specs.Whole.{ByContract, Faithful}
use Rattle.watch.proofs.Responses.{refuses}

fit_below : (m : List ℕ) → Fit m → all_below 18446744073709551616 m ≡ true
unfolding all_below
fit_below [] f = refl
fit_below (x ∷ m) f = rw (lt-ltb x 18446744073709551616 (f 0), fit_below m (λ i. f (suc i))) refl

-- an answer that is a refusal, as code has it
refused_is : (r : Answer) (c p : ℕ) → answer_of r ≡ refused c p → IsRefused r
refused_is (Refused d q) c p e = tt
refused_is Wrong c p e = absurd (let z : ◌≡◌ {A = ℕ} 0 1 = cc in omega arith)
refused_is RightAnswer c p e = absurd (let z : ◌≡◌ {A = ℕ} 0 1 = cc in omega arith)
refused_is (Certified n) c p e = absurd (let z : ◌≡◌ {A = ℕ} 0 1 = cc in omega arith)

refusal_answers : (l : Limits) (s : State) (e : Event) (k : ℕ) → refusal l s e ≡ k → 0 < k → answer l s e ≡ refused k (place_of e)
refusal_answers l s e zero h pos = absurd (omega arith)
refusal_answers l s e (suc k) h pos = ap (λ (x : Response). x.answer) (refuses l s e k h)

-- what is promised of one event
record Does (f : Monitor) (l : Limits) (es : List Event) (m : List ℕ) (e : Event) : Type 0 where
  says : f.says m e ≡ answer l (state l es) e
  kept : Kept l (f.called m e) (state l (e ∷ es))
  fit : Fit (f.called m e)
  keeps : 0 < refusal l (state l es) e → f.called m e ≡ m

module _ (f : Monitor) (by : ByContract f) (l : Limits) (good : GoodLimits all_entries l) where
  of_bytes : (es : List Event) (m : List ℕ) (bs : List ℕ) → Kept l m (state l es) → Fit m → Does f l es m (read bs)
  of_bytes es m bs k fit =
      let t = by.takes m bs in
      let a = t.1.1.answers l es good k in
      record {
        says = t.1.0 ∙ a.answered;
        kept = a.kept;
        fit = t.1.1.fit fit;
        keeps = λ pos. t.1.1.same (refused_is t.0 _ _ (a.answered ∙ refusal_answers l (state l es) (read bs) _ refl pos));
      }

  one : (es : List Event) (m : List ℕ) (e : Event) → readable e ≡ true → Kept l m (state l es) → Fit m → Does f l es m e
  unfolding EventsReadBack
  one es m (logged t x) r k fit = subst (Does f l es m) (events_read_back t x r) (of_bytes es m (event_bytes t x) k fit)
  one es m (malformed n) r k fit =
      let c = by.cut_answers m n in
      let a = c.1.1 l es good k in
      let same = by.cuts m n in
      record { says = c.1.0 ∙ a.answered; kept = subst (λ (w : List ℕ). Kept l w (state l (malformed n ∷ es))) (sym same) a.kept; fit = subst Fit (sym same) fit; keeps = λ _. same }

  record Held (es : List Event) : Type 0 where
    kept : Kept l (memory f l es) (state l es)
    fit : Fit (memory f l es)

  held : (es : List Event) → all_readable es ≡ true → Held es
  unfolding memory all_readable state
  held [] r = record { kept = by.opens l good; fit = by.opens_fit l good }
  held (e ∷ es) r =
      let p = and_parts (readable e) (all_readable es) r in
      let h = held es p.1 in
      let d = one es (memory f l es) e p.0 h.kept h.fit in
      record { kept = d.kept; fit = d.fit }

  did : (es : List Event) (e : Event) → all_readable (e ∷ es) ≡ true → Does f l es (memory f l es) e
  unfolding all_readable
  did es e r =
      let p = and_parts (readable e) (all_readable es) r in
      let h = held es p.1 in
      one es (memory f l es) e p.0 h.kept h.fit

pub faithful : Faithful
unfolding Right RefusalKeeps EnoughMemory
faithful f by = (
  λ l es e g r. (did f by l g es e r).says,
  λ l es e g r pos. (did f by l g es e r).keeps pos,
  λ l es g r. let h = held f by l g es r in let size = h.kept.size in (omega arith, fit_below (memory f l es) h.fit),
)

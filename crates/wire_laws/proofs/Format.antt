-- A reader and the bytes of the values that it reads: what is written is read back, what is read was written, and where it stops.
use Rattle.std.proofs.Common.{◌≡◌, ℕ, ◌<◌, Bool, true, false, cond, List, [], ◌∷◌, ◌++◌, sym, refl, ap, ◌∙◌, subst, arith}
use Rattle.std.proofs.lemmas.List.{append_assoc}
use Rattle.model.specs.Wire.{Got, got, stop, Reads, and_then}

abbrev pub AreBytes : List ℕ → Type 0
AreBytes [] = Unit {0}
AreBytes (b ∷ bs) = (b < 256) × AreBytes bs

pub bytes_right : (xs ys : List ℕ) → AreBytes (xs ++ ys) → AreBytes ys
bytes_right [] ys h = h
bytes_right (x ∷ xs) ys h = bytes_right xs ys h.1

pub bytes_left : (xs ys : List ℕ) → AreBytes (xs ++ ys) → AreBytes xs
bytes_left [] ys h = tt
bytes_left (x ∷ xs) ys h = (h.0, bytes_left xs ys h.1)

-- E a ws: the bytes ws are those of a
pub record Held {A : Type 0} (E : A → List ℕ → Type 0) : Type 0 where
  pub who : A
  pub used : List ℕ
  pub is : E who used

pub record Took {A : Type 0} (E : A → List ℕ → Type 0) (bs : List ℕ) (a : A) (zs : List ℕ) : Type 0 where
  pub used : List ℕ
  pub is : E a used
  pub splits : used ++ zs ≡ bs

pub record Begun {A : Type 0} (E : A → List ℕ → Type 0) (front : List ℕ) : Type 0 where
  pub who : A
  pub more : List ℕ
  pub is : E who (front ++ more)

-- no value has the front and then the byte that comes
abbrev pub Dead : {A : Type 0} → Reads A → List ℕ → List ℕ → Type 0
Dead p front [] = Unit {0}
Dead p front (x ∷ xs) = (ys : List ℕ) → p (front ++ (x ∷ ys)) ≡ stop (x ∷ ys)

pub record Halted {A : Type 0} (p : Reads A) (E : A → List ℕ → Type 0) (bs zs : List ℕ) : Type 0 where
  pub front : List ℕ
  pub splits : front ++ zs ≡ bs
  pub begun : Begun E front
  pub dead : Dead p front zs

pub record Lawful {A : Type 0} (p : Reads A) (E : A → List ℕ → Type 0) : Type 0 where
  pub some : Held E
  pub round : (a : A) (ws zs : List ℕ) → E a ws → p (ws ++ zs) ≡ got a zs
  pub exact : (bs : List ℕ) (a : A) (zs : List ℕ) → AreBytes bs → p bs ≡ got a zs → Took E bs a zs
  pub halts : (bs zs : List ℕ) → AreBytes bs → p bs ≡ stop zs → Halted p E bs zs

-- the same reader, its values' bytes said in another way
pub like : {A : Type 0} {p : Reads A} {E F : A → List ℕ → Type 0} → Lawful p E → ((a : A) (ws : List ℕ) → E a ws → F a ws) → ((a : A) (ws : List ℕ) → F a ws → E a ws) → Lawful p F
like {A} {p} {E} {F} l to from =
    record {
      some = record { who = l.some.who; used = l.some.used; is = to l.some.who l.some.used l.some.is };
      round = λ a ws zs f. l.round a ws zs (from a ws f);
      exact = λ bs a zs b e. let t : Took E bs a zs = l.exact bs a zs b e in record { used = t.used; is = to a t.used t.is; splits = t.splits };
      halts = λ bs zs b e. let h : Halted p E bs zs = l.halts bs zs b e in
          record { front = h.front; splits = h.splits; begun = record { who = h.begun.who; more = h.begun.more; is = to h.begun.who (h.front ++ h.begun.more) h.begun.is }; dead = h.dead };
    }

-- nothing more is read
pub record End {A : Type 0} (c : A) (a : A) (ws : List ℕ) : Type 0 where
  pub same : a ≡ c
  pub none : ws ≡ []

pub end : {A : Type 0} (c : A) → Lawful (λ bs. got c bs) (End c)
end {A} c =
    record {
      some = record { who = c; used = []; is = record { same = refl; none = refl } };
      round = λ a ws zs e. rw (e.none, e.same);
      exact = λ bs a zs b e. let x : c ≡ a = cc in let y : bs ≡ zs = cc in record { used = []; is = record { same = sym x; none = refl }; splits = sym y };
      halts = λ bs zs b e. absurd (let z : ◌≡◌ {A = ℕ} 0 1 = cc in omega arith);
    }

-- one after the other
pub record Seq {A C : Type 0} (E : A → List ℕ → Type 0) (F : A → C → List ℕ → Type 0) (c : C) (ws : List ℕ) : Type 0 where
  pub first : A
  pub us : List ℕ
  pub vs : List ℕ
  pub head : E first us
  pub tail : F first c vs
  pub splits : us ++ vs ≡ ws

module _ {A C : Type 0} {p : Reads A} {k : A → Reads C} {E : A → List ℕ → Type 0} {F : A → C → List ℕ → Type 0}
    (l : Lawful p E) (m : (a : A) (us : List ℕ) → E a us → Lawful (k a) (F a)) where
  seq_round : (c : C) (ws zs : List ℕ) → Seq E F c ws → and_then (p (ws ++ zs)) k ≡ got c zs
  seq_round c ws zs s =
      let q : p (ws ++ zs) ≡ got s.first (s.vs ++ zs) = ap (λ xs. p (xs ++ zs)) (sym s.splits) ∙ (ap p (append_assoc s.us s.vs zs) ∙ l.round s.first s.us (s.vs ++ zs) s.head) in
      rw q ((m s.first s.us s.head).round c s.vs zs s.tail)

  seq_exact : (bs : List ℕ) (c : C) (zs : List ℕ) → AreBytes bs → (r : Got A) → p bs ≡ r → and_then r k ≡ got c zs → Took (Seq E F) bs c zs
  seq_exact bs c zs b (got a ys) e h =
      let t : Took E bs a ys = l.exact bs a ys b e in
      let by : AreBytes ys = bytes_right t.used ys (subst AreBytes (sym t.splits) b) in
      let u : Took (F a) ys c zs = (m a t.used t.is).exact ys c zs by h in
      record {
        used = t.used ++ u.used;
        is = record { first = a; us = t.used; vs = u.used; head = t.is; tail = u.is; splits = refl };
        splits = append_assoc t.used u.used zs ∙ (ap (λ xs. t.used ++ xs) u.splits ∙ t.splits);
      }
  seq_exact bs c zs b (stop ys) e h = absurd (let z : ◌≡◌ {A = ℕ} 0 1 = cc in omega arith)

  dead_second : (a : A) (us front zs : List ℕ) → E a us → Dead (k a) front zs → Dead (λ xs. and_then (p xs) k) (us ++ front) zs
  dead_second a us front [] e d = tt
  dead_second a us front (x ∷ xs) e d = λ ys. rw (append_assoc us front (x ∷ ys), l.round a us (front ++ (x ∷ ys)) e) (d ys)

  dead_first : (front zs : List ℕ) → Dead p front zs → Dead (λ xs. and_then (p xs) k) front zs
  dead_first front [] d = tt
  dead_first front (x ∷ xs) d = λ ys. rw (d ys)

  seq_halts : (bs zs : List ℕ) → AreBytes bs → (r : Got A) → p bs ≡ r → and_then r k ≡ stop zs → Halted (λ xs. and_then (p xs) k) (Seq E F) bs zs
  seq_halts bs zs b (got a ys) e h =
      let t : Took E bs a ys = l.exact bs a ys b e in
      let by : AreBytes ys = bytes_right t.used ys (subst AreBytes (sym t.splits) b) in
      let u : Halted (k a) (F a) ys zs = (m a t.used t.is).halts ys zs by h in
      record {
        front = t.used ++ u.front;
        splits = append_assoc t.used u.front zs ∙ (ap (λ xs. t.used ++ xs) u.splits ∙ t.splits);
        begun = record {
          who = u.begun.who;
          more = u.begun.more;
          is = record { first = a; us = t.used; vs = u.front ++ u.begun.more; head = t.is; tail = u.begun.is; splits = sym (append_assoc t.used u.front u.begun.more) };
        };
        dead = dead_second a t.used u.front zs t.is u.dead;
      }
  seq_halts bs zs b (stop ys) e h =
      let z : ys ≡ zs = cc in
      let u : Halted p E bs zs = l.halts bs zs b (e ∙ ap stop z) in
      let s : Held (F u.begun.who) = (m u.begun.who (u.front ++ u.begun.more) u.begun.is).some in
      record {
        front = u.front;
        splits = u.splits;
        begun = record {
          who = s.who;
          more = u.begun.more ++ s.used;
          is = record { first = u.begun.who; us = u.front ++ u.begun.more; vs = s.used; head = u.begun.is; tail = s.is; splits = append_assoc u.front u.begun.more s.used };
        };
        dead = dead_first u.front zs u.dead;
      }

  pub seq : Lawful (λ bs. and_then (p bs) k) (Seq E F)
  seq =
      let a = l.some in
      let c = (m a.who a.used a.is).some in
      record {
        some = record { who = c.who; used = a.used ++ c.used; is = record { first = a.who; us = a.used; vs = c.used; head = a.is; tail = c.is; splits = refl } };
        round = seq_round;
        exact = λ bs c zs b e. seq_exact bs c zs b (p bs) refl e;
        halts = λ bs zs b e. seq_halts bs zs b (p bs) refl e;
      }

-- by a number that was read before
abbrev pub Either : {A : Type 0} → Bool → (A → List ℕ → Type 0) → (A → List ℕ → Type 0) → A → List ℕ → Type 0
Either b E F a ws = cond b (E a ws) (F a ws)

pub choose : {A : Type 0} {p q : Reads A} {E F : A → List ℕ → Type 0} (b : Bool) → Lawful p E → Lawful q F → Lawful (λ bs. cond b (p bs) (q bs)) (Either b E F)
choose true l m = l
choose false l m = m

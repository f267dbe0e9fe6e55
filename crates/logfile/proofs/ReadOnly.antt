-- Only the text of limits is read as limits.
use Rattle.std.proofs.Common.{◌≡◌, ℕ, ◌+◌, ◌-◌, ◌*◌, ◌/◌, ◌%◌, ◌<◌, ◌≤◌, min, Bool, true, false, cond, eqb, leb, ◌⊎◌, List, [], ◌∷◌, ◌++◌, IfOk, Some, None, Ok, Err, decimal, Option, Result, sym, refl, ap, ◌∙◌, inl, inr, append_assoc, arith}
use Rattle.std.proofs.lemmas.Fmt.{decimal_digit, decimal_step}
use Rattle.std.proofs.lemmas.Bool.{eqb-true, eqb-false, leb-true, leb-false, and_parts, cases_Bool}
use Rattle.std.proofs.lemmas.Bool.Decides.{nat_tests}
use Rattle.logfile.specs.declared.limits.Limits.{Limits}
use Rattle.logfile.specs.declared.limits.LineRefusal.{LineRefusal}
use Rattle.logfile.specs.declared.limits.LineRefusal.TheVariants.{Verifiers, Places, Epochs}
use Rattle.logfile.specs.FirstLine.{digits_on, is_digit, number_at, past_byte, and_rest, and_past, number_then, outside, in_range, and_then, at_end, line_text, read_line}
use Rattle.logfile.proofs.Digits.{digits_more, digits_stop, digits_end}

digit_between : (c : ℕ) → is_digit c ≡ true → (48 ≤ c) × (c ≤ 57)
digit_between c h = let p = and_parts (leb 48 c) (leb c 57) h in (leb-true 48 c p.0, leb-true c 57 p.1)

same_text : (x y : ℕ × List ℕ) → x ≡ y → decimal x.0 ++ x.1 ≡ decimal y.0 ++ y.1
same_text x y e = ap (λ (z : ℕ × List ℕ). decimal z.0 ++ z.1) e

same_first : (x y : ℕ × List ℕ) → x ≡ y → x.0 ≡ y.0
same_first x y e = ap (λ (z : ℕ × List ℕ). z.0) e

-- what is past the ranges stays there
digits_far : (xs : List ℕ) (n : ℕ) (rest : List ℕ) → digits_on 65535 xs ≡ (n, rest) → n ≡ 65535
digits_far [] n rest h = same_first (n, rest) (65535, []) (sym h ∙ digits_end 65535)
digits_far (c ∷ cs) n rest h =
    elim (cases_Bool (is_digit c)) [
      | inl t ↦ let m : min (65535 * 10 + (c - 48)) 65535 ≡ 65535 = omega arith in digits_far cs n rest (ap (λ k. digits_on k cs) (sym m) ∙ (sym (digits_more 65535 c cs t) ∙ h))
      | inr t ↦ same_first (n, rest) (65535, c ∷ cs) (sym h ∙ digits_stop 65535 c cs t)
    ]

some_is : (x y : ℕ × List ℕ) → Some x ≡ Some y → x ≡ y
some_is x y e = cc

decimal_push : (m c : ℕ) → 0 < m → m < 65535 → 48 ≤ c → c ≤ 57 → decimal (m * 10 + (c - 48)) ≡ decimal m ++ (c ∷ [])
decimal_push m c p h lo hi =
    let s = decimal_step (m * 10 + (c - 48)) (omega arith) (omega arith) in
    let q : (m * 10 + (c - 48)) / 10 ≡ m = omega arith in
    let r : 48 + (m * 10 + (c - 48)) % 10 ≡ c = omega arith in
    rw (q, r) at s

-- one more digit, where the number stays within the ranges or passes them
digit_text : (c : ℕ) (cs : List ℕ) (m n : ℕ) (rest : List ℕ) → 0 < m → m < 65535 → n < 65535 → (48 ≤ c) × (c ≤ 57) → digits_on (min (m * 10 + (c - 48)) 65535) cs ≡ (n, rest)
    → ((k : ℕ) → 0 < k → k < 65535 → digits_on k cs ≡ (n, rest) → decimal k ++ cs ≡ decimal n ++ rest)
    → (leb 65535 (m * 10 + (c - 48)) ≡ true) ⊎ (leb 65535 (m * 10 + (c - 48)) ≡ false) → decimal m ++ (c ∷ cs) ≡ decimal n ++ rest
digit_text c cs m n rest p h k b g ih (inl far) =
    let l = leb-true 65535 (m * 10 + (c - 48)) far in
    let z : min (m * 10 + (c - 48)) 65535 ≡ 65535 = omega arith in
    let y = digits_far cs n rest (ap (λ j. digits_on j cs) (sym z) ∙ g) in
    absurd (omega arith)
digit_text c cs m n rest p h k b g ih (inr near) =
    let l = leb-false 65535 (m * 10 + (c - 48)) near in
    let z : min (m * 10 + (c - 48)) 65535 ≡ m * 10 + (c - 48) = omega arith in
    let y = ih (m * 10 + (c - 48)) (omega arith) (omega arith) (ap (λ j. digits_on j cs) (sym z) ∙ g) in
    let w = decimal_push m c p h b.0 b.1 in
    let v : (decimal m ++ (c ∷ [])) ++ cs ≡ decimal m ++ (c ∷ cs) = append_assoc (decimal m) (c ∷ []) cs in
    cc

digits_text : (xs : List ℕ) (m n : ℕ) (rest : List ℕ) → 0 < m → m < 65535 → n < 65535 → digits_on m xs ≡ (n, rest) → decimal m ++ xs ≡ decimal n ++ rest
digits_text [] m n rest p h k e = same_text (m, []) (n, rest) (sym (digits_end m) ∙ e)
digits_text (c ∷ cs) m n rest p h k e =
    elim (cases_Bool (is_digit c)) [
      | inl t ↦ digit_text c cs m n rest p h k (digit_between c t) (sym (digits_more m c cs t) ∙ e) (λ j q r f. digits_text cs j n rest q r k f) (cases_Bool (leb 65535 (m * 10 + (c - 48))))
      | inr t ↦ same_text (m, c ∷ cs) (n, rest) (sym (digits_stop m c cs t) ∙ e)
    ]

number_first_is : (c : ℕ) (cs : List ℕ) (n : ℕ) (rest : List ℕ) → (c ≡ 48 → ⊥) → (48 ≤ c) × (c ≤ 57) → digits_on (c - 48) cs ≡ (n, rest) → n < 65535 → c ∷ cs ≡ decimal n ++ rest
number_first_is c cs n rest ne b e k =
    let t = digits_text cs (c - 48) n rest (omega (arith, ne)) (omega arith) k e in
    let d : decimal (c - 48) ≡ (48 + (c - 48)) ∷ [] = decimal_digit (c - 48) (omega arith) in
    let z : 48 + (c - 48) ≡ c = omega arith in
    cc

number_cases : (c : ℕ) (cs : List ℕ) (n : ℕ) (rest : List ℕ) → n < 65535 → (a b : Bool) → eqb c 48 ≡ a → is_digit c ≡ b
    → cond a (Some (0, cs)) (cond b (Some (digits_on (c - 48) cs)) None) ≡ Some (n, rest) → c ∷ cs ≡ decimal n ++ rest
number_cases c cs n rest k true b z d e =
    let f : decimal 0 ≡ 48 ∷ [] = decimal_digit 0 (omega arith) in
    let g = same_text (0, cs) (n, rest) (some_is (0, cs) (n, rest) e) in
    let h = eqb-true c 48 z in
    cc
number_cases c cs n rest k false true z d e =
    number_first_is c cs n rest (eqb-false c 48 z) (digit_between c d) (some_is (digits_on (c - 48) cs) (n, rest) e) k
number_cases c cs n rest k false false z d e = cc

number_is : (xs : List ℕ) (n : ℕ) (rest : List ℕ) → number_at xs ≡ Some (n, rest) → n < 65535 → xs ≡ decimal n ++ rest
unfolding number_at
number_is [] n rest e k = cc
number_is (c ∷ cs) n rest e k = number_cases c cs n rest k (eqb c 48) (is_digit c) refl refl e

past_cases : (b c : ℕ) (cs rest : List ℕ) (t : Bool) → eqb c b ≡ t → cond t (Some cs) None ≡ Some rest → c ∷ cs ≡ b ∷ rest
past_cases b c cs rest true z e = let h = eqb-true c b z in cc
past_cases b c cs rest false z e = cc

past_is : (b : ℕ) (xs rest : List ℕ) → past_byte b xs ≡ Some rest → xs ≡ b ∷ rest
unfolding past_byte
past_is b [] rest e = cc
past_is b (c ∷ cs) rest e = past_cases b c cs rest (eqb c b) refl e

rest_is : (b m n : ℕ) (ys rest : List ℕ) (o : Option (List ℕ)) → past_byte b ys ≡ o → and_rest m o ≡ Some (n, rest) → (m ≡ n) × (ys ≡ b ∷ rest)
rest_is b m n ys rest None p e = cc
rest_is b m n ys rest (Some zs) p e =
    let q = some_is (m, zs) (n, rest) e in
    let r : zs ≡ rest = ap (λ (x : ℕ × List ℕ). x.1) q in
    (same_first (m, zs) (n, rest) q, past_is b ys zs p ∙ ap (λ (xs : List ℕ). b ∷ xs) r)

then_cases : (b : ℕ) (xs : List ℕ) (n : ℕ) (rest : List ℕ) (o : Option (ℕ × List ℕ)) → number_at xs ≡ o → and_past b o ≡ Some (n, rest) → n < 65535 → xs ≡ decimal n ++ (b ∷ rest)
then_cases b xs n rest None h e k = cc
then_cases b xs n rest (Some x) h e k =
    let q = rest_is b x.0 n x.1 rest (past_byte b x.1) refl e in
    let t = number_is xs x.0 x.1 h (omega (arith, q.0)) in
    t ∙ same_text x (n, b ∷ rest) (λ i. (q.0 i, q.1 i))

then_is : (b : ℕ) (xs : List ℕ) (n : ℕ) (rest : List ℕ) → number_then b xs ≡ Some (n, rest) → n < 65535 → xs ≡ decimal n ++ (b ∷ rest)
then_is b xs n rest e k = then_cases b xs n rest (number_at xs) refl e k

inside : (low high n : ℕ) → outside low high n ≡ false → n ≤ high
inside low high n h = grind (arith, nat_tests)

-- that the limits are these numbers, each below what stands for all that is too large
record Are (v p e : ℕ) (l : Limits) : Type 0 where
  v_is : v ≡ l.verifiers
  p_is : p ≡ l.places
  e_is : e ≡ l.epochs
  v_low : v < 65535
  p_low : p < 65535
  e_low : e < 65535

range_cases : (v p e : ℕ) (l : Limits) (a b c : Bool) → outside 1 64 v ≡ a → outside 2 32768 p ≡ b → outside 2 16 e ≡ c
    → cond a (Err Verifiers) (cond b (Err Places) (cond c (Err Epochs) (Ok (record { verifiers = v; places = p; epochs = e })))) ≡ Ok l → Are v p e l
range_cases v p e l true b c ha hb hc q = cc
range_cases v p e l false true c ha hb hc q = cc
range_cases v p e l false false true ha hb hc q = cc
range_cases v p e l false false false ha hb hc q =
    let m : Limits = record { verifiers = v; places = p; epochs = e } in
    let s : m ≡ l = cc in
    record {
      v_is = ap (λ (k : Limits). k.verifiers) s;
      p_is = ap (λ (k : Limits). k.places) s;
      e_is = ap (λ (k : Limits). k.epochs) s;
      v_low = omega (arith, inside 1 64 v ha);
      p_low = omega (arith, inside 2 32768 p hb);
      e_low = omega (arith, inside 2 16 e hc);
    }

range_is : (v p e : ℕ) (l : Limits) → in_range v p e ≡ Ok l → Are v p e l
range_is v p e l q = range_cases v p e l (outside 1 64 v) (outside 2 32768 p) (outside 2 16 e) refl refl refl q

end_is : (zs : List ℕ) (r : Result Limits LineRefusal) (l : Limits) → at_end zs r ≡ Ok l → (zs ≡ []) × (r ≡ Ok l)
end_is [] r l q = (refl, q)
end_is (z ∷ zs) r l q = cc

-- from the last number to the first
third : (v p : ℕ) (ys : List ℕ) (l : Limits) (o : Option (ℕ × List ℕ)) → number_then 10 ys ≡ o → and_then o (λ e zs. at_end zs (in_range v p e)) ≡ Ok l
    → Are v p l.epochs l × (ys ≡ decimal l.epochs ++ (10 ∷ []))
third v p ys l None h q = cc
third v p ys l (Some x) h q =
    let n = end_is x.1 (in_range v p x.0) l q in
    let r = range_is v p x.0 l n.1 in
    let t = then_is 10 ys x.0 x.1 h r.e_low in
    let s : decimal x.0 ++ (10 ∷ x.1) ≡ decimal l.epochs ++ (10 ∷ []) = same_text (x.0, 10 ∷ x.1) (l.epochs, 10 ∷ []) (λ i. (r.e_is i, 10 ∷ n.0 i)) in
    (record { v_is = r.v_is; p_is = r.p_is; e_is = refl; v_low = r.v_low; p_low = r.p_low; e_low = omega (arith, r.e_is, r.e_low) }, t ∙ s)

second : (v : ℕ) (xs : List ℕ) (l : Limits) (o : Option (ℕ × List ℕ)) → number_then 32 xs ≡ o → and_then o (λ p ys. and_then (number_then 10 ys) (λ e zs. at_end zs (in_range v p e))) ≡ Ok l
    → (v ≡ l.verifiers) × (v < 65535) × (xs ≡ decimal l.places ++ (32 ∷ (decimal l.epochs ++ (10 ∷ []))))
second v xs l None h q = cc
second v xs l (Some x) h q =
    let n = third v x.0 x.1 l (number_then 10 x.1) refl q in
    let t = then_is 32 xs x.0 x.1 h n.0.p_low in
    let s = same_text (x.0, 32 ∷ x.1) (l.places, 32 ∷ (decimal l.epochs ++ (10 ∷ []))) (λ i. (n.0.p_is i, 32 ∷ n.1 i)) in
    (n.0.v_is, n.0.v_low, t ∙ s)

first : (line : List ℕ) (l : Limits) (o : Option (ℕ × List ℕ)) → number_then 32 line ≡ o
    → and_then o (λ v xs. and_then (number_then 32 xs) (λ p ys. and_then (number_then 10 ys) (λ e zs. at_end zs (in_range v p e)))) ≡ Ok l
    → line ≡ line_text l.verifiers l.places l.epochs
first line l None h q = cc
first line l (Some x) h q =
    let n = second x.0 x.1 l (number_then 32 x.1) refl q in
    let t = then_is 32 line x.0 x.1 h n.1 in
    t ∙ same_text (x.0, 32 ∷ x.1) (l.verifiers, 32 ∷ (decimal l.places ++ (32 ∷ (decimal l.epochs ++ (10 ∷ []))))) (λ i. (n.0 i, 32 ∷ n.2 i))

reads_only_text : (line : List ℕ) (l : Limits) → read_line line ≡ Ok l → line ≡ line_text l.verifiers l.places l.epochs
reads_only_text line l q = first line l (number_then 32 line) refl q

pub made_text : (line : List ℕ) (r : Result Limits LineRefusal) → r ≡ read_line line → IfOk r (λ l. line ≡ line_text l.verifiers l.places l.epochs)
made_text line (Ok l) q = reads_only_text line l (sym q)
made_text line (Err e) q = tt

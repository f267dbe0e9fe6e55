-- What is written after something else.
use Rattle.std.proofs.Common.{◌≡◌, ℕ, ◌+◌, ◌≤◌, List, ◌++◌, length, take, refl, sym, ap, ap₂, ◌∙◌, subst, arith, length-append}
use lib.Seq.{paste}
use Rattle.std.proofs.lemmas.List.Edits.{paste-paste, take-paste}
use Rattle.std.proofs.lemmas.List.{take_all}
use Rattle.writer.specs.declared.Writer.{Writer}
use Rattle.writer.specs.Wrote.{Wrote}
use Rattle.writer.specs.Written.{Written}

pub written_as : (w w' : Writer) (xs ys : List ℕ) → xs ≡ ys → Written w xs w' → Written w ys w'
written_as w w' xs ys e h = subst (λ (l : List ℕ). Written w l w') e h

pub written_join : (w w1 w2 : Writer) (xs ys : List ℕ) → Written w xs w1 → Written w1 ys w2 → Written w (xs ++ ys) w2
written_join w w1 w2 xs ys v u =
    let l = length-append xs ys in
    let a = v.wrote.end in
    let b = u.wrote.end in
    record {
      same = u.same ∙ v.same;
      size = u.size ∙ v.size;
      wrote = record {
        end = omega arith;
        bytes =
            u.wrote.bytes ∙ ap (λ (x : List ℕ). paste x w1.at ys (length ys)) v.wrote.bytes ∙ ap (λ (k : ℕ). paste (paste w.out.now w.at xs (length xs)) k ys (length ys)) a
            ∙ paste-paste w.out.now w.at xs ys (length xs) (length ys) refl refl w.inside ∙ ap (paste w.out.now w.at (xs ++ ys)) (sym l);
      };
    }

-- what a writer leaves in the bytes that it was lent
pub left : (d : List ℕ) (at : ℕ) (bs d' : List ℕ) (w w' : Writer) → w.out.now ≡ d → w.at ≡ at → Written w bs w' → d' ≡ w'.out.now → Wrote d at bs d' w'.at
left d at bs d' w w' e f h g = record { end = h.wrote.end ∙ ap (λ (k : ℕ). k + length bs) f; bytes = g ∙ h.wrote.bytes ∙ ap₂ (λ (x : List ℕ) (k : ℕ). paste x k bs (length bs)) e f }

-- what stands before the place where the next byte goes
pub front : (d : List ℕ) (at : ℕ) (bs d' : List ℕ) (past n : ℕ) → at ≤ length d → Wrote d at bs d' past → past ≡ n → take n d' ≡ take at d ++ bs
front d at bs d' past n h w e =
    let k : n ≡ at + length bs = omega (arith, w.end) in
    ap₂ (λ (i : ℕ) (x : List ℕ). take i x) k w.bytes ∙ take-paste d at bs (length bs) h (omega arith) ∙ ap (λ (x : List ℕ). take at d ++ x) (take_all (length bs) bs (omega arith))

-- Bytes put into words come out again.
use Rattle.std.proofs.Common.{◌≡◌, ℕ, zero, suc, ◌+◌, ◌-◌, ◌*◌, ◌/◌, ◌%◌, ◌<◌, ◌≤◌, List, [], ◌∷◌, ◌++◌, length, get_or, take, drop, replicate, sym, refl, ap, ◌∙◌, subst, ⊎_elim, add_comm, zero-add, mul-suc, add-one, arith, length-append, length-drop, length-take, length-take-le, get_or-drop, take_all, drop-drop}
use lib.Seq.{take-append_seam, take-append-add}
use Rattle.std.proofs.lemmas.List.{get_or_past, take-append-drop, take-append-le, nil_from_length, append_assoc, append-nil, get_or-take}
use Rattle.std.proofs.lemmas.Bool.{cases_lt}
use Rattle.model.specs.Records.{le_bytes, le_number}
use Rattle.slot.specs.Layout.{bytes_in}

-- the words of a text, n of them, the last ones filled up with zeros
unfoldable pub words_of : ℕ → List ℕ → List ℕ
words_of zero t = []
words_of (suc n) t = le_number (take 8 t) ∷ words_of n (drop 8 t)

abbrev pub AllBytes : List ℕ → Type 0
AllBytes t = (i : ℕ) → get_or t i 0 < 256

pub number_eight : (xs : List ℕ) → length xs ≡ 8
    → get_or xs 0 0 + get_or xs 1 0 * 256 + get_or xs 2 0 * 65536 + get_or xs 3 0 * 16777216 + get_or xs 4 0 * 4294967296 + get_or xs 5 0 * 1099511627776 + get_or xs 6 0 * 281474976710656 + get_or xs 7 0 * 72057594037927936 ≡ le_number xs
unfolding le_number
number_eight (a ∷ (b ∷ (c ∷ (d ∷ (e ∷ (f ∷ (g ∷ (h ∷ [])))))))) l = omega arith
number_eight [] l = absurd (omega arith)
number_eight (a ∷ []) l = absurd (omega arith)
number_eight (a ∷ (b ∷ [])) l = absurd (omega arith)
number_eight (a ∷ (b ∷ (c ∷ []))) l = absurd (omega arith)
number_eight (a ∷ (b ∷ (c ∷ (d ∷ [])))) l = absurd (omega arith)
number_eight (a ∷ (b ∷ (c ∷ (d ∷ (e ∷ []))))) l = absurd (omega arith)
number_eight (a ∷ (b ∷ (c ∷ (d ∷ (e ∷ (f ∷ [])))))) l = absurd (omega arith)
number_eight (a ∷ (b ∷ (c ∷ (d ∷ (e ∷ (f ∷ (g ∷ []))))))) l = absurd (omega arith)
number_eight (a ∷ (b ∷ (c ∷ (d ∷ (e ∷ (f ∷ (g ∷ (h ∷ (x ∷ xs))))))))) l = absurd (omega arith)

number_zeros : (k : ℕ) → le_number (replicate k 0) ≡ 0
unfolding le_number
number_zeros zero = refl
number_zeros (suc k) = let r = number_zeros k in omega arith

pub number_filled : (xs : List ℕ) (k : ℕ) → le_number (xs ++ replicate k 0) ≡ le_number xs
unfolding le_number
number_filled [] k = number_zeros k
number_filled (x ∷ xs) k = ap (λ (n : ℕ). x + 256 * n) (number_filled xs k)

zero_bytes : (p : ℕ) → le_bytes p 0 ≡ replicate p 0
unfolding le_bytes
zero_bytes zero = refl
zero_bytes (suc p) = ap (λ (l : List ℕ). 0 ∷ l) (zero_bytes p)

pub bytes_number : (bs : List ℕ) (p k : ℕ) → k ≡ length bs + p → AllBytes bs → le_bytes k (le_number bs) ≡ bs ++ replicate p 0
unfolding le_bytes le_number
bytes_number [] p k e h = ap (λ (x : ℕ). le_bytes x 0) (e ∙ zero-add p) ∙ zero_bytes p
bytes_number (b ∷ bs) p zero e h = absurd (omega arith)
bytes_number (b ∷ bs) p (suc k) e h =
    let hb : b < 256 = h 0 in
    let m : (b + 256 * le_number bs) % 256 ≡ b = omega arith in
    let d : (b + 256 * le_number bs) / 256 ≡ le_number bs = omega arith in
    ap (λ (x : ℕ). x ∷ le_bytes k ((b + 256 * le_number bs) / 256)) m
    ∙ ap (λ (x : ℕ). b ∷ le_bytes k x) d
    ∙ ap (λ (l : List ℕ). b ∷ l) (bytes_number bs p k (omega arith) (λ i. h (suc i)))

-- the text comes out again
pub text_back : (n : ℕ) (t : List ℕ) → length t ≤ 8 * n → AllBytes t → take (length t) (bytes_in (words_of n t)) ≡ t
unfolding bytes_in words_of
text_back zero t l h = ap (λ (x : List ℕ). take (length x) []) (nil_from_length t (omega arith)) ∙ sym (nil_from_length t (omega arith))
text_back (suc n) t l h =
    let q : 8 * suc n ≡ 8 * n + 8 = mul-suc 8 n in
    ⊎_elim
    (λ (le : length t < 8).
    let ta : take 8 t ≡ t = take_all 8 t (omega arith) in
    let e : le_bytes 8 (le_number (take 8 t)) ≡ t ++ replicate (8 - length t) 0 =
    ap (λ (x : List ℕ). le_bytes 8 (le_number x)) ta ∙ bytes_number t (8 - length t) 8 (omega arith) h in
    ap (λ (x : List ℕ). take (length t) (x ++ bytes_in (words_of n (drop 8 t)))) e
    ∙ ap (take (length t)) (append_assoc t (replicate (8 - length t) 0) (bytes_in (words_of n (drop 8 t))))
    ∙ take-append_seam t (replicate (8 - length t) 0 ++ bytes_in (words_of n (drop 8 t))))
    (λ (ge : 8 ≤ length t).
    let lt8 : length (take 8 t) ≡ 8 = length-take-le 8 t ge in
    let ld : length (drop 8 t) ≡ length t - 8 = length-drop 8 t in
    let e : le_bytes 8 (le_number (take 8 t)) ≡ take 8 t = bytes_number (take 8 t) 0 8 (omega arith) (front t h) ∙ append-nil (take 8 t) in
    let w : length t ≡ length (take 8 t) + length (drop 8 t) = omega arith in
    ap (λ (x : List ℕ). take (length t) (x ++ bytes_in (words_of n (drop 8 t)))) e
    ∙ ap (λ (k : ℕ). take k (take 8 t ++ bytes_in (words_of n (drop 8 t)))) w
    ∙ take-append-add (take 8 t) (bytes_in (words_of n (drop 8 t))) (length (drop 8 t))
    ∙ ap (λ (x : List ℕ). take 8 t ++ x) (text_back n (drop 8 t) (omega arith) (λ i. subst (λ (x : ℕ). x < 256) (sym (get_or-drop 8 t i 0)) (h (8 + i))))
    ∙ take-append-drop 8 t)
    (cases_lt (length t) 8)
  where
    front : (t : List ℕ) → AllBytes t → AllBytes (take 8 t)
    front t h i =
        ⊎_elim (λ (lt : i < 8). subst (λ (x : ℕ). x < 256) (sym (get_or-take 8 t i 0 lt)) (h i))
        (λ (ge : 8 ≤ i). let lm = length-take 8 t in subst (λ (x : ℕ). x < 256) (sym (get_or_past (take 8 t) i 0 (omega arith))) (omega arith))
        (cases_lt i 8)

more : (n : ℕ) (t : List ℕ) → words_of (suc n) t ≡ words_of n t ++ (le_number (take 8 (drop (8 * n) t)) ∷ [])
unfolding words_of
more zero t = refl
more (suc n) t =
    let q : 8 + 8 * n ≡ 8 * suc n = add_comm 8 (8 * n) ∙ sym (mul-suc 8 n) in
    ap (λ (l : List ℕ). le_number (take 8 t) ∷ l)
    (more n (drop 8 t) ∙ ap (λ (x : List ℕ). words_of n (drop 8 t) ++ (le_number (take 8 x) ∷ [])) (drop-drop (8 * n) 8 t ∙ ap (λ (k : ℕ). drop k t) q))

pub words_more : (n : ℕ) (t : List ℕ) → words_of (n + 1) t ≡ words_of n t ++ (le_number (take 8 (drop (8 * n) t)) ∷ [])
words_more n t = ap (λ (k : ℕ). words_of k t) (add-one n) ∙ more n t

length_le : (k n : ℕ) → length (le_bytes k n) ≡ k
unfolding le_bytes
length_le zero n = refl
length_le (suc k) n = ap suc (length_le k (n / 256))

pub length_bytes_in : (ws : List ℕ) → length (bytes_in ws) ≡ 8 * length ws
unfolding bytes_in
length_bytes_in [] = refl
length_bytes_in (w ∷ ws) = let d = length_bytes_in ws in let a = length-append (le_bytes 8 w) (bytes_in ws) in let b = length_le 8 w in omega arith

pub bytes_append : (ws vs : List ℕ) → bytes_in (ws ++ vs) ≡ bytes_in ws ++ bytes_in vs
unfolding bytes_in
bytes_append [] vs = refl
bytes_append (w ∷ ws) vs = ap (λ (l : List ℕ). le_bytes 8 w ++ l) (bytes_append ws vs) ∙ sym (append_assoc (le_bytes 8 w) (bytes_in ws) (bytes_in vs))

-- words that hold a text, and then others
pub text_front : (n : ℕ) (t ws vs : List ℕ) → length t ≤ 8 * length ws → length ws ≤ n → take (length t) (bytes_in ws) ≡ t → take (length t) (bytes_in (take n (ws ++ vs))) ≡ t
text_front n t ws vs l h e =
    let k : n ≡ length ws + (n - length ws) = omega arith in
    let b = length_bytes_in ws in
    ap (λ (x : ℕ). take (length t) (bytes_in (take x (ws ++ vs)))) k
    ∙ ap (λ (x : List ℕ). take (length t) (bytes_in x)) (take-append-add ws vs (n - length ws))
    ∙ ap (take (length t)) (bytes_append ws (take (n - length ws) vs))
    ∙ take-append-le (length t) (bytes_in ws) (bytes_in (take (n - length ws) vs)) (omega arith)
    ∙ e

-- all words of a text are written
pub all_back : (n : ℕ) (t ws : List ℕ) → take n ws ≡ words_of n t → length ws ≤ n → length t ≤ 8 * n → AllBytes t → take (length t) (bytes_in ws) ≡ t
all_back n t ws e h l b = ap (λ (x : List ℕ). take (length t) (bytes_in x)) (sym (take_all n ws h) ∙ e) ∙ text_back n t l b

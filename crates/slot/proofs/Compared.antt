-- Bytes compared with the bytes in words, eight at a time and then what is left.
use Rattle.std.proofs.Common.{◌≡◌, ℕ, zero, suc, ◌-◌, [], ◌+◌, ◌*◌, ◌/◌, ◌^◌, ◌<◌, ◌≤◌, Bool, true, false, List, ◌++◌, length, get_or, take, drop, sym, refl, ap, ◌∙◌, subst, ap₂, ⊎_elim, append-nil, arith, length-drop, length-take}
use Rattle.std.proofs.lemmas.List.{take-append-drop, drop-take, take-take, drop-drop, drop_all, get_or-take, get_or-drop, get_or_past, length-take-le}
use Rattle.std.proofs.lemmas.Bool.{cases_Bool, cases_lt}
use Rattle.std.specs.Bool.{MatchBool}
use Rattle.model.specs.Records.{same_bytes, le_bytes, le_number}
use Rattle.path.specs.Packs.{Fit}
use Rattle.path.proofs.Same.{same_true}
use Rattle.path.proofs.Less.{same_same}
use Rattle.std.proofs.lemmas.Slice.Zip.{get_or-zip, length-zip}
use Rattle.std.specs.List.{AllWithin, HoldsAt, zip}
use Rattle.std.specs.Simd.{first_chunks}
use Rattle.sha256.proofs.Loading.{chunk_at}
use Rattle.slot.proofs.Texts.{AllBytes, length_bytes_in, bytes_number, number_eight}
use Rattle.slot.proofs.Eights.{word_bytes, number_then}
use Rattle.slot.specs.Layout.{bytes_in}

-- eight and then the others
eight_first : (k : ℕ) (l : List ℕ) → drop k l ≡ take 8 (drop k l) ++ drop (k + 8) l
eight_first k l = sym (take-append-drop 8 (drop k l)) ∙ ap (λ (x : List ℕ). take 8 (drop k l) ++ x) (drop-drop 8 k l)

same_eight : (k : ℕ) (s t : List ℕ) → take 8 (drop k s) ≡ take 8 (drop k t) → same_bytes (drop k s) (drop k t) ≡ same_bytes (drop (k + 8) s) (drop (k + 8) t)
same_eight k s t e =
    ap₂ same_bytes (eight_first k s ∙ ap (λ (x : List ℕ). x ++ drop (k + 8) s) e) (eight_first k t)
    ∙ same_same (take 8 (drop k t)) (drop (k + 8) s) (drop (k + 8) t)

part_bytes : (k : ℕ) (t : List ℕ) → AllBytes t → AllBytes (take 8 (drop k t))
part_bytes k t h i =
    ⊎_elim (λ (lt : i < 8). subst (λ (x : ℕ). x < 256) (sym (get_or-take 8 (drop k t) i 0 lt ∙ get_or-drop k t i 0)) (h (k + i)))
    (λ (ge : 8 ≤ i). let l = length-take 8 (drop k t) in subst (λ (x : ℕ). x < 256) (sym (get_or_past (take 8 (drop k t)) i 0 (omega arith))) (omega arith))
    (cases_lt i 8)

word_back : (w : ℕ) → w < 2 ^ 64 → le_number (le_bytes 8 w) ≡ w
unfolding le_number
word_back w h = ap le_number (sym (append-nil (le_bytes 8 w))) ∙ number_then w [] h ∙ (let z : w + 2 ^ 64 * 0 ≡ w = omega arith in z)

-- the first n bytes in words
pub long : (ws : List ℕ) (n : ℕ) → n ≤ 8 * length ws → length (take n (bytes_in ws)) ≡ n
long ws n h = let l = length_bytes_in ws in length-take-le n (bytes_in ws) (omega arith)

-- eight bytes and a word, by what from_le_bytes makes of them
abbrev pub Reads : List ℕ × ℕ → Type 0
Reads p =
    get_or p.0 0 0 + get_or p.0 1 0 * 256 + get_or p.0 2 0 * 65536 + get_or p.0 3 0 * 16777216 + get_or p.0 4 0 * 4294967296 + get_or p.0 5 0 * 1099511627776 + get_or p.0 6 0 * 281474976710656 + get_or p.0 7 0 * 72057594037927936 ≡ p.1

abbrev pub Differs : List ℕ × ℕ → Type 0
Differs p = Reads p → ⊥

module _ (ws : List ℕ) (n : ℕ) (bs : List ℕ) (room : n ≤ 8 * length ws) (as_many : length bs ≡ n) (fit : Fit ws) (bytes : AllBytes bs) where
  abbrev text : List ℕ
  text = take n (bytes_in ws)

  module _ (j : ℕ) (h : 8 * j + 8 ≤ n) where
    word : take 8 (drop (8 * j) text) ≡ le_bytes 8 (get_or ws j 0)
    word =
        sym (drop-take (8 * j) 8 text) ∙ ap (drop (8 * j)) (take-take (8 * j + 8) n (bytes_in ws) h) ∙ drop-take (8 * j) 8 (bytes_in ws)
        ∙ word_bytes ws j (omega arith)

    eight : length (take 8 (drop (8 * j) bs)) ≡ 8
    eight = let l = length-drop (8 * j) bs in length-take-le 8 (drop (8 * j) bs) (omega arith)

    word_same : get_or ws j 0 ≡ le_number (take 8 (drop (8 * j) bs)) → same_bytes (drop (8 * j) text) (drop (8 * j) bs) ≡ same_bytes (drop (8 * suc j) text) (drop (8 * suc j) bs)
    word_same e =
        let y = take 8 (drop (8 * j) bs) in
        let q : 8 * j + 8 ≡ 8 * suc j = omega arith in
        same_eight (8 * j) text bs (word ∙ ap (le_bytes 8) e ∙ bytes_number y 0 8 (omega (arith, eight)) (part_bytes (8 * j) bs bytes) ∙ append-nil y)
        ∙ ap (λ (k : ℕ). same_bytes (drop k text) (drop k bs)) q

    word_differs : (get_or ws j 0 ≡ le_number (take 8 (drop (8 * j) bs)) → ⊥) → same_bytes text bs ≡ false
    word_differs d =
        ⊎_elim
        (λ (e : same_bytes text bs ≡ true).
        let w : get_or ws j 0 ≡ le_number (take 8 (drop (8 * j) text)) = sym (word_back (get_or ws j 0) (fit j)) ∙ ap le_number (sym word) in
        absurd (d (w ∙ ap (λ (l : List ℕ). le_number (take 8 (drop (8 * j) l))) (same_true text bs e))))
        (λ (e : same_bytes text bs ≡ false). e)
        (cases_Bool (same_bytes text bs))

  words_same : (k : ℕ) → 8 * k ≤ n → ((j : ℕ) → j < k → get_or ws j 0 ≡ le_number (take 8 (drop (8 * j) bs))) → same_bytes text bs ≡ same_bytes (drop (8 * k) text) (drop (8 * k) bs)
  words_same zero h e = let z : 0 ≡ 8 * zero = omega arith in ap (λ (k : ℕ). same_bytes (drop k text) (drop k bs)) z
  words_same (suc k) h e = words_same k (omega arith) (λ j i. e j (omega arith)) ∙ word_same k (omega arith) (e k (omega arith))

  -- the whole words, each read from eight bytes
  module _ (es : List (List ℕ)) (front : es ≡ first_chunks 8 (n / 8) bs) (count : length es ≡ n / 8) where
    module _ (j : ℕ) (h : j < length es) where
      at : (d : List ℕ × ℕ) → get_or (zip es ws) j d ≡ (get_or es j d.0, get_or ws j d.1)
      at d = get_or-zip es ws j d h (omega arith)

      number : Reads (get_or es j [], get_or ws j 0) ≡ (le_number (take 8 (drop (8 * j) bs)) ≡ get_or ws j 0)
      number =
          let piece : get_or es j [] ≡ take 8 (drop (8 * j) bs) = ap (λ (l : List (List ℕ)). get_or l j []) front ∙ chunk_at 8 (n / 8) bs j [] (omega arith) in
          ap (λ (m : ℕ). m ≡ get_or ws j 0) (number_eight (get_or es j []) (ap length piece ∙ eight j (omega arith)) ∙ ap le_number piece)

    all_read : AllWithin Reads (zip es ws) 0 (length (zip es ws)) → same_bytes text bs ≡ same_bytes (drop (8 * (n / 8)) text) (drop (8 * (n / 8)) bs)
    all_read a =
        words_same (n / 8) (omega arith) (λ j h.
        let i : j < length es = omega arith in
        let z : j < length (zip es ws) = omega (arith, length-zip es ws) in
        sym (subst (λ (P : Type 0). P) (number j i) (subst Reads (at j i ([], 0)) (a j ([], 0) (omega arith) z))))

    one_differs : (j : ℕ) → j < length (zip es ws) → HoldsAt Differs (zip es ws) j → same_bytes text bs ≡ false
    one_differs j h a =
        let i : j < length es = omega (arith, length-zip es ws) in
        word_differs j (omega arith) (λ e. subst Differs (at j i ([], 0)) (a ([], 0)) (subst (λ (P : Type 0). P) (sym (number j i)) (sym e)))

    pub all_or_one : (r : Bool) → MatchBool r (AllWithin Reads (zip es ws) 0 (length (zip es ws))) ((j : ℕ) × (j < length (zip es ws)) × HoldsAt Differs (zip es ws) j) →
        (r ≡ true → same_bytes text bs ≡ same_bytes (drop (8 * (n / 8)) text) (drop (8 * (n / 8)) bs)) × (r ≡ false → same_bytes text bs ≡ false)
    all_or_one true m = (λ _. all_read m, λ e. cc)
    all_or_one false m = (λ e. cc, λ _. one_differs m.0 m.1 m.2)

  -- what is left after them
  module _ (tail : List ℕ) (back : tail ≡ drop (n / 8 * 8) bs) where
    left : drop (8 * (n / 8)) bs ≡ tail
    left = let q : 8 * (n / 8) ≡ n / 8 * 8 = omega arith in ap (λ (k : ℕ). drop k bs) q ∙ sym back

    pub tail_same : n / 8 < length ws → same_bytes (drop (8 * (n / 8)) text) (drop (8 * (n / 8)) bs) ≡ same_bytes (take (length tail) (le_bytes 8 (get_or ws (n / 8) 0))) tail
    tail_same h =
        let k = n / 8 in
        let l : length tail ≡ n - 8 * k = ap length (sym left) ∙ length-drop (8 * k) bs ∙ ap (λ (m : ℕ). m - 8 * k) as_many in
        let q : n ≡ 8 * k + length tail = omega arith in
        let r : length tail ≤ 8 = omega arith in
        ap₂ same_bytes
        (ap (λ (m : ℕ). drop (8 * k) (take m (bytes_in ws))) q ∙ drop-take (8 * k) (length tail) (bytes_in ws)
        ∙ sym (take-take (length tail) 8 (drop (8 * k) (bytes_in ws)) r) ∙ ap (take (length tail)) (word_bytes ws k h))
        left

  pub none_left : length ws ≤ n / 8 → same_bytes (drop (8 * (n / 8)) text) (drop (8 * (n / 8)) bs) ≡ true
  unfolding same_bytes
  none_left h =
      ap₂ same_bytes (drop_all (8 * (n / 8)) text (omega (arith, long ws n room))) (drop_all (8 * (n / 8)) bs (omega arith))

-- and where nothing is left, the words alone tell
pub both : (r v s d : Bool) → v ≡ r → (r ≡ true → s ≡ d) × (r ≡ false → s ≡ false) → d ≡ true → v ≡ s
both true v s d e h t = e ∙ sym (h.0 refl ∙ t)
both false v s d e h t = e ∙ sym (h.1 refl)

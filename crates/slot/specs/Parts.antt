-- Parts of lent words.
use Rattle.std.specs.Prelude.{ℕ, List, ◌++◌, take, drop}

-- k words from a on
abbrev pub part : ℕ → ℕ → List ℕ → List ℕ
part a k m = take k (drop a m)

-- the words with ys in the place of the k from a on: what a write to that part leaves
abbrev pub put : ℕ → ℕ → List ℕ → List ℕ → List ℕ
put a k m ys = take a m ++ (ys ++ drop k (drop a m))

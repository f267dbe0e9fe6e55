-- Where the blocks and the sums are, and that they are apart.
use Rattle.std.proofs.Common.{◌≡◌, ℕ, suc, ◌+◌, ◌*◌, ◌<◌, ◌≤◌, mul-le-mul_right, mod-lt, suc-mul, mul-add, mul_left_comm, arith}
use Rattle.model.specs.Monitor.{Limits}
use Rattle.model.specs.Program.{words_needed}
use Rattle.block.specs.Blocks.{block_words}
use Rattle.memory.specs.Keeping.{block_start, sum_start}

-- all blocks of n places
pub blocks_words : (v n : ℕ) → v * block_words n ≡ 192 * (v * n) + 64 * v
blocks_words v n =
    let a = mul-add v 64 (192 * n) in
    let b = mul_left_comm v 192 n in
    omega arith

-- a block is before those after it
pub block_before : (epochs n t u : ℕ) → t < u → block_start epochs n t + block_words n ≤ block_start epochs n u
block_before epochs n t u h =
    let a : suc t * block_words n ≤ u * block_words n = mul-le-mul_right (block_words n) h in
    let b = suc-mul t (block_words n) in
    omega arith

-- and all are within the words
pub block_within : (l : Limits) (t : ℕ) → t < l.verifiers → block_start l.epochs l.places t + block_words l.places ≤ words_needed l
block_within l t h =
    let a = block_before l.epochs l.places t l.verifiers h in
    let b = blocks_words l.verifiers l.places in
    omega arith

-- the sums are before the blocks
pub sum_before : (epochs e : ℕ) → 0 < epochs → sum_start epochs e + 32 ≤ 256 + 32 * epochs
sum_before epochs e h = let a = mod-lt e h in omega arith

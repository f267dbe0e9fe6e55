-- Limits in range, by the test, by its six parts, and as the definitions have them.
use Rattle.std.proofs.Common.{◌≡◌, ℕ, Bool, true, ◌&&◌, leb, length, arith}
use Rattle.std.proofs.lemmas.Bool.{and_parts, and_from, leb-true, le-leb}
use Rattle.model.specs.Monitor as model
use Rattle.model.specs.Program.{GoodLimits}
use Rattle.model.specs.Readable.{all_below}
use Rattle.memory.specs.declared.limits.Limits.{Limits}
use Rattle.memory.specs.Ranges.{Agrees, Bounded, in_bounds}

pub bounds_true : (x : Limits) → in_bounds x ≡ true → Bounded x
bounds_true x e =
    let v = x.verifiers in
    let n = x.places in
    let k = x.epochs in
    let p = and_parts (leb 1 v && leb v 64) ((leb 2 n && leb n 32768) && (leb 2 k && leb k 16)) e in
    let q = and_parts (leb 2 n && leb n 32768) (leb 2 k && leb k 16) p.1 in
    let a = and_parts (leb 1 v) (leb v 64) p.0 in
    let b = and_parts (leb 2 n) (leb n 32768) q.0 in
    let d = and_parts (leb 2 k) (leb k 16) q.1 in
    record {
      some_verifiers = leb-true 1 v a.0;
      most_verifiers = leb-true v 64 a.1;
      some_places = leb-true 2 n b.0;
      most_places = leb-true n 32768 b.1;
      some_epochs = leb-true 2 k d.0;
      most_epochs = leb-true k 16 d.1;
    }

pub bounded_true : (x : Limits) → Bounded x → in_bounds x ≡ true
bounded_true x b =
    let v = x.verifiers in
    let n = x.places in
    let k = x.epochs in
    and_from (leb 1 v && leb v 64) ((leb 2 n && leb n 32768) && (leb 2 k && leb k 16))
    (and_from (leb 1 v) (leb v 64) (le-leb 1 v b.some_verifiers) (le-leb v 64 b.most_verifiers))
    (and_from (leb 2 n && leb n 32768) (leb 2 k && leb k 16)
    (and_from (leb 2 n) (leb n 32768) (le-leb 2 n b.some_places) (le-leb n 32768 b.most_places))
    (and_from (leb 2 k) (leb k 16) (le-leb 2 k b.some_epochs) (le-leb k 16 b.most_epochs)))

pub good_bounded : (can : ℕ → Bool) (x : Limits) (l : model.Limits) → Agrees x l → GoodLimits can l → Bounded x
good_bounded can x l a g = record {
  some_verifiers = omega arith;
  most_verifiers = omega arith;
  some_places = omega arith;
  most_places = omega arith;
  some_epochs = omega arith;
  most_epochs = omega arith;
}

pub bounded_good : (can : ℕ → Bool) (x : Limits) (l : model.Limits) → Agrees x l → Bounded x
    → length l.secret ≡ 32 → all_below 256 l.secret ≡ true → ((k : ℕ) → l.supports k ≡ can k) → GoodLimits can l
bounded_good can x l a b long bytes entries = record {
  some_verifiers = omega arith;
  most_verifiers = omega arith;
  some_places = omega arith;
  most_places = omega arith;
  some_epochs = omega arith;
  most_epochs = omega arith;
  secret_length = long;
  secret_bytes = bytes;
  entries = entries;
}

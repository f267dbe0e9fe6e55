use Rattle.std.proofs.Common.{◌≡◌, ℕ, ◌+◌, ◌-◌, ◌*◌, length, replicate, sym, ap, ◌∙◌, subst, arith}
use Rattle.slot.specs.Parts.{part, put}
use Rattle.slot.proofs.Parted.{length_part, length_put}
use Rattle.memory.specs.Ranges.{words_for}
use Rattle.memory.proofs.Opened.{Opened, all_kept}
use Rattle.memory.proofs.opening.write_all.Goals as goal

pub returns-clause-kept : goal.returns-clause-kept
returns-clause-kept c =
    let x = c.args.memory.now.limits in
    let m = c.args.memory.now.words.now in
    let h = c.write_header.new.head in
    let ys = c.fill.new.self in
    let m' = c.open_blocks.new.memory.words.now in
    let many : length h ≡ 256 = omega arith in
    let k : 256 + 32 * x.epochs - 256 ≡ 32 * x.epochs = omega arith in
    let o : Opened x.epochs x.places (put 256 (256 + 32 * x.epochs - 256) (put 0 256 m h) ys) m' x.verifiers =
    record { head = c.open_blocks.ensures.head; low = c.open_blocks.ensures.low; blocks = c.open_blocks.ensures.blocks } in
    let s1 : length (put 0 256 m h) ≡ length m = length_put 0 256 m h (omega arith) many in
    let room : length (part 256 (256 + 32 * x.epochs - 256) (put 0 256 m h)) ≡ 32 * x.epochs =
    ap (λ (n : ℕ). length (part 256 n (put 0 256 m h))) k ∙ length_part 256 (32 * x.epochs) (put 0 256 m h) (omega arith) in
    let zeros : ys ≡ replicate (32 * x.epochs) 0 = c.fill.ensures.after (λ y e. e) ∙ ap (λ (n : ℕ). replicate n 0) room in
    let long : length m' ≡ length m = c.open_blocks.new.memory.room ∙ ap words_for c.open_blocks.ensures.limits ∙ sym c.args.memory.now.room in
    all_kept x m h ys m' c.args.secret.now c.args.memory.now.bounded c.args.memory.now.room long many c.write_header.ensures zeros
    (subst (λ (n : ℕ). Opened x.epochs x.places (put 256 n (put 0 256 m h) ys) m' x.verifiers) k o)

use Rattle.std.proofs.Common.{◌≡◌, ℕ, ◌+◌, ◌-◌, length, get_or, replicate, sym, ap, ◌∙◌, arith}
use Rattle.slot.specs.Parts.{part}
use Rattle.slot.proofs.Parted.{length_part}
use Rattle.epochs.proofs.Certified.{settles_waiting, settles_differing, settles_agreeing}
use Rattle.epochs.proofs.certifying.settle.Goals as goal

pub returns-then-not-are_all_done-clause-settles : goal.returns-then-not-are_all_done-clause-settles
returns-then-not-are_all_done-clause-settles c =
    let M = c.args.memory.now in
    settles_waiting M.limits M.words.now (get_or M.words.now 4 0) M.bounded (λ l s laid. laid.certified)
    (λ l s same laid. sym c.if-not-are_all_done.true ∙ c.are_all_done.ensures.all l s same laid)

pub returns-then-not-are_even-clause-settles : goal.returns-then-not-are_even-clause-settles
returns-then-not-are_even-clause-settles c =
    let M = c.args.memory.now in
    settles_differing M.limits M.words.now (get_or M.words.now 4 0) M.bounded (λ l s laid. laid.certified)
    (λ l s same laid. sym c.if-not-are_all_done.false ∙ c.are_all_done.ensures.all l s same laid)
    (λ l s same laid is. sym c.if-not-are_even.true ∙ c.are_even.ensures l s same laid is)

pub returns-clause-settles : goal.returns-clause-settles
returns-clause-settles c =
    let M = c.args.memory.now in
    let m = M.words.now in
    let a = c.sum_start-a.result in
    let k : a + 8 - a ≡ 8 = omega arith in
    let room : length (part a (a + 8 - a) m) ≡ 8 = ap (λ (n : ℕ). length (part a n m)) k ∙ length_part a 8 m (omega arith) in
    let zeros : c.fill.new.self ≡ replicate 8 0 = c.fill.ensures.after (λ y e. e) ∙ ap (λ (n : ℕ). replicate {A = ℕ} n 0) room in
    settles_agreeing M.limits m (get_or m 4 0) M.bounded (λ l s laid. laid.certified)
    (λ l s same laid. sym c.if-not-are_all_done.false ∙ c.are_all_done.ensures.all l s same laid)
    a (a + 8 - a) c.fill.new.self c.sum_start-a.ensures.start k zeros
    (λ l s same laid is. sym c.if-not-are_even.false ∙ c.are_even.ensures l s same laid is)

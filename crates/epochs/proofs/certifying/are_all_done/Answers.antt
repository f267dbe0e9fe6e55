use Rattle.std.proofs.Common.{◌≡◌, ◌+◌, length, [], ◌∷◌, sym, subst, arith, length-append}
use Rattle.epochs.proofs.Passed.{Left, Passed, passed_none, passed_more, passed_all, passed_not, left_all, block_taken, left_then, left_none, within, block_read}
use Rattle.epochs.proofs.certifying.are_all_done.Goals as goal

pub loop-words-init : goal.loop-words-init
loop-words-init c = record {
  left = left_all _ _ _ _ (rw c.into_iter-words-iterator.ensures.into_iter_gives c.chunks_exact-words-items.ensures.size) (rw c.into_iter-words-iterator.ensures.into_iter_gives c.chunks_exact-words-items.ensures.rest);
  passed = passed_none c.args.memory.now.limits c.args.memory.now.words.now c.args.epoch;
}

pub returns-then-done-epoch-clause-all : goal.returns-then-done-epoch-clause-all
returns-then-done-epoch-clause-all c =
    let x = c.args.memory.now.limits in
    let m = c.args.memory.now.words.now in
    let w = c.in-Some.words.now in
    let t = length c.loop-words.yielded in
    let d = c.done.result in
    let left = c.loop-words.invariant.left in
    let cut = c.in-Some.ensures.steps.1.0 in
    let long = c.in-Some.ensures.steps.1.1 in
    let lt = within x m _ w _ _ 0 t left cut long c.args.memory.now.room in
    passed_not x m c.args.epoch t d lt (block_read x m w t d (block_taken x m _ w _ _ 0 t left cut long) lt c.done.ensures) (omega arith)

pub loop-words-preserved : goal.loop-words-preserved
loop-words-preserved c =
    let x = c.args.memory.now.limits in
    let m = c.args.memory.now.words.now in
    let w = c.in-Some.words.now in
    let t = length c.loop-words.yielded in
    let d = c.done.result in
    let left = c.loop-words.invariant.left in
    let cut = c.in-Some.ensures.steps.1.0 in
    let long = c.in-Some.ensures.steps.1.1 in
    let lt = within x m _ w _ _ 0 t left cut long c.args.memory.now.room in
    let next : t + 1 ≡ length _ = sym (length-append c.loop-words.yielded (c.in-Some.words ∷ [])) in
    record {
      left = subst (Left x m _ _) next (left_then x m _ w _ _ _ t left cut long c.in-Some.ensures.steps.0);
      passed = subst (Passed x m c.args.epoch) next (passed_more x m c.args.epoch t d (block_read x m w t d (block_taken x m _ w _ _ 0 t left cut long) lt c.done.ensures) (omega arith) (omega arith) c.loop-words.invariant.passed);
    }

pub returns-clause-all : goal.returns-clause-all
returns-clause-all c =
    passed_all c.args.memory.now.limits c.args.memory.now.words.now c.args.epoch (length c.loop-words.yielded)
    (left_none _ _ _ _ _ c.loop-words.invariant.left c.in-None.ensures.steps.1.0 c.args.memory.now.room) c.loop-words.invariant.passed

pub returns-clause-fits : goal.returns-clause-fits
returns-clause-fits c = λ _.
    let many = left_none _ _ _ _ _ c.loop-words.invariant.left c.in-None.ensures.steps.1.0 c.args.memory.now.room in
    c.loop-words.invariant.passed.fits (omega arith)

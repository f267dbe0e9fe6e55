use Rattle.std.proofs.Common.{List, sym, ap, ◌∙◌, subst, arith}
use Rattle.model.specs.Records.{Path}
use Rattle.model.specs.Verifier.{Stored, find}
use Rattle.verifier.specs.Keys.{OtherKey}
use Rattle.verifier.proofs.calls.slot_of.Goals as goal

pub returns-in_err-i-clause-found : goal.returns-in_err-i-clause-found
returns-in_err-i-clause-found c = λ xs H.
    let e = ap (λ (p : Path). find p xs) (sym c.key_path.ensures.path) ∙ (c.in_err-i.ensures.found xs H).none (omega arith) in
    rw c.from_residual.ensures (subst (λ (ys : List Stored). OtherKey ys c.args.key.now) (sym e) tt)

pub returns-then-not-has_key-clause-found : goal.returns-then-not-has_key-clause-found
returns-then-not-has_key-clause-found c = λ xs H.
    let f = c.in_ok-i.ensures.found xs H in
    let e = ap (λ (p : Path). find p xs) (sym c.key_path.ensures.path) ∙ f.some c.in_ok-i.ensures.within in
    subst (λ (ys : List Stored). OtherKey ys c.args.key.now) (sym e) (sym (c.if-not-has_key.ensures (f.slot c.in_ok-i.ensures.within)))

pub returns-clause-found : goal.returns-clause-found
returns-clause-found c = λ xs H.
    let f = c.in_ok-i.ensures.found xs H in
    let i = c.in_ok-i.ensures.within in
    record {
      some = ap (λ (p : Path). find p xs) (sym c.key_path.ensures.path) ∙ f.some i;
      key = sym (c.if-not-has_key.ensures (f.slot i));
      slot = f.slot i;
      walked = (c.key_path.result.len, (c.key_path.result.bits, (c.in_ok-i.ensures.walked, c.key_path.ensures.path)));
    }

use Rattle.std.proofs.Common.{◌≡◌, ℕ, Bool, true, false, eqb, List, set, sym, refl, ap, ◌∙◌, subst, arith}
use Rattle.slot.specs.Parts.{put}
use Rattle.slot.specs.Edits.{Headed}
use Rattle.slot.proofs.Written.{head_written}
use Rattle.slot.proofs.write_head.Goals as goal
use mir.Val.{bool_byte}

byte_of : (b : Bool) → eqb (bool_byte b) 1 ≡ b
byte_of true = refl
byte_of false = refl

pub returns : goal.returns
returns c =
    let b = c.from.result in
    let by : eqb b 1 ≡ c.args.by_merkle = ap (λ (x : ℕ). eqb x 1) c.from.ensures ∙ byte_of c.args.by_merkle in
    let n = c.args.path.now.len in
    let ws = c.args.path.now.bits in
    subst (λ (l : List ℕ). Headed (put 3 4 (set (set (set c.args.slot.now 0 c.args.kind) 1 b) 2 n) l) c.args.kind c.args.by_merkle n ws) (sym c.copy_from_slice.ensures.after)
    (head_written c.args.slot.now c.args.kind b c.args.by_merkle n ws c.requires.size (omega arith) by)

use Rattle.std.proofs.Common.{◌≡◌, List, set, sym, ap, subst, arith}
use Rattle.slot.specs.Parts.{put}
use Rattle.slot.specs.Layout.{rec_in}
use Rattle.slot.specs.Edits.{KeepsPath, Edited}
use Rattle.slot.proofs.Written.{hash_kept, hash_edited}
use Rattle.slot.proofs.set_hash.Goals as goal

pub returns : goal.returns
returns c =
    let w = c.args.slot.now in
    let e : set (put 146 4 w c.copy_from_slice.new.self) 150 1 ≡ set (put 146 4 w c.args.hash.now) 150 1 =
    ap (λ (l : List _). set (put 146 4 w l) 150 1) c.copy_from_slice.ensures.after in
    record {
      kept = subst (KeepsPath w) (sym e) (hash_kept w c.args.hash.now c.requires.size (omega arith));
      edited = λ s h. subst (λ l. Edited w l (rec_in w)) (sym e) (hash_edited w c.args.hash.now c.requires.size (omega arith) s h);
    }

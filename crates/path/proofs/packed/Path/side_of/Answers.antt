use Rattle.std.proofs.Common.{◌*◌, ◌≤◌, length, rules}
use Rattle.path.specs.Packs.{path_in}
use Rattle.path.proofs.Words.{length_path}
use Rattle.path.proofs.packed.Path.side_of.Goals as goal

pub returns : goal.returns
returns c =
    let p = c.args.self.now in
    let q = c.args.q.now in
    let h : p.len ≤ 64 * length p.bits = search rules in
    let k : q.len ≤ 64 * length q.bits = search rules in
    c.side_words.ensures h (path_in q.len q.bits) (length_path q.len q.bits k)

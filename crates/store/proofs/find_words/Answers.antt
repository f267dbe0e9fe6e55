use Rattle.std.proofs.Common.{[], get_or}
use Rattle.index.specs.Chains.{place_or}
use Rattle.path.specs.Packs.{Packs, Fit}
use Rattle.store.specs.Holding.{home, Packing}
use Rattle.store.proofs.Held.{found, in_n, length_chain}
use Rattle.store.proofs.Walks.{Ends, ends}
use Rattle.store.proofs.find_words.Goals as goal

packing : (c : goal.After-find_in) → Packs c.args.len c.args.bits.now → Packing c.args.len c.args.bits.now
packing c p = record { four = c.requires.four; packs = p; fit = c.home_of-b.ensures.fit }

ended : (c : goal.After-find_in) → Ends c.args.n c.args.salt c.args.mem.now c.args.len c.args.bits.now (place_or c.args.n c.find_in.result)
ended c = ends c.args.n c.args.salt c.args.mem.now c.args.len c.args.bits.now _ _ c.home_of-b.ensures.home c.find_in.ensures.found

pub returns : goal.returns
returns c = record {
  within = c.find_in.ensures.within;
  walked = λ p. record { packing = packing c p; fit = λ i. (c.type_inv.mem i).fits; ends = ended c };
  found = λ p ss H.
      let n = c.args.n in
      let m = c.args.mem.now in
      let fit : Fit m = λ i. (c.type_inv.mem i).fits in
      let salt = c.args.salt in
      let k = c.args.len in
      let ws = c.args.bits.now in
      let pk = packing c p in
      let e = ended c (get_or H.0 (home n salt k ws) []) (H.1.index.chain (home n salt k ws) (in_n n salt m H.0 ss H.1 fit k ws pk)) (length_chain n salt m H.0 ss H.1 fit k ws pk) in
      found n salt m H.0 ss H.1 fit k ws pk (place_or n c.find_in.result) e;
}

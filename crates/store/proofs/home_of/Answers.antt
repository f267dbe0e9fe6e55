use Rattle.std.proofs.Common.{ℕ, ◌-◌, ◌%◌, ap, arith}
use Rattle.std.proofs.lemmas.Nat.{mod_below}
use Rattle.store.specs.Holding.{home}
use Rattle.store.proofs.home_of.Goals as goal

pub returns : goal.returns
unfolding home
returns c = record {
  home = ap (λ (h : ℕ). h % (c.args.n - 1)) c.mixed_of.ensures.mixed;
  within = mod_below c.mixed_of.result (c.args.n - 1) (omega arith);
  fit = c.mixed_of.ensures.fit;
}

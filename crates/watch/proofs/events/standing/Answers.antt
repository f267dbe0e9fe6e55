use Rattle.std.proofs.Common.{◌≡◌, ℕ, Bool, true, false, not, eqb, get_or, sym, refl}
use Rattle.model.specs.Records.{pick}
use Rattle.watch.proofs.events.standing.Goals as goal

stops : (b : Bool) (w : ℕ) → w ≡ pick b 1 0 → b ≡ not (eqb w 0)
unfolding pick
stops true w e = rw e refl
stops false w e = rw e refl

pub returns : goal.returns
returns c = record {
  places = refl;
  stopped = refl;
  stands = λ l s a k. record {
    verifiers = a.verifiers;
    places = a.places;
    epochs = a.epochs;
    certified = sym (c.certified_in.ensures.kept l s k);
    stopped = stops s.stopped (get_or c.args.mem.now 3 0) k.stopped;
  };
}

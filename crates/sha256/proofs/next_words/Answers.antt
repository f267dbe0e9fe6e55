use Rattle.std.proofs.Common.{arith}
use Rattle.std.proofs.lemmas.List.{length-append}
use Rattle.sha256.proofs.Lanes.{next_words_is}
use Rattle.sha256.proofs.next_words.Goals as goal

pub returns : goal.returns
returns c =
    record {
      words = next_words_is c.args.a c.args.b c.args.c c.args.d c.small_sigma_1.result c.small_sigma_0.result c.small_sigma_1-2.result
          c.fits-a.0 c.fits-b.0 c.fits-c.0 c.fits-d.0 c.small_sigma_0.ensures c.small_sigma_1.ensures c.small_sigma_1-2.ensures;
      count = simp length-append (omega (arith, c.fits-b.0, c.fits-c.0, c.fits-d.0));
    }

use Rattle.sha256.specs.View.{state_of}
use Rattle.sha256.proofs.Rounds.{sixteen_rounds}
use Rattle.sha256.proofs.Schedule.{extend_sixteen}
use Rattle.sha256.proofs.rounds_and_schedule.Goals as goal

pub returns : goal.returns
returns c =
    let sums = c.args.sums.now in
    record {
      state = sixteen_rounds (state_of c.args.s) (state_of c.four_rounds-s.result) (state_of c.four_rounds-s-2.result) (state_of c.four_rounds-s-3.result) (state_of c.four_rounds-s-4.result)
          sums.a sums.b sums.c sums.d c.four_rounds-s.ensures c.four_rounds-s-2.ensures c.four_rounds-s-3.ensures c.four_rounds-s-4.ensures;
      words = extend_sixteen c.args.w.a c.args.w.b c.args.w.c c.args.w.d
          c.next_words-a.result c.next_words-b.result c.next_words-c.result c.next_words-d.result
          c.next_words-a.ensures.count c.next_words-b.ensures.count c.next_words-c.ensures.count c.next_words-d.ensures.count
          c.next_words-a.ensures.words c.next_words-b.ensures.words c.next_words-c.ensures.words c.next_words-d.ensures.words;
      count = c.next_words-d.ensures.count;
      sums = c.add_constants.ensures;
    }

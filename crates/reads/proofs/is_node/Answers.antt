use Rattle.std.proofs.Common.{not, ap, ◌∙◌, List}
use Rattle.model.specs.Records.{is_data}
use Rattle.slot.specs.Layout.{rec_in}
use Rattle.reads.proofs.Read.{tag_test}
use Rattle.reads.proofs.is_node.Goals as goal

pub returns : goal.returns
returns c = tag_test c.slot.result.now ∙ ap (λ (w : List _). not (is_data (rec_in w))) c.slot.ensures.words

use Rattle.std.proofs.Common.{ap, ◌∙◌}
use Rattle.logfile.specs.FirstLine.{read_line}
use Rattle.logfile.proofs.ReadBack.{reads_back}
use Rattle.logfile.proofs.ReadOnly.{made_text}
use Rattle.logfile.proofs.limits.read_limits.Goals as goal

pub returns : goal.returns
returns c =
    record {
      value = c.limits_in.ensures;
      text = made_text c.args.line.now c.limits_in.result c.limits_in.ensures;
      tells = λ v p e hv hp he q. c.limits_in.ensures ∙ (ap read_line q ∙ reads_back v p e hv hp he);
    }

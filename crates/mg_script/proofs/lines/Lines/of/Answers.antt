use Rattle.mg_script.proofs.Cuts.{are_lines}
use Rattle.mg_script.proofs.lines.Lines.of.Goals as goal

pub returns : goal.returns
returns c = are_lines c.args.bytes.now

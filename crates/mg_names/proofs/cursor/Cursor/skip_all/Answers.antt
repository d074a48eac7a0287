use Rattle.std.proofs.Common.{◌∙◌, ap, drop}
use Rattle.std.proofs.lemmas.List.{drop-drop}
use Rattle.mg_names.proofs.cursor.Cursor.skip_all.Goals as goal

pub loop-i-preserved : goal.loop-i-preserved
loop-i-preserved c = c.skip.ensures ∙ (ap (drop 1) c.loop-i.invariant ∙ drop-drop 1 c.loop-i._i c.args.self.now)

use Rattle.std.proofs.Common.{Option, OnOk, sym, subst}
use Rattle.mg_names.specs.declared.home.Home.{Home}
use Rattle.mg_names.specs.Least.{Gets}
use Rattle.mg_names.specs.Mapped.{causes_at}
use Rattle.mg_names.proofs.mapping.read_image.Goals as goal

pub returns-in-Some-clause-causes : goal.returns-in-Some-clause-causes
returns-in-Some-clause-causes c w rest e stops =
    subst (λ (t : Option Home). OnOk c.word.result (Gets (causes_at t w) c.args.found.now c.word.new.found)) (sym c.in-Some.is) (c.word.ensures.causes w rest e stops)

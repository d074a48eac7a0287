use Rattle.std.proofs.Common.{◌≡◌, ℤ, List, IfOk, subst}
use Rattle.mg_names.proofs.Mappings.{image_at, image_empty}
use Rattle.mg_names.proofs.mapping.Arrows.image.Goals as goal

pub returns-in-Some : goal.returns-in-Some
returns-in-Some c scope target all e f =
    subst (λ (ws : List ℤ). IfOk c.copy.result (λ image. image.letters ≡ ws))
    (image_at scope target all c.args.self.now.names c.as_slice.result.now c.args.self.now.images c.args.generator.now c.at.result.now.letters c.place_among.result c.in-Some.place c.as_slice.ensures e f c.place_among.ensures.place c.in-Some.is c.at.ensures)
    c.copy.ensures

pub returns-in-None : goal.returns-in-None
returns-in-None c scope target all e f =
    let none = image_empty scope target all c.args.self.now.names c.as_slice.result.now c.args.generator.now c.place_among.result c.as_slice.ensures e c.place_among.ensures.place c.in-None.is in
    let empty = c.new.ensures in
    cc

use Rattle.std.proofs.Common.{ap}
use Rattle.std.specs.Option.{is_some}
use Rattle.mg_names.proofs.Mappings.{among_named}
use Rattle.mg_names.proofs.mapping.is_among.Goals as goal

pub returns : goal.returns
returns c =
    let said = c.is_some.ensures in
    let place = ap is_some c.place_among.ensures.place in
    let among = among_named c.args.names.now c.args.text.now in
    cc

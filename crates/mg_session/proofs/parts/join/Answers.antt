use Rattle.std.proofs.Common.{rules, ◌≡◌, [], length}
use Rattle.mg_session.proofs.Joining.{longer, join_can, join_next, joined_searches, joined_cells}
use Rattle.mg_session.proofs.parts.join.Goals as goal

pub put_back-requires : goal.put_back-requires
put_back-requires c =
    let cell : c.len-cell.result ≡ length c.loop-place.searches.items = search rules in
    join_can (length c.loop-place.searches.items) 0 c.args.places.items c.args.ran c.args.ledger.now c.loop-place.searches.items c.loop-place.places.items c.loop-place.ran.items c.loop-place.ledger c.loop-place.invariant
    c.len-cell.result c.pop.new.self.items c.in-Some.place cell c.in-Some.ensures.items

pub loop-place-preserved : goal.loop-place-preserved
loop-place-preserved c =
    let cell : c.len-cell.result ≡ length c.loop-place.searches.items = search rules in
    join_next (length c.loop-place.searches.items) (length c.push.new.self.items) c.args.places.items c.args.ran c.args.ledger.now c.loop-place.searches.items c.loop-place.places.items c.loop-place.ran.items c.loop-place.ledger c.loop-place.invariant
    c.len-cell.result c.pop.new.self.items c.in-Some.place c.put_back.result c.put_back.new.ran.items c.put_back.new.ledger c.push.new.self.items cell (longer _ _ _ c.in_ok-push.ensures.items) c.in-Some.ensures.items c.put_back.ensures c.in_ok-push.ensures.items

pub returns-clause-searches : goal.returns-clause-searches
returns-clause-searches c =
    let none : c.loop-place.places.items ≡ [] = search rules in
    joined_searches (length c.loop-place.searches.items) 0 c.args.places.items c.args.ran c.args.ledger.now c.loop-place.searches.items c.loop-place.places.items c.loop-place.ran.items c.loop-place.ledger c.loop-place.invariant none

pub returns-clause-cells : goal.returns-clause-cells
returns-clause-cells c =
    let none : c.loop-place.places.items ≡ [] = search rules in
    joined_cells (length c.loop-place.searches.items) 0 c.args.places.items c.args.ran c.args.ledger.now c.loop-place.searches.items c.loop-place.places.items c.loop-place.ran.items c.loop-place.ledger c.loop-place.invariant none

use Rattle.mg_names.proofs.Groups.{no_relations, next_ahead, next_shorter, relation_added, relations_read}
use Rattle.mg_names.proofs.grouping.read_relations.Goals as goal

pub loop-alloc-init : goal.loop-alloc-init
loop-alloc-init c rs rest e ends = no_relations c.args.home.now rs rest c.args.found.now c.args.cursor.now c.new-relators.result c.new-relators.ensures e

pub read_relation-requires-clause-ahead : goal.read_relation-requires-clause-ahead
read_relation-requires-clause-ahead c =
    let a = c.requires.ahead in
    next_ahead c.args.home.now a.relations a.rest c.loop-alloc.cursor c.args.found.now c.loop-alloc.found c.loop-alloc.relators (c.loop-alloc.invariant a.relations a.rest a.written a.ends) a.ends
    (λ s. let g = c.goes_on.ensures.stops.1 s in cc) a.sized

pub loop-alloc-smaller : goal.loop-alloc-smaller
loop-alloc-smaller c =
    let a = c.requires.ahead in
    next_shorter c.args.home.now a.relations a.rest c.loop-alloc.cursor c.args.found.now c.loop-alloc.found c.loop-alloc.relators (c.loop-alloc.invariant a.relations a.rest a.written a.ends) a.ends
    (λ s. let g = c.goes_on.ensures.stops.1 s in cc) c.read_relation.new.cursor c.skip_comma.new.cursor (λ r behind e ends. (c.in_ok-relator.ensures r behind e ends).rest_is) c.skip_comma.ensures.no_longer

pub loop-alloc-preserved : goal.loop-alloc-preserved
loop-alloc-preserved c rs rest e ends =
    relation_added c.args.home.now rs rest c.args.found.now c.loop-alloc.found c.read_relation.new.found c.loop-alloc.relators c.push.new.self c.loop-alloc.cursor c.read_relation.new.cursor c.skip_comma.new.cursor
    c.in_ok-relator.relator.letters (c.loop-alloc.invariant rs rest e ends) ends (λ s. let g = c.goes_on.ensures.stops.1 s in cc) c.in_ok-relator.ensures c.skip_comma.ensures.skipped c.in_ok-push.ensures.ok

pub returns : goal.returns
returns c rs rest e ends =
    relations_read c.args.home.now rs rest c.args.found.now c.loop-alloc.found c.loop-alloc.relators c.loop-alloc.cursor (c.loop-alloc.invariant rs rest e ends) (c.goes_on.ensures.stops.0 c.loop-alloc-test.false)

use Rattle.std.proofs.Common.{◌≤◌, ◌+◌, drop, length, subst, sym, arith}
use Rattle.mg_rules.specs.Index.{Reaches}
use Rattle.mg_rules.proofs.Trees.{drop_back, reached_wide}
use Rattle.mg_rules.proofs.index.node_of.Goals as goal

pub node_below-node-requires-clause-there : goal.node_below-node-requires-clause-there
node_below-node-requires-clause-there c =
    let known = c.requires.index in
    let now = c.loop-at.invariant in
    reached_wide known.0 c.loop-at.nodes.items (drop c.loop-at.at c.args.word.now) c.loop-at.node (now.index known.0 known.1) now.reached

pub loop-at-preserved : goal.loop-at-preserved
loop-at-preserved c =
    let known = c.requires.index in
    let now = c.loop-at.invariant in
    let word = c.args.word.now in
    let rest = drop c.loop-at.at word in
    let to = c.node_below-node.ensures in
    let new = c.node_below-node.new.nodes.items in
    let cut = drop_back word c.loop-at.at c.index-word-at.result c.loop-at-test.true now.within c.index-word-at.is in
    let up : length new ≤ length c.loop-at.nodes.items + 1 = to.length in
    record {
      within = omega (arith, now.within);
      index = λ rules index. (to.index rules rest (now.index rules index) now.reached).0;
      reached = subst (λ t. Reaches new t c.node_below-node.result) (sym cut) (to.index known.0 rest (now.index known.0 known.1) now.reached).1;
      room = omega (arith, up, to.capacity, now.room, c.loop-at-test.true);
      small = omega (arith, up, now.small, c.loop-at-test.true);
    }

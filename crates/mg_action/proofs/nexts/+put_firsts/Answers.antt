use Rattle.std.proofs.Common.{ℕ, ◌≤◌, ◌++◌, List, refl, ◌∙◌, arith}
use Rattle.mg_action.proofs.NextTuples.{cut_first, long_at, fewer_lists, first_joined, first_placed, long_perm, joined_inverses, cut_inverses, room_inverses}
use Rattle.mg_action.proofs.nexts.+put_firsts.Goals as goal

pub split_at_mut-head-requires : goal.split_at_mut-head-requires
split_at_mut-head-requires t c =
    omega (arith, long_at c.args.degree c.args.count c.requires.lists.0 c.args.lists.now c.requires.lists.1, fewer_lists c.args.degree c.args.count (omega (arith, c.if-count-gt0.true)))

pub split_at_mut-back-requires : goal.split_at_mut-back-requires
split_at_mut-back-requires t c =
    let d : ℕ = c.args.degree in
    let m : ℕ = c.args.count in
    let head : List ℕ = c.split_at_mut-head.result.0.now in
    let tail : List ℕ = c.split_at_mut-head.result.1.now in
    let some : 1 ≤ m = omega (arith, c.if-count-gt0.true) in
    room_inverses d m head tail c.args.lists.now c.args.inverses.now some c.split_at_mut-head.ensures.front_len c.split_at_mut-head.ensures.value c.requires.inverses

pub put_first_with-requires-clause-list : goal.put_first_with-requires-clause-list
put_first_with-requires-clause-list t c =
    let d : ℕ = c.args.degree in
    let m : ℕ = c.args.count in
    let head : List ℕ = c.split_at_mut-head.result.0.now in
    let tail : List ℕ = c.split_at_mut-head.result.1.now in
    let some : 1 ≤ m = omega (arith, c.if-count-gt0.true) in
    let cut = cut_first d m c.requires.lists.0 head tail c.args.lists.now some c.split_at_mut-head.ensures.front_len c.split_at_mut-head.ensures.value c.requires.lists.1 in
    long_perm d cut.head head c.split_at_mut-head.ensures.front_len cut.first

pub put_firsts-requires : goal.put_firsts-requires
put_firsts-requires t c =
    let d : ℕ = c.args.degree in
    let m : ℕ = c.args.count in
    let head : List ℕ = c.split_at_mut-head.result.0.now in
    let tail : List ℕ = c.split_at_mut-head.result.1.now in
    let some : 1 ≤ m = omega (arith, c.if-count-gt0.true) in
    let cut = cut_first d m c.requires.lists.0 head tail c.args.lists.now some c.split_at_mut-head.ensures.front_len c.split_at_mut-head.ensures.value c.requires.lists.1 in
    let back = cut_inverses d m head tail c.args.lists.now c.split_at_mut-back.result.0.now c.split_at_mut-back.result.1.now c.args.inverses.now some c.split_at_mut-head.ensures.front_len c.split_at_mut-head.ensures.value c.requires.inverses c.split_at_mut-back.ensures.front_len c.split_at_mut-back.ensures.value in
    (omega (arith, c.decreases, some), (c.requires.points, ((cut.tail, cut.more), back.others)))

pub returns-then-count-gt0-clause-lists : goal.returns-then-count-gt0-clause-lists
returns-then-count-gt0-clause-lists t c =
    let d : ℕ = c.args.degree in
    let m : ℕ = c.args.count in
    let head : List ℕ = c.split_at_mut-head.result.0.now in
    let tail : List ℕ = c.split_at_mut-head.result.1.now in
    let some : 1 ≤ m = omega (arith, c.if-count-gt0.true) in
    first_joined d m c.put_first_with.new.list c.put_firsts.new.lists (c.put_first_with.new.list ++ c.put_firsts.new.lists) some refl (first_placed d head c.put_first_with.new.list c.split_at_mut-head.ensures.front_len c.put_first_with.ensures.first) c.put_firsts.ensures.lists

pub returns-then-count-gt0-clause-inverses : goal.returns-then-count-gt0-clause-inverses
returns-then-count-gt0-clause-inverses t c =
    let d : ℕ = c.args.degree in
    let m : ℕ = c.args.count in
    let head : List ℕ = c.split_at_mut-head.result.0.now in
    let tail : List ℕ = c.split_at_mut-head.result.1.now in
    let some : 1 ≤ m = omega (arith, c.if-count-gt0.true) in
    joined_inverses d m c.put_first_with.new.list c.put_firsts.new.lists c.put_first_with.new.inverse c.put_firsts.new.inverses some (c.put_first_with.auto.list ∙ c.split_at_mut-head.ensures.front_len) c.put_first_with.ensures.inverse c.put_firsts.ensures.inverses

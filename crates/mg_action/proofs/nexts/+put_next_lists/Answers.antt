use Rattle.std.proofs.Common.{◌∙◌, ℕ, ◌≤◌, ◌++◌, List, refl, arith}
use Rattle.mg_action.proofs.NextTuples.{joined_inverses, cut_inverses, room_inverses, cut_first, long_at, some_lists, fewer_lists, next_here, none_here, next_rest, next_carried, none_carried, first_joined, long_perm, next_placed, none_placed, first_placed}
use Rattle.mg_action.proofs.nexts.+put_next_lists.Goals as goal

pub split_at_mut-head-requires : goal.split_at_mut-head-requires
split_at_mut-head-requires t c =
    omega (arith, long_at c.args.degree c.args.count c.requires.lists.0 c.args.lists.now c.requires.lists.1, fewer_lists c.args.degree c.args.count (some_lists c.args.degree c.args.count c.args.depth c.requires.some c.requires.whole))

pub split_at_mut-back-requires : goal.split_at_mut-back-requires
split_at_mut-back-requires t c =
    let d : ℕ = c.args.degree in
    let m : ℕ = c.args.count in
    let head : List ℕ = c.split_at_mut-head.result.0.now in
    let tail : List ℕ = c.split_at_mut-head.result.1.now in
    let some : 1 ≤ m = some_lists d m c.args.depth c.requires.some c.requires.whole in
    room_inverses d m head tail c.args.lists.now c.args.inverses.now some c.split_at_mut-head.ensures.front_len c.split_at_mut-head.ensures.value c.requires.inverses

pub put_next_lists-requires : goal.put_next_lists-requires
put_next_lists-requires t c =
    let d : ℕ = c.args.degree in
    let m : ℕ = c.args.count in
    let head : List ℕ = c.split_at_mut-head.result.0.now in
    let tail : List ℕ = c.split_at_mut-head.result.1.now in
    let some : 1 ≤ m = some_lists d m c.args.depth c.requires.some c.requires.whole in
    let cut = cut_first d m c.requires.lists.0 head tail c.args.lists.now some c.split_at_mut-head.ensures.front_len c.split_at_mut-head.ensures.value c.requires.lists.1 in
    let back = cut_inverses d m head tail c.args.lists.now c.split_at_mut-back.result.0.now c.split_at_mut-back.result.1.now c.args.inverses.now some c.split_at_mut-head.ensures.front_len c.split_at_mut-head.ensures.value c.requires.inverses c.split_at_mut-back.ensures.front_len c.split_at_mut-back.ensures.value in
    (omega (arith, c.decreases, some), (c.requires.points, ((cut.tail, cut.more), (back.others, (omega (arith, c.if-depth-degree.true), omega (arith, c.requires.whole, fewer_lists d m some, c.if-depth-degree.true))))))

pub returns-then-put_next_lists-clause-next : goal.returns-then-put_next_lists-clause-next
returns-then-put_next_lists-clause-next t c = λ _ place at.
    let d : ℕ = c.args.degree in
    let m : ℕ = c.args.count in
    let head : List ℕ = c.split_at_mut-head.result.0.now in
    let tail : List ℕ = c.split_at_mut-head.result.1.now in
    let some : 1 ≤ m = some_lists d m c.args.depth c.requires.some c.requires.whole in
    let cut = cut_first d m place head tail c.args.lists.now some c.split_at_mut-head.ensures.front_len c.split_at_mut-head.ensures.value at in
    next_rest d m c.args.depth place head tail c.put_next_lists.new.lists (head ++ c.put_next_lists.new.lists) c.requires.points some (omega (arith, c.if-depth-degree.true)) c.requires.whole cut (c.put_next_lists.ensures.next c.if-put_next_lists.true cut.tail cut.more) refl

pub put_next_with-requires-clause-perm : goal.put_next_with-requires-clause-perm
put_next_with-requires-clause-perm t c =
    let d : ℕ = c.args.degree in
    let head : List ℕ = c.split_at_mut-head.result.0.now in
    let some : 1 ≤ c.args.count = some_lists d c.args.count c.args.depth c.requires.some c.requires.whole in
    let cut = cut_first d c.args.count c.requires.lists.0 head c.split_at_mut-head.result.1.now c.args.lists.now some c.split_at_mut-head.ensures.front_len c.split_at_mut-head.ensures.value c.requires.lists.1 in
    long_perm d cut.head head c.split_at_mut-head.ensures.front_len cut.first

pub returns-then-depth-degree-clause-next : goal.returns-then-depth-degree-clause-next
returns-then-depth-degree-clause-next t c = λ yes place at.
    let d : ℕ = c.args.degree in
    let m : ℕ = c.args.count in
    let head : List ℕ = c.split_at_mut-head.result.0.now in
    let tail : List ℕ = c.split_at_mut-head.result.1.now in
    let some : 1 ≤ m = some_lists d m c.args.depth c.requires.some c.requires.whole in
    let cut = cut_first d m place head tail c.args.lists.now some c.split_at_mut-head.ensures.front_len c.split_at_mut-head.ensures.value at in
    next_carried d m c.args.depth place head tail c.put_next_with.new.perm c.put_next_lists.new.lists (c.put_next_with.new.perm ++ c.put_next_lists.new.lists) c.requires.points some (omega (arith, c.if-depth-degree.true)) c.requires.whole cut
    (c.put_next_lists.ensures.none c.if-put_next_lists.false cut.tail cut.more)
    (next_placed d d cut.head head c.put_next_with.new.perm c.split_at_mut-head.ensures.front_len (c.put_next_with.ensures.next yes) cut.first) (c.put_next_lists.ensures.first c.if-put_next_lists.false) refl

pub returns-then-depth-degree-clause-none : goal.returns-then-depth-degree-clause-none
returns-then-depth-degree-clause-none t c = λ no place at.
    let d : ℕ = c.args.degree in
    let m : ℕ = c.args.count in
    let head : List ℕ = c.split_at_mut-head.result.0.now in
    let tail : List ℕ = c.split_at_mut-head.result.1.now in
    let some : 1 ≤ m = some_lists d m c.args.depth c.requires.some c.requires.whole in
    let cut = cut_first d m place head tail c.args.lists.now some c.split_at_mut-head.ensures.front_len c.split_at_mut-head.ensures.value at in
    none_carried d m c.args.depth place head tail c.requires.points some (omega (arith, c.if-depth-degree.true)) c.requires.whole cut
    (c.put_next_lists.ensures.none c.if-put_next_lists.false cut.tail cut.more)
    (none_placed d d cut.head head c.split_at_mut-head.ensures.front_len (c.put_next_with.ensures.none no) cut.first)

pub returns-then-depth-degree-clause-first : goal.returns-then-depth-degree-clause-first
returns-then-depth-degree-clause-first t c = λ no.
    let d : ℕ = c.args.degree in
    let m : ℕ = c.args.count in
    let head : List ℕ = c.split_at_mut-head.result.0.now in
    first_joined d m c.put_next_with.new.perm c.put_next_lists.new.lists (c.put_next_with.new.perm ++ c.put_next_lists.new.lists) (some_lists d m c.args.depth c.requires.some c.requires.whole) refl
    (first_placed d head c.put_next_with.new.perm c.split_at_mut-head.ensures.front_len (c.put_next_with.ensures.first no)) (c.put_next_lists.ensures.first c.if-put_next_lists.false)

pub put_firsts-requires-clause-lists : goal.put_firsts-requires-clause-lists
put_firsts-requires-clause-lists t c =
    let some : 1 ≤ c.args.count = some_lists c.args.degree c.args.count c.args.depth c.requires.some c.requires.whole in
    let cut = cut_first c.args.degree c.args.count c.requires.lists.0 c.split_at_mut-head.result.0.now c.split_at_mut-head.result.1.now c.args.lists.now some c.split_at_mut-head.ensures.front_len c.split_at_mut-head.ensures.value c.requires.lists.1 in
    (cut.tail, cut.more)

pub put_next_with-requires-2-clause-perm : goal.put_next_with-requires-2-clause-perm
put_next_with-requires-2-clause-perm t c =
    let d : ℕ = c.args.degree in
    let head : List ℕ = c.split_at_mut-head.result.0.now in
    let some : 1 ≤ c.args.count = some_lists d c.args.count c.args.depth c.requires.some c.requires.whole in
    let cut = cut_first d c.args.count c.requires.lists.0 head c.split_at_mut-head.result.1.now c.args.lists.now some c.split_at_mut-head.ensures.front_len c.split_at_mut-head.ensures.value c.requires.lists.1 in
    long_perm d cut.head head c.split_at_mut-head.ensures.front_len cut.first

pub returns-clause-next : goal.returns-clause-next
returns-clause-next t c = λ yes place at.
    let d : ℕ = c.args.degree in
    let m : ℕ = c.args.count in
    let head : List ℕ = c.split_at_mut-head.result.0.now in
    let tail : List ℕ = c.split_at_mut-head.result.1.now in
    let some : 1 ≤ m = some_lists d m c.args.depth c.requires.some c.requires.whole in
    let cut = cut_first d m place head tail c.args.lists.now some c.split_at_mut-head.ensures.front_len c.split_at_mut-head.ensures.value at in
    next_here d m c.args.depth place head tail c.put_next_with-2.new.perm c.put_firsts.new.lists (c.put_next_with-2.new.perm ++ c.put_firsts.new.lists) some c.requires.some (omega (arith, c.if-depth-degree.false)) cut
    (next_placed d c.args.depth cut.head head c.put_next_with-2.new.perm c.split_at_mut-head.ensures.front_len (c.put_next_with-2.ensures.next yes) cut.first) c.put_firsts.ensures.lists refl

pub returns-clause-none : goal.returns-clause-none
returns-clause-none t c = λ no place at.
    let d : ℕ = c.args.degree in
    let m : ℕ = c.args.count in
    let head : List ℕ = c.split_at_mut-head.result.0.now in
    let tail : List ℕ = c.split_at_mut-head.result.1.now in
    let some : 1 ≤ m = some_lists d m c.args.depth c.requires.some c.requires.whole in
    let cut = cut_first d m place head tail c.args.lists.now some c.split_at_mut-head.ensures.front_len c.split_at_mut-head.ensures.value at in
    none_here d m c.args.depth place head tail some c.requires.some (omega (arith, c.if-depth-degree.false)) cut (none_placed d c.args.depth cut.head head c.split_at_mut-head.ensures.front_len (c.put_next_with-2.ensures.none no) cut.first)

pub returns-clause-first : goal.returns-clause-first
returns-clause-first t c = λ no.
    let d : ℕ = c.args.degree in
    let m : ℕ = c.args.count in
    let head : List ℕ = c.split_at_mut-head.result.0.now in
    first_joined d m c.put_next_with-2.new.perm c.put_firsts.new.lists (c.put_next_with-2.new.perm ++ c.put_firsts.new.lists) (some_lists d m c.args.depth c.requires.some c.requires.whole) refl
    (first_placed d head c.put_next_with-2.new.perm c.split_at_mut-head.ensures.front_len (c.put_next_with-2.ensures.first no)) c.put_firsts.ensures.lists

pub put_firsts-requires-clause-inverses : goal.put_firsts-requires-clause-inverses
put_firsts-requires-clause-inverses t c =
    let d : ℕ = c.args.degree in
    let m : ℕ = c.args.count in
    let head : List ℕ = c.split_at_mut-head.result.0.now in
    let tail : List ℕ = c.split_at_mut-head.result.1.now in
    let some : 1 ≤ m = some_lists d m c.args.depth c.requires.some c.requires.whole in
    let back = cut_inverses d m head tail c.args.lists.now c.split_at_mut-back.result.0.now c.split_at_mut-back.result.1.now c.args.inverses.now some c.split_at_mut-head.ensures.front_len c.split_at_mut-head.ensures.value c.requires.inverses c.split_at_mut-back.ensures.front_len c.split_at_mut-back.ensures.value in
    back.others

pub returns-then-put_next_lists-clause-inverses : goal.returns-then-put_next_lists-clause-inverses
returns-then-put_next_lists-clause-inverses t c =
    let d : ℕ = c.args.degree in
    let m : ℕ = c.args.count in
    let head : List ℕ = c.split_at_mut-head.result.0.now in
    let tail : List ℕ = c.split_at_mut-head.result.1.now in
    let some : 1 ≤ m = some_lists d m c.args.depth c.requires.some c.requires.whole in
    let back = cut_inverses d m head tail c.args.lists.now c.split_at_mut-back.result.0.now c.split_at_mut-back.result.1.now c.args.inverses.now some c.split_at_mut-head.ensures.front_len c.split_at_mut-head.ensures.value c.requires.inverses c.split_at_mut-back.ensures.front_len c.split_at_mut-back.ensures.value in
    joined_inverses d m head c.put_next_lists.new.lists c.split_at_mut-back.result.0.now c.put_next_lists.new.inverses some c.split_at_mut-head.ensures.front_len back.first c.put_next_lists.ensures.inverses

pub returns-then-depth-degree-clause-inverses : goal.returns-then-depth-degree-clause-inverses
returns-then-depth-degree-clause-inverses t c =
    let d : ℕ = c.args.degree in
    let m : ℕ = c.args.count in
    let head : List ℕ = c.split_at_mut-head.result.0.now in
    let tail : List ℕ = c.split_at_mut-head.result.1.now in
    let some : 1 ≤ m = some_lists d m c.args.depth c.requires.some c.requires.whole in
    joined_inverses d m c.put_next_with.new.perm c.put_next_lists.new.lists c.put_next_with.new.inverse c.put_next_lists.new.inverses some (c.put_next_with.auto.perm ∙ c.split_at_mut-head.ensures.front_len) c.put_next_with.ensures.inverse c.put_next_lists.ensures.inverses

pub returns-clause-inverses : goal.returns-clause-inverses
returns-clause-inverses t c =
    let d : ℕ = c.args.degree in
    let m : ℕ = c.args.count in
    let head : List ℕ = c.split_at_mut-head.result.0.now in
    let tail : List ℕ = c.split_at_mut-head.result.1.now in
    let some : 1 ≤ m = some_lists d m c.args.depth c.requires.some c.requires.whole in
    joined_inverses d m c.put_next_with-2.new.perm c.put_firsts.new.lists c.put_next_with-2.new.inverse c.put_firsts.new.inverses some (c.put_next_with-2.auto.perm ∙ c.split_at_mut-head.ensures.front_len) c.put_next_with-2.ensures.inverse c.put_firsts.ensures.inverses

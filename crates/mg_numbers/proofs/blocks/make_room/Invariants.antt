use Rattle.std.proofs.Common.{◌≡◌, ◌++◌, ◌+◌, map, cond, ltb, take, drop}
use Rattle.mg_numbers.proofs.blocks.make_room.Given as goal

abbrev pub invariant-loop-x : goal.invariant-loop-x
invariant-loop-x l = l.images ≡ map (λ x. cond (ltb x l.image) x (x + 1)) (take l.x-index l.fn.images) ++ drop l.x-index l.fn.images

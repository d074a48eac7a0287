use Rattle.std.proofs.Common.{◌≡◌, length, take}
use Rattle.mg_present.specs.Image.{image_of}
use Rattle.mg_present.proofs.gen_map.image_length.Given as goal

-- the sum is the length of the image of the letters before the place
abbrev pub invariant-loop-x : goal.invariant-loop-x
invariant-loop-x l = l.sum ≡ length (image_of l.map (take l.x-index l.w.letters))

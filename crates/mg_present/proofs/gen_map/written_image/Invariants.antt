use Rattle.std.proofs.Common.{◌≡◌, take}
use Rattle.mg_present.specs.Image.{image_of}
use Rattle.mg_present.proofs.gen_map.written_image.Given as goal

-- the image of the letters before the place is written
abbrev pub invariant-loop-x : goal.invariant-loop-x
invariant-loop-x l = l.written.letters ≡ image_of l.map (take l.x-index l.w.letters)

-- Images of words under maps of generators.
use Rattle.std.specs.Prelude.{zero, suc, ℤ, pos, negsuc, List, [], slice_index_or}
use Rattle.std.specs.List.{flat_map}
use Rattle.mg_words.specs.Word.{inv}

-- the image of a letter: the word at the place of its generator, inverted for an inverse letter
abbrev pub letter_image : List (List ℤ) → ℤ → List ℤ
letter_image images (pos zero) = []
letter_image images (pos (suc n)) = slice_index_or images n []
letter_image images (negsuc n) = inv (slice_index_or images n [])

-- the image of a word, written out: the images of its letters, one after another
abbrev pub image_of : List (List ℤ) → List ℤ → List ℤ
image_of images w = flat_map (letter_image images) w

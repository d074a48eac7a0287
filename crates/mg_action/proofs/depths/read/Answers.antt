use Rattle.std.proofs.Common.{◌≡◌, length, get_or, sym, ap, subst, ◌∙◌, arith}
use Rattle.std.proofs.lemmas.List.Elements.{All-get_or, All-from_recursion}
use Rattle.mg_numbers.specs.Perms.{PermTuple}
use Rattle.mg_words.specs.Letter.{IsLetterOf}
use Rattle.mg_action.specs.declared.depths.Reading.{Reading}
use Rattle.mg_action.specs.Action.{perm_of_word}
use Rattle.mg_action.specs.Walk.{Begins, letter_depth}
use Rattle.mg_action.proofs.Reading.{reads_more, reads_all}
use Rattle.mg_action.proofs.depths.read.Goals as goal

pub loop-place-preserved : goal.loop-place-preserved
loop-place-preserved c =
    let x = c.index-word-place.result in
    let m = length c.args.action.now.images in
    let letter : IsLetterOf m x = subst (IsLetterOf m) (sym c.index-word-place.is) (All-get_or (IsLetterOf m) c.args.word.now c.loop-place.place x (omega arith) (All-from_recursion (IsLetterOf m) c.args.word.now c.requires.over)) in
    let deep : c.depth_of.result ≡ letter_depth c.args.action.now.degree x c.loop-place.image c.letter_image-next.result = c.depth_of.ensures ∙ ap (λ d. letter_depth d x c.loop-place.image c.letter_image-next.result) c.degree.ensures.value in
    record {
      below = c.letter_image-next.ensures.below;
      some = omega (arith, c.loop-place.invariant.some, c.max-depth.ensures);
      reads = reads_more c.args.action.now c.args.word.now c.loop-place.place c.args.point c.loop-place.image c.letter_image-next.result c.loop-place.depth c.max-depth.result x c.letter_image-next.ensures.perms letter (omega arith) c.index-word-place.is c.loop-place.invariant.below c.letter_image-next.ensures.image (omega (arith, c.max-depth.ensures)) (omega (arith, c.max-depth.ensures, deep)) c.loop-place.invariant.reads;
    }

pub returns-clause-image : goal.returns-clause-image
returns-clause-image c = λ r e.
    let full = reads_all c.args.action.now c.args.word.now c.loop-place.place c.args.point c.loop-place.image c.loop-place.depth (omega arith) c.loop-place.invariant.below c.loop-place.invariant.reads in
    let same : record { image = c.loop-place.image; depth = c.loop-place.depth } ≡ r = cc e in
    subst (λ (v : Reading). (t : PermTuple) → Begins c.args.action.now v.depth t → get_or (perm_of_word t c.args.word.now) c.args.point 0 ≡ v.image) same full

use Rattle.std.proofs.Common.{Err, subst}
use Rattle.mg_words.specs.declared.operations.WordFault.{WordFault}
use Rattle.mg_names.specs.Reads.{IsNotTooLong}
use Rattle.mg_names.proofs.Lengths.{word_fits}
use Rattle.mg_names.proofs.words.written_out.Goals as goal

pub unreachable-requires : goal.unreachable-requires
unreachable-requires c =
    subst (λ (x : WordFault). IsNotTooLong (Err x)) c.in-Err-TooLong.field-0-is
    (c.in-Err-TooLong.ensures.fits c.requires.word c.requires.rest c.requires.written c.requires.stops (word_fits 0 0 c.requires.word c.requires.bounded.within))

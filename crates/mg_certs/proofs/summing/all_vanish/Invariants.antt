use Rattle.std.proofs.Common.{◌≡◌, ◌↔◌, length, drop}
use Rattle.std.specs.List.{AllByRecursion}
use Rattle.mg_words.specs.Word.{IsOver, letters_of}
use Rattle.mg_cyclic.specs.Map.{residue_of_word}
use Rattle.mg_certs.proofs.summing.all_vanish.Given as goal

-- whether all words sum to 0 depends on those that are left
abbrev pub invariant-loop-word : goal.invariant-loop-word
invariant-loop-word l =
    record {
      over : AllByRecursion (IsOver (length l.map.residues)) (letters_of (drop l.word-index l.words));
      vanish : AllByRecursion (λ w. residue_of_word l.map w ≡ 0) (letters_of (drop l.word-index l.words)) ↔ AllByRecursion (λ w. residue_of_word l.map w ≡ 0) (letters_of l.words);
    }

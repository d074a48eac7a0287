-- The grammar is unambiguous, and words are read greedily.
use Rattle.std.proofs.Common.{◌≡◌, [], Some, sym, ap, ◌∙◌, append-nil}
use Rattle.mg_terms.specs.Word.{Word, word_lexemes}
use Rattle.mg_terms.specs.Reading.{Stand, whole, State, state, run, start, closed}
use Rattle.mg_terms.proofs.Machine.{ended, closed_ended, word_runs}

-- a whole word is read to its end
pub word_reads : (w : Word) → run start (word_lexemes w) ≡ Some (state [] (ended w))
word_reads w = ap (run start) (sym (append-nil (word_lexemes w))) ∙ word_runs w [] []

closed_state : State → Stand
closed_state (state fs s) = closed s

one_ended : (u v : Word) → Some (state [] (ended u)) ≡ Some (state [] (ended v)) → u ≡ v
unfolding closed_state
one_ended u v e =
    let same : state [] (ended u) ≡ state [] (ended v) = cc in
    let wholes : whole u ≡ whole v = sym (closed_ended u) ∙ ap closed_state same ∙ closed_ended v in
    cc

pub one_word : (u v : Word) → word_lexemes u ≡ word_lexemes v → u ≡ v
one_word u v e = one_ended u v (sym (word_reads u) ∙ ap (run start) e ∙ word_reads v)

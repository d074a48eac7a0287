use Rattle.std.proofs.Common.{◌≢◌, ℕ, ◌<◌}
use Rattle.mg_lex.specs.Keyword.{keyword_text}
use Rattle.mg_lex.proofs.Keywords.{entry}
use Rattle.mg_lex.proofs.keyword.keyword_of.Given as goal

-- no entry that was looked at is written so
abbrev pub invariant-loop-keyword : goal.invariant-loop-keyword
invariant-loop-keyword l = (i : ℕ) → i < l.keyword-index → keyword_text (entry i) ≢ l.word

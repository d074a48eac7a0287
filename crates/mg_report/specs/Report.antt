-- The text of a report. A line is pieces, joined by single spaces and ended by a line feed.
use Rattle.std.specs.Prelude.{ℕ, Option, Some, None, List, [], ◌∷◌, ◌++◌, ℤ, codes}
use Rattle.std.specs.List.{flat_map}
use Rattle.std.specs.Fmt.{decimal}
use Rattle.mg_ledger.specs.declared.ledger.Account.{Account}
use Rattle.mg_words.specs.declared.procedure.Procedure.{Procedure}
use Rattle.mg_words.specs.declared.procedure.Procedure.TheVariants as procedures
use Rattle.mg_present.specs.Ask.{Inquiry}
use Rattle.mg_turn.specs.declared.outcome.Limit.{Limit}
use Rattle.mg_turn.specs.declared.outcome.Limit.TheVariants as limits
use Rattle.mg_workers.specs.declared.held.End.{End}
use Rattle.mg_workers.specs.declared.held.End.TheVariants as ends
use Rattle.mg_certs.specs.Claim.{Verdict, affirmed, refuted}
use Rattle.mg_certtext.specs.Pieces.{line}
use Rattle.mg_certtext.specs.Words.{words_pieces, names_pieces}
use Rattle.mg_certtext.specs.Verdicts.{verdict_text}

-- what a report says of one search of a question: its units, and how it stands
pub record SearchLine : Type 0 where
  pub procedure : Procedure
  pub account : Account
  pub end : End

-- what a report says of one question: the names of the generators, what is asked, the verdict with the number of its fact, and the searches
pub record QuestionBlock : Type 0 where
  pub name : List ℕ
  pub names : List (List ℕ)
  pub ask : Inquiry
  pub verdict : Option (ℕ × Verdict)
  pub searches : List SearchLine

abbrev pub answer_piece : Verdict → List ℕ
answer_piece (affirmed certificate) = codes "YES"
answer_piece (refuted goal model) = codes "NO"

-- whether a question is open, or which fact is its verdict
abbrev pub standing : Option (ℕ × Verdict) → List (List ℕ)
standing None = codes "OPEN" ∷ []
standing (Some found) = answer_piece found.1 ∷ codes "fact" ∷ decimal found.0 ∷ []

-- the line of a verdict
unfoldable pub verdict_line : List (List ℕ) → Verdict → List ℕ
verdict_line names verdict = verdict_text names verdict ++ 10 ∷ []

-- the line of a question's verdict, where it has one
unfoldable pub found_line : List (List ℕ) → Option (ℕ × Verdict) → List ℕ
found_line names None = []
found_line names (Some found) = verdict_line names found.1

abbrev pub procedure_piece : Procedure → List ℕ
procedure_piece procedures.Derive = codes "derive"
procedure_piece procedures.Act = codes "act"
procedure_piece procedures.Residue = codes "residue"
procedure_piece procedures.Rewrite = codes "rewrite"
procedure_piece procedures.Cosets = codes "cosets"
procedure_piece procedures.Nielsen = codes "nielsen"
procedure_piece procedures.Recall = codes "recall"

abbrev pub limit_piece : Limit → List ℕ
limit_piece limits.Rules = codes "rules"
limit_piece limits.Letters = codes "letters"
limit_piece limits.Entries = codes "entries"
limit_piece limits.Moves = codes "moves"
limit_piece limits.Symbols = codes "symbols"

-- how a search stands
abbrev pub end_pieces : End → List (List ℕ)
end_pieces ends.Fresh = codes "fresh" ∷ []
end_pieces ends.More = codes "more" ∷ []
end_pieces ends.Found = codes "found" ∷ []
end_pieces ends.Closed = codes "closed" ∷ []
end_pieces ends.Idle = codes "idle" ∷ []
end_pieces ends.Stopped = codes "stopped" ∷ []
end_pieces (ends.Full what count) = codes "full" ∷ limit_piece what ∷ decimal count ∷ []
end_pieces ends.Cancelled = codes "cancelled" ∷ []

abbrev pub units_pieces : Account → List (List ℕ)
units_pieces account = codes "granted" ∷ decimal account.granted ∷ codes "spent" ∷ decimal account.spent ∷ codes "held" ∷ decimal account.held ∷ codes "returned" ∷ decimal account.returned ∷ []

unfoldable pub search_text : SearchLine → List ℕ
search_text search = line (codes "search") (procedure_piece search.procedure ∷ units_pieces search.account ++ (codes "end" ∷ end_pieces search.end))

unfoldable pub question_text : List ℕ → Option (ℕ × Verdict) → List ℕ
question_text name verdict = line (codes "question") (name ∷ standing verdict)

unfoldable pub group_text : List (List ℕ) → List (List ℤ) → List ℕ
group_text names relators = line (codes "group") (codes "<" ∷ names_pieces names ++ (codes "|" ∷ words_pieces names relators) ++ codes ">" ∷ [])

-- a line of words between angle brackets
unfoldable pub words_text : List ℕ → List (List ℕ) → List (List ℤ) → List ℕ
words_text title names words = line title (codes "<" ∷ words_pieces names words ++ codes ">" ∷ [])

unfoldable pub ask_text : List (List ℕ) → Inquiry → List ℕ
ask_text names ask = group_text names ask.group.relators ++ words_text (codes "subgroup") names ask.subgroup ++ words_text (codes "goals") names ask.goals

unfoldable pub block_text : QuestionBlock → List ℕ
block_text block = question_text block.name block.verdict ++ ask_text block.names block.ask ++ found_line block.names block.verdict ++ flat_map search_text block.searches

-- a whole report
abbrev pub report_text : ℕ → ℕ → List QuestionBlock → List ℕ
report_text funded purse blocks = line (codes "report") [] ++ line (codes "funded") (decimal funded ∷ codes "purse" ∷ decimal purse ∷ []) ++ flat_map block_text blocks ++ line (codes "end") []

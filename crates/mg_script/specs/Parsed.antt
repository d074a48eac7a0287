-- What the first lines of a script hold.
use Rattle.std.specs.Prelude.{◌≡◌, ℕ, ◌+◌, List, length}
use Rattle.mg_lex.specs.declared.refusal.Refused.{Refused}
use Rattle.mg_script.specs.declared.counted.Counts.{Counts}
use Rattle.mg_script.specs.declared.parsing.Parser.{Parser}
use Rattle.mg_script.specs.declared.script.ScriptLine.{ScriptLine}
use Rattle.mg_script.specs.Count.{AreWithinLimits}
use Rattle.mg_script.specs.LineRead.{IsLineRefusal}
use Rattle.mg_script.specs.Script.{no_counts, counted_anew, AreKept}

-- these lines are kept or skipped
pub record AreParsed (lines : List (List ℕ)) (parser : Parser) : Type 0 where
  pub kept : AreKept no_counts 1 lines parser.script parser.counts
  pub number : parser.number ≡ length lines
  pub within : AreWithinLimits parser.counts

-- these lines are kept or skipped, and the line behind them is refused
pub record IsRefusedBehind (front : List (List ℕ)) (line : List ℕ) (r : Refused) : Type 0 where
  pub script : List ScriptLine
  pub counts : Counts
  pub kept : AreKept no_counts 1 front script counts
  pub refusal : IsLineRefusal (counted_anew counts) line (length front + 1) r

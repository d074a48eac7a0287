-- What a report carries with its verdicts.
use Rattle.std.specs.Prelude.{◌≡◌, ℕ, Option, Some, None, List, [], ◌++◌, length, take, slice_get}
use Rattle.std.specs.List.{flat_map}
use Rattle.mg_present.specs.Ask.{Inquiry}
use Rattle.mg_questions.specs.declared.question.Question.{Question}
use Rattle.mg_questions.specs.Asking.{IsAskOf}
use Rattle.mg_names.specs.Scope.{Scope}
use Rattle.mg_certs.specs.Claim.{Verdict}
use Rattle.mg_certs.specs.Validity.{Accepted}
use Rattle.mg_report.specs.Report.{QuestionBlock, question_text, ask_text, verdict_line, search_text, block_text, report_text}
use Rattle.mg_session.specs.State.{State}

-- what stands behind the goals of an Ask: nothing, or the line of a verdict whose certificate is accepted for the Ask
abbrev pub IsCarried : List (List ℕ) → Inquiry → Option (ℕ × Verdict) → List ℕ → Type 0
IsCarried names ask None behind = behind ≡ []
IsCarried names ask (Some found) behind = (behind ≡ verdict_line names found.1) × Accepted ask found.1

-- the block of the question at a place of a script: its Ask is that of the question, and behind the goals it carries the
-- verdict
pub record Carries (scope : Scope) (place : ℕ) (block : QuestionBlock) : Type 0 where
  pub question : Question
  pub there : slice_get scope.questions place ≡ Some question
  pub asked : IsAskOf question block.ask
  pub behind : List ℕ
  pub carried : IsCarried block.names block.ask block.verdict behind
  pub text : block_text block ≡ question_text block.name block.verdict ++ ask_text block.names block.ask ++ behind ++ flat_map search_text block.searches

-- the text of a report on the first questions, as many as this: their blocks, in order
pub record IsReport (scope : Scope) (state : State) (questions : ℕ) (text : List ℕ) : Type 0 where
  pub blocks : List QuestionBlock
  pub count : length blocks ≡ length (take questions scope.plan.questions)
  pub each : (place : ℕ) (block : QuestionBlock) → slice_get blocks place ≡ Some block → Carries scope place block
  pub text_is : text ≡ report_text state.funded state.purse blocks

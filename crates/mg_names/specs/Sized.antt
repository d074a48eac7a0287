-- Whether the Ask of a question is small enough.
use Rattle.std.specs.Prelude.{◌≡◌, ℕ, ◌+◌, ◌≤◌, Option, Some, None, [], ◌++◌}
use Rattle.mg_questions.specs.declared.question.Question as questions
use Rattle.mg_names.specs.declared.questions.Addition.{Addition}
use Rattle.mg_names.specs.declared.limits.TheConstants.{ASK_LETTER_LIMIT}
use Rattle.mg_names.specs.declared.sizing.CountedAsk.{CountedAsk}
use Rattle.mg_names.specs.declared.sizing.Sizing.{Sizing}
use Rattle.mg_names.specs.declared.sizing.Sizing.TheVariants.{Fits, TooLarge}
use Rattle.mg_names.specs.Named.{Named, Question}
use Rattle.mg_names.specs.Scope.{Scope}
use Rattle.mg_names.specs.Meaning.{Asking, ask_for, ask_letters, question_named}
use Rattle.mg_names.specs.Cause.{Shown, in_question, too_large, too_large_unless, IsFirst}
use Rattle.mg_names.specs.Least.{Gets}

-- the Ask of a question, beside those of others with so many letters
pub record IsCounted (letters : ℕ) (q : questions.Question) (counted : CountedAsk) : Type 0 where
  pub ask : counted.ask ≡ ask_for q
  pub count : counted.letters ≡ ask_letters (ask_for q)
  pub few : letters + counted.letters ≤ ASK_LETTER_LIMIT

abbrev pub IsSizing : Scope → Named → Asking → Sizing → Type 0
IsSizing scope n a (Fits counted) = IsCounted scope.letters a.question counted × (too_large scope n (Some a) ≡ [])
IsSizing scope n a (TooLarge c) = IsFirst (too_large scope n (Some a)) (record { place = n.place; cause = c })

-- the question that is to be added, where one is named
abbrev pub IsToAdd : Scope → Option Asking → Option Addition → Type 0
IsToAdd scope None None = Unit {0}
IsToAdd scope (Some a) (Some addition) = (addition.group ≡ a.group) × IsCounted scope.letters a.question addition.counted
IsToAdd scope _ _ = ⊥

-- a question has been read, and its Ask made where it shows no cause
pub record IsAskRead (scope : Scope) (n : Named) (q : Question) (before after : Option Shown) (addition : Option Addition) : Type 0 where
  pub causes : Gets (in_question scope q ++ too_large_unless (in_question scope q) scope n (question_named scope q)) before after
  pub to_add : after ≡ None → IsToAdd scope (question_named scope q) addition

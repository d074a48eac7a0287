-- What names stand for.
use Rattle.std.specs.Prelude.{ℕ, ◌+◌, ◌==◌, ◌&&◌, if◌then◌else◌, Bool, true, false, Option, Some, None, List, [], ◌∷◌}
use Rattle.std.specs.Prelude.{ℤ}
use Rattle.mg_words.specs.declared.procedure.Procedure.{Procedure}
use Rattle.mg_questions.specs.declared.question.Question.{Question}
use Rattle.mg_names.specs.Plan.{Plan}

-- Groups and questions go by their places from 0. Words, the words of a subgroup and the images of a map are
-- freely reduced; a map has the images of the generators of its source in order.
pub data Object : Type 0 where
  a_group : (place : ℕ) → Object
  a_word : (group : ℕ) → List ℤ → Object
  a_subgroup : (group : ℕ) → List (List ℤ) → Object
  a_map : (source target : ℕ) → List (List ℤ) → Object
  a_question : (place : ℕ) → Object

pub record Declared : Type 0 where
  pub name : List ℕ
  pub object : Object

-- What the statements so far come to: the names declared, in order, the plan, what its questions ask, how many letters
-- their Asks have together, and the pairs of question and procedure that grants name.
pub record Scope : Type 0 where
  pub names : List Declared
  pub plan : Plan
  pub questions : List Question
  pub letters : ℕ
  pub searches : List (ℕ × Procedure)

-- before the first statement
abbrev pub nothing : Scope
nothing = record {
  names = [];
  plan = record { groups = []; questions = []; steps = [] };
  questions = [];
  letters = 0;
  searches = [];
}

abbrev pub same_text : List ℕ → List ℕ → Bool
same_text [] [] = true
same_text (a ∷ more) (b ∷ others) = (a == b) && same_text more others
same_text _ _ = false

-- what a name stands for
abbrev pub lookup : List Declared → List ℕ → Option Object
lookup [] text = None
lookup (d ∷ ds) text = if same_text d.name text then Some d.object else lookup ds text

-- the place of a generator among the names of generators, from 0
abbrev pub next_place : Option ℕ → Option ℕ
next_place None = None
next_place (Some i) = Some (i + 1)

abbrev pub generator_place : List (List ℕ) → List ℕ → Option ℕ
generator_place [] text = None
generator_place (g ∷ gs) text = if same_text g text then Some 0 else next_place (generator_place gs text)

-- The texts of logs of rules, where the generators have these names in order.
use Rattle.std.specs.Prelude.{ℕ, List, [], ◌∷◌, ◌++◌, map, codes}
use Rattle.std.specs.List.{flat_map}
use Rattle.std.specs.Fmt.{decimal}
use Rattle.mg_rulelog.specs.declared.moves.Move.{Move}
use Rattle.mg_rulelog.specs.declared.moves.Move.TheVariants.{InPair, OutPair, InRelator, OutRelator, By, Back}
use Rattle.mg_rulelog.specs.declared.log.RuleLog.{RuleLog}
use Rattle.mg_rulelog.specs.Rule.{Logged}
use Rattle.mg_certtext.specs.Pieces.{spaced, listed}
use Rattle.mg_certtext.specs.Signs.{relator_piece}
use Rattle.mg_certtext.specs.Words.{run_piece, word_pieces}

-- a move: what it does, with what, and how many letters stand before it
abbrev pub at_place : List ℕ → List ℕ → ℕ → List (List ℕ)
at_place title piece place = title ∷ piece ∷ decimal place ∷ []

abbrev pub move_pieces : List (List ℕ) → Move → List (List ℕ)
move_pieces names (InPair x place) = at_place (codes "in") (run_piece names (x, 1)) place
move_pieces names (OutPair x place) = at_place (codes "out") (run_piece names (x, 1)) place
move_pieces names (InRelator number inverse place) = at_place (codes "in") (relator_piece number inverse) place
move_pieces names (OutRelator number inverse place) = at_place (codes "out") (relator_piece number inverse) place
move_pieces names (By number place) = at_place (codes "by") (decimal number) place
move_pieces names (Back number place) = at_place (codes "back") (decimal number) place

-- moves, with commas between them
abbrev pub moves_pieces : List (List ℕ) → List Move → List (List ℕ)
moves_pieces names moves = listed (map (move_pieces names) moves)

-- a rule: its sides with an arrow between them, and the moves that show it
abbrev pub logged_pieces : List (List ℕ) → Logged → List (List ℕ)
logged_pieces names rule =
    codes "rule" ∷ word_pieces names rule.left ++ codes "->" ∷ word_pieces names rule.right ++ codes ":" ∷ moves_pieces names rule.moves ++ codes ";" ∷ []

-- the moves of a goal
abbrev pub goal_pieces : List (List ℕ) → List Move → List (List ℕ)
goal_pieces names moves = codes "goal" ∷ moves_pieces names moves ++ codes ";" ∷ []

-- YES by a log: its rules, and then the moves of each goal
abbrev pub log_text : List (List ℕ) → RuleLog → List ℕ
log_text names log = codes "yes" ++ spaced (codes "rulelog" ∷ flat_map (logged_pieces names) log.rules ++ flat_map (goal_pieces names) log.goals)

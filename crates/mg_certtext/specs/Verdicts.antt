-- The texts of verdicts, where the generators have these names in order.
use Rattle.std.specs.Prelude.{ℕ, ◌+◌, List, ◌∷◌, ◌++◌, map, codes}
use Rattle.std.specs.Fmt.{decimal}
use Rattle.mg_derive.specs.declared.symbol.Symbol.{Symbol}
use Rattle.mg_derive.specs.declared.symbol.Symbol.TheVariants as symbols
use Rattle.mg_certs.specs.Claim.{Model, Verdict, affirmed, refuted, derivation, rulelog}
use Rattle.mg_certtext.specs.Pieces.{spaced}
use Rattle.mg_certtext.specs.Signs.{sign, relator_piece}
use Rattle.mg_certtext.specs.Words.{run_piece}
use Rattle.mg_certtext.specs.Models.{model_pieces}
use Rattle.mg_certtext.specs.Logs.{log_text}

-- a symbol of a derivation
abbrev pub symbol_piece : List (List ℕ) → Symbol → List ℕ
symbol_piece names (symbols.Letter x) = run_piece names (x, 1)
symbol_piece names (symbols.Relator place inverse) = relator_piece place inverse
symbol_piece names (symbols.Member place inverse) = codes "[" ++ decimal place ++ codes "]" ++ sign inverse
symbol_piece names symbols.Cut = codes ";"

-- NO: the goal, counted from 1, and the model that refutes it
abbrev pub no_text : List (List ℕ) → ℕ → Model → List ℕ
no_text names goal model = codes "no" ++ spaced (codes "goal" ∷ decimal (goal + 1) ∷ model_pieces names model)

-- the text of a verdict, without the end of its line
abbrev pub verdict_text : List (List ℕ) → Verdict → List ℕ
verdict_text names (affirmed (derivation text)) = codes "yes" ++ spaced (codes "derivation" ∷ map (symbol_piece names) text)
verdict_text names (affirmed (rulelog log)) = log_text names log
verdict_text names (refuted goal model) = no_text names goal model

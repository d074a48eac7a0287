-- The pieces of models, where the generators have these names in order.
use Rattle.std.specs.Prelude.{ℕ, List, ◌∷◌, ◌++◌, map, codes}
use Rattle.std.specs.Fmt.{decimal}
use Rattle.mg_numbers.specs.Perms.{PermTuple}
use Rattle.mg_numbers.specs.Residues.{ResidueTuple}
use Rattle.mg_rules.specs.Rule.{Rule}
use Rattle.mg_certs.specs.Claim.{Model, action, residues, complete}
use Rattle.mg_certtext.specs.Pieces.{listed}
use Rattle.mg_certtext.specs.Words.{word_pieces}

-- an image list, or residues: their numbers
abbrev pub numbers_pieces : List ℕ → List (List ℕ)
numbers_pieces numbers = map decimal numbers

-- an action: its degree, and the image lists of the generators, with commas between them
abbrev pub action_pieces : PermTuple → List (List ℕ)
action_pieces perms = codes "action" ∷ decimal perms.degree ∷ codes ":" ∷ listed (map numbers_pieces perms.images)

-- a map to residues: its modulus, and the residues of the generators
abbrev pub residues_pieces : ResidueTuple → List (List ℕ)
residues_pieces sums = codes "residues" ∷ decimal sums.modulus ∷ codes ":" ∷ numbers_pieces sums.residues

-- a rule: its left side and its right side, with an arrow between them
abbrev pub rule_pieces : List (List ℕ) → Rule → List (List ℕ)
rule_pieces names rule = word_pieces names rule.left ++ codes "->" ∷ word_pieces names rule.right

-- a complete rewriting system: its rules, with commas between them
abbrev pub rules_pieces : List (List ℕ) → List Rule → List (List ℕ)
rules_pieces names rules = codes "complete" ∷ codes ":" ∷ listed (map (rule_pieces names) rules)

abbrev pub model_pieces : List (List ℕ) → Model → List (List ℕ)
model_pieces names (action perms) = action_pieces perms
model_pieces names (residues sums) = residues_pieces sums
model_pieces names (complete rules) = rules_pieces names rules

-- Which procedures may be used for what a question asks.
use Rattle.std.specs.Prelude.{◌≡◌, ◌≤◌, []}
use Rattle.mg_words.specs.declared.procedure.Procedure.{Procedure}
use Rattle.mg_words.specs.declared.procedure.Procedure.TheVariants.{Derive, Act, Residue, Rewrite, Cosets, Nielsen, Recall}
use Rattle.mg_present.specs.Ask.{Inquiry}

-- the procedure may be used for the Ask
abbrev pub Applies : Procedure → Inquiry → Type 0
Applies Derive ask = Unit {0}
Applies Act ask = 1 ≤ ask.group.generators
Applies Residue ask = 1 ≤ ask.group.generators
Applies Rewrite ask = ask.subgroup ≡ []
Applies Cosets ask = 1 ≤ ask.group.generators
Applies Nielsen ask = ask.group.relators ≡ []
Applies Recall ask = Unit {0}

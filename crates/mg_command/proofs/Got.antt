-- What the getters give of the matches of words that clap takes.
use Rattle.std.proofs.Common.{◌≡◌, List, ℕ, Option, Some, ◌∙◌, ap, subst}
use Rattle.clap.specs.Walk.{Row, first_of, one_of}
use Rattle.clap.specs.Simple.{App, matches_of}
use Rattle.clap.specs.Matches.{found_of, first_value, one_text}
use Rattle.clap.proofs.WalkLemmas.{first_value-rows, one_text-rows}
use Rattle.clap.specs.declared.parser.matches.ArgMatches.{ArgMatches}
use Rattle.mg_command.specs.Reading.{IsRead, ReadsAs}

pub got : (app : App) (words : List (List ℕ)) (read : Option ArgMatches) (m : ArgMatches) → ReadsAs app words read → read ≡ Some m → IsRead app words m
got app words read m reads is = subst (ReadsAs app words) is reads

pub text_got : (app : App) (words : List (List ℕ)) (m : ArgMatches) (id : List ℕ) (t : Option (List ℕ)) → IsRead app words m → t ≡ first_value (found_of m) id → t ≡ first_of id (matches_of app words)
text_got app words m id t is e = e ∙ (first_value-rows (found_of m) id ∙ ap (λ (rs : List Row). first_of id rs) is.rows)

pub flag_got : (app : App) (words : List (List ℕ)) (m : ArgMatches) (id : List ℕ) → IsRead app words m → one_text (found_of m) id ≡ one_of id (matches_of app words)
flag_got app words m id is = one_text-rows (found_of m) id ∙ ap (λ (rs : List Row). one_of id rs) is.rows

use Rattle.std.proofs.Common.{refl, ap, subst, ◌∙◌}
use Rattle.clap.specs.Faults.{fault_of}
use Rattle.mg_command.specs.Words.{texts}
use Rattle.mg_command.specs.Reading.{ReadsAs, check_app, has_dashes}
use Rattle.mg_command.proofs.Rule.{no_check}
use Rattle.mg_command.proofs.CheckWords.{check_taken, no_words_taken}
use Rattle.mg_command.proofs.Got.{got}
use Rattle.mg_command.proofs.words.check_of.Goals as goal

pub returns-in_default : goal.returns-in_default
returns-in_default c = no_check _ (λ none.
    subst (ReadsAs check_app (texts c.args.words.now)) c.in_default.is c.in_ok-_matches.ensures (ap has_dashes none) (ap (fault_of check_app) none ∙ no_words_taken))

pub returns : goal.returns
returns c =
    let read = got check_app (texts c.args.words.now) _ _ c.in_ok-_matches.ensures c.in-Some.is in
    (refl, check_taken (texts c.args.words.now) read.plain read.taken)

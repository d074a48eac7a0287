use Rattle.std.proofs.Common.{ℕ, List, Option, refl, sym, subst, codes, ◌∙◌}
use Rattle.clap.specs.Walk.{one_of}
use Rattle.clap.specs.Simple.{matches_of}
use Rattle.mg_command.specs.Words.{texts}
use Rattle.mg_command.specs.Reading.{ReadsAs, IsSampled, sample_app}
use Rattle.mg_command.proofs.Rule.{no_sample}
use Rattle.mg_command.proofs.SampleWords.{flag_told, sample_read, sample_right}
use Rattle.mg_command.proofs.Got.{got, text_got, flag_got}
use Rattle.mg_command.proofs.words.sample_of.Goals as goal

pub returns-in_default : goal.returns-in_default
returns-in_default c = no_sample _ (λ n runs says.
    let r = sample_right (texts c.args.words.now) n runs says in
    subst (ReadsAs sample_app (texts c.args.words.now)) c.in_default.is c.in_ok-matches.ensures r.plain r.taken)

pub returns-in_default-sampled_of : goal.returns-in_default-sampled_of
returns-in_default-sampled_of c = no_sample _ (λ n runs says.
    let r = sample_right (texts c.args.words.now) n runs says in
    let read = got sample_app (texts c.args.words.now) _ c.in-Some.matches c.in_ok-matches.ensures c.in-Some.is in
    c.in_default-sampled_of.ensures.none n (subst (λ (t : Option (List ℕ)). IsSampled t n) (sym (text_got sample_app (texts c.args.words.now) c.in-Some.matches (codes "number") _ read c.get_str.ensures)) r.value))

pub returns : goal.returns
returns c =
    let words = texts c.args.words.now in
    let read = got sample_app (texts c.args.words.now) _ c.in-Some.matches c.in_ok-matches.ensures c.in-Some.is in (
      refl,
      sample_read words c.in-Some-sampled_of.number c.get_flag-runs.result read.plain read.taken
          (subst (λ (t : Option (List ℕ)). IsSampled t c.in-Some-sampled_of.number) (text_got sample_app words c.in-Some.matches (codes "number") _ read c.get_str.ensures) c.in-Some-sampled_of.ensures.some)
          (flag_told c.get_flag-runs.result (one_of (codes "run") (matches_of sample_app words))
          (λ e. c.get_flag-runs.ensures.value (flag_got sample_app words c.in-Some.matches (codes "run") read ∙ e))
          (λ e. c.get_flag-runs.ensures.other (flag_got sample_app words c.in-Some.matches (codes "run") read ∙ e))),
    )

use Rattle.std.proofs.Common.{ℕ, List, Option, refl, sym, subst, codes}
use Rattle.mg_command.specs.Words.{texts}
use Rattle.mg_command.specs.Reading.{ReadsAs, IsWorkers, IsPolicy, run_app}
use Rattle.mg_command.proofs.Rule.{no_run}
use Rattle.mg_command.proofs.RunWords.{run_read}
use Rattle.mg_command.proofs.RunRight.{run_right}
use Rattle.mg_command.proofs.Got.{got, text_got}
use Rattle.mg_command.proofs.words.run_of.Goals as goal

pub returns-in_default : goal.returns-in_default
returns-in_default c = no_run _ (λ n p says.
    let r = run_right (texts c.args.words.now) n p says in
    subst (ReadsAs run_app (texts c.args.words.now)) c.in_default.is c.in_ok-matches.ensures r.plain r.taken)

pub returns-in_default-workers_of : goal.returns-in_default-workers_of
returns-in_default-workers_of c = no_run _ (λ n p says.
    let r = run_right (texts c.args.words.now) n p says in
    let read = got run_app (texts c.args.words.now) _ c.in-Some.matches c.in_ok-matches.ensures c.in-Some.is in
    c.in_default-workers_of.ensures.none n (subst (λ (t : Option (List ℕ)). IsWorkers t n) (sym (text_got run_app (texts c.args.words.now) c.in-Some.matches (codes "workers") _ read c.get_str.ensures)) r.number))

pub returns-in_default-policy_of : goal.returns-in_default-policy_of
returns-in_default-policy_of c = no_run _ (λ n p says.
    let r = run_right (texts c.args.words.now) n p says in
    let read = got run_app (texts c.args.words.now) _ c.in-Some.matches c.in_ok-matches.ensures c.in-Some.is in
    c.in_default-policy_of.ensures.none p (subst (λ (t : Option (List ℕ)). IsPolicy t p) (sym (text_got run_app (texts c.args.words.now) c.in-Some.matches (codes "policy") _ read c.get_str-2.ensures)) r.name))

pub returns : goal.returns
returns c =
    let words = texts c.args.words.now in
    let read = got run_app (texts c.args.words.now) _ c.in-Some.matches c.in_ok-matches.ensures c.in-Some.is in (
      refl,
      run_read words c.in-Some-workers_of.workers c.in-Some-policy_of.policy read.plain read.taken
          (subst (λ (t : Option (List ℕ)). IsWorkers t c.in-Some-workers_of.workers) (text_got run_app words c.in-Some.matches (codes "workers") _ read c.get_str.ensures) c.in-Some-workers_of.ensures.some)
          (subst (λ (t : Option (List ℕ)). IsPolicy t c.in-Some-policy_of.policy) (text_got run_app words c.in-Some.matches (codes "policy") _ read c.get_str-2.ensures) c.in-Some-policy_of.ensures.some),
    )

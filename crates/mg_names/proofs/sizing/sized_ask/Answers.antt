use Rattle.mg_names.proofs.Large.{many_answer, long_answer, fits_answer, full_answer}
use Rattle.mg_names.proofs.sizing.sized_ask.Goals as goal

pub returns-in-Err-TooManyGoals : goal.returns-in-Err-TooManyGoals
returns-in-Err-TooManyGoals c scope n a before same =
    let count = c.in-Err-TooManyGoals.field-0-0 in
    let is = c.in-Err-TooManyGoals.is in
    let fault_is = c.in-Err-TooManyGoals.field-0-is in
    many_answer scope n a c.args.question.now same c.requires.fit c.requires.presented count ((c.ask_of.ensures.too_many count).0 cc)

pub returns-in-Err-GoalTooLong : goal.returns-in-Err-GoalTooLong
returns-in-Err-GoalTooLong c scope n a before same =
    let place = c.in-Err-GoalTooLong.field-0-0 in
    let letters = c.in-Err-GoalTooLong.field-0-1 in
    let is = c.in-Err-GoalTooLong.is in
    let fault_is = c.in-Err-GoalTooLong.field-0-is in
    long_answer scope n a c.args.question.now same c.requires.fit place letters ((c.ask_of.ensures.too_long place letters).0 cc)

pub returns-in-Some : goal.returns-in-Some
returns-in-Some c scope n a before same =
    let is = c.in-Ok.is in
    fits_answer scope n a c.args.question.now same c.requires.fit c.args.letters c.in-Ok.ask before c.in-Ok.ensures.ask
    (λ count h. let e = (c.ask_of.ensures.too_many count).1 h in cc)
    (λ place letters h. let e = (c.ask_of.ensures.too_long place letters).1 h in cc)
    c.requires.letters c.in-Some.left c.in-Some.ensures

pub returns-in-None : goal.returns-in-None
returns-in-None c scope n a before same =
    let is = c.in-Ok.is in
    full_answer scope n a c.args.question.now same c.requires.fit c.args.letters c.in-Ok.ask before c.in-Ok.ensures.ask
    (λ count h. let e = (c.ask_of.ensures.too_many count).1 h in cc)
    (λ place letters h. let e = (c.ask_of.ensures.too_long place letters).1 h in cc)
    c.requires.letters c.in-None.ensures

use Rattle.mg_words.proofs.Free.{IsFormOf-free_form, free_form_is_the_one}
use Rattle.mg_words.proofs.reduction.free_form_is_the_reduced_form.Goals as goal

pub returns-clause-form : goal.returns-clause-form
returns-clause-form c = IsFormOf-free_form

pub returns-clause-one : goal.returns-clause-one
returns-clause-one c = free_form_is_the_one

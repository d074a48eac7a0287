use Rattle.mg_rules.proofs.Firsts.{a_descendant, one_descendant, first_descends}
use Rattle.mg_rules.proofs.laws.each_word_has_one_first_descendant.Goals as goal

pub returns-clause-some : goal.returns-clause-some
returns-clause-some c rules u decrease = a_descendant rules decrease u

pub returns-clause-one : goal.returns-clause-one
returns-clause-one c = one_descendant

pub returns-clause-normal : goal.returns-clause-normal
returns-clause-normal c rules u v h = h.normal

pub returns-clause-descends : goal.returns-clause-descends
returns-clause-descends c = first_descends

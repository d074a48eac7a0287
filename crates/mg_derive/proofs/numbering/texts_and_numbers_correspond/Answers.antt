use Rattle.mg_derive.proofs.Numbers.{numbered_one, numbered_each, number_of_each}
use Rattle.mg_derive.proofs.numbering.texts_and_numbers_correspond.Goals as goal

pub returns-clause-one_text : goal.returns-clause-one_text
returns-clause-one_text c = numbered_one

pub returns-clause-each_text : goal.returns-clause-each_text
returns-clause-each_text c = number_of_each

pub returns-clause-each_number : goal.returns-clause-each_number
returns-clause-each_number c = numbered_each

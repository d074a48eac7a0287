use Rattle.mg_numbers.proofs.PermsLaws.{perm_tuple_at, one_perm_tuple, perm_tuple_number, one_perm_number}
use Rattle.mg_action.proofs.laws.actions_and_numbers_correspond.Goals as goal

pub returns-clause-one_action : goal.returns-clause-one_action
returns-clause-one_action c = one_perm_tuple

pub returns-clause-one_number : goal.returns-clause-one_number
returns-clause-one_number c = one_perm_number

pub returns-clause-each_action : goal.returns-clause-each_action
returns-clause-each_action c = perm_tuple_number

pub returns-clause-each_number : goal.returns-clause-each_number
returns-clause-each_number c = perm_tuple_at

pub returns-clause-each_refuted : goal.returns-clause-each_refuted
returns-clause-each_refuted c ask which action refutes =
    let number = perm_tuple_number ask.group.generators action refutes.is_action.perms in
    (number.0, number.1, record { action = action; numbered = number.2; goal = which; refutes = refutes })

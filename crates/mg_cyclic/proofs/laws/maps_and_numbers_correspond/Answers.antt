use Rattle.mg_numbers.proofs.ResiduesLaws.{residue_tuple_at, one_residue_tuple, residue_tuple_number, one_residue_number}
use Rattle.mg_cyclic.proofs.laws.maps_and_numbers_correspond.Goals as goal

pub returns-clause-one_map : goal.returns-clause-one_map
returns-clause-one_map c = one_residue_tuple

pub returns-clause-one_number : goal.returns-clause-one_number
returns-clause-one_number c = one_residue_number

pub returns-clause-each_map : goal.returns-clause-each_map
returns-clause-each_map c = residue_tuple_number

pub returns-clause-each_number : goal.returns-clause-each_number
returns-clause-each_number c = residue_tuple_at

pub returns-clause-each_refuted : goal.returns-clause-each_refuted
returns-clause-each_refuted c ask which map refutes =
    let number = residue_tuple_number ask.group.generators map refutes.is_map.residues in
    (number.0, number.1, record { map = map; numbered = number.2; goal = which; refutes = refutes })

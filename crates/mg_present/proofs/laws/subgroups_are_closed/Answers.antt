use Rattle.mg_present.proofs.Sameness.{lies_empty, lies_member, lies_product, lies_inverse, lies_same, lies_in_none, none_lies}
use Rattle.mg_present.proofs.laws.subgroups_are_closed.Goals as goal

pub returns-clause-empty : goal.returns-clause-empty
returns-clause-empty c = lies_empty

pub returns-clause-member : goal.returns-clause-member
returns-clause-member c = lies_member

pub returns-clause-product : goal.returns-clause-product
returns-clause-product c = lies_product

pub returns-clause-inverse : goal.returns-clause-inverse
returns-clause-inverse c = lies_inverse

pub returns-clause-same : goal.returns-clause-same
returns-clause-same c = lies_same

pub returns-clause-no_members : goal.returns-clause-no_members
returns-clause-no_members c group w = (lies_in_none group w, none_lies group w)

use Rattle.mg_certs.proofs.verdict.Model.is_accepted.Goals as goal

pub returns-in-Complete-clause-exact : goal.returns-in-Complete-clause-exact
returns-in-Complete-clause-exact c = rw c.in-Complete.is c.is_complete_for.ensures

use Rattle.mg_certs.proofs.verdict.Model.refutes.Goals as goal

pub returns-in-Complete-clause-exact : goal.returns-in-Complete-clause-exact
returns-in-Complete-clause-exact c = rw c.in-Complete.is c.refutes-in-Complete.ensures

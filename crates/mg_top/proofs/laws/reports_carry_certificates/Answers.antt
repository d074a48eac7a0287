use Rattle.mg_top.proofs.Carrying.{report_carries}
use Rattle.mg_top.proofs.laws.reports_carry_certificates.Goals as goal

pub returns : goal.returns
returns c = λ workers policy script output legal step questions state text at_step at at_text. report_carries workers policy script output legal step state at questions text at_step at_text

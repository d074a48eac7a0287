use Rattle.mg_session.proofs.Printed.{carried}
use Rattle.mg_session.proofs.laws.verdicts_carry_certificates.Goals as goal

pub returns : goal.returns
returns c plan workers state place question block ok is_block = carried plan workers state ok block.ask block.verdict is_block.verdict

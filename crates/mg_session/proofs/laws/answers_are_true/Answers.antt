use Rattle.mg_session.proofs.Printed.{printed_true}
use Rattle.mg_session.proofs.laws.answers_are_true.Goals as goal

pub returns : goal.returns
returns c plan workers state place question block ok is_block = printed_true plan workers state ok block.ask block.verdict is_block.verdict

use Rattle.std.proofs.Common.{arith}
use Rattle.mg_rules.proofs.Reading.{ends_from, ends_to}
use Rattle.mg_rules.proofs.words.ends_with.Goals as goal

pub returns-then-end-word : goal.returns-then-end-word
returns-then-end-word c = (
  λ t. ends_from c.args.word.now c.args.end.now _ (c.are_same.ensures.0 t),
  λ h. c.are_same.ensures.1 (ends_to c.args.word.now c.args.end.now _ (omega arith) h),
)

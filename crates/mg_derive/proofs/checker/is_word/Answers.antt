use Rattle.mg_words.proofs.Exact.{letters_exact, letters_same}
use Rattle.mg_derive.proofs.Steps.{equal_from_test, test_from_equal}
use Rattle.mg_derive.proofs.checker.is_word.Goals as goal

pub returns : goal.returns
returns c = (
  λ h. letters_exact c.args.written.now.letters c.args.goal.now.letters (equal_from_test _ _ c.eq.ensures h),
  λ e. test_from_equal _ _ c.eq.ensures (letters_same c.args.written.now.letters c.args.goal.now.letters e),
)

use Rattle.std.proofs.Common.{refl}
use Rattle.mg_names.proofs.Pairs.{one_question_more}
use Rattle.mg_names.proofs.searches.Searches.add_question.Goals as goal

pub returns : goal.returns
returns c ss n holds = one_question_more ss n c.args.self.now _ holds c.in_ok-extend_from_slice.ensures.items refl refl refl

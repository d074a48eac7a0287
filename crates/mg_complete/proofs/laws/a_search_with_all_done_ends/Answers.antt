use Rattle.mg_complete.proofs.Refuting.{all_join}
use Rattle.mg_complete.proofs.AllDone.{kept_decrease, ends_so}
use Rattle.mg_complete.proofs.laws.a_search_with_all_done_ends.Goals as goal

pub returns : goal.returns
returns c s after units outcome kept begun all some turn =
    let equal = c.normal_descendants_are_equal.ensures in
    let first = c.each_word_has_one_first_descendant.ensures in
    let decrease = kept_decrease s kept in
    ends_so s after units outcome (record {
      equal = λ w u v. equal s.rules w u v decrease (all_join s.rules s.last s.spent kept.done all);
      some = λ w. let v = first.some s.rules w decrease in (v.0, first.descends s.rules w v.0 v.1, first.normal s.rules w v.0 v.1);
    }) kept begun all some turn

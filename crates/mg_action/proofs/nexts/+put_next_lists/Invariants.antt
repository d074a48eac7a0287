use Rattle.mg_action.proofs.nexts.+put_next_lists.Given as goal

abbrev pub decreases-put_next_lists : goal.decreases-put_next_lists
decreases-put_next_lists l = l.count

use Rattle.mg_action.proofs.nexts.+put_firsts.Given as goal

abbrev pub decreases-put_firsts : goal.decreases-put_firsts
decreases-put_firsts l = l.count

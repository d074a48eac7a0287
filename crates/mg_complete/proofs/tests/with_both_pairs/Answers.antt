use Rattle.mg_complete.proofs.tests.with_both_pairs.Goals as goal

pub returns : goal.returns
returns c = c.in_ok-deal_pair-2.ensures.works 1 (c.in_ok-deal_pair.ensures.works 0 c.in_ok-work.ensures)

use Rattle.mg_complete.proofs.tests.after_a_pair.Goals as goal

pub remains-requires : goal.remains-requires
remains-requires c = (c.in_ok-deal_pair.ensures.works 0 c.in_ok-work.ensures).system

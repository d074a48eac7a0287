use Rattle.mg_complete.proofs.Growing.{place_within}
use Rattle.mg_complete.proofs.Settling.{first_read, second_read, put_so}
use Rattle.mg_complete.proofs.desk.Desk.put_meeting.Goals as goal

pub put_other_result-requires : goal.put_other_result-requires
put_other_result-requires c =
    place_within c.args.rules.now c.args.met.now c.index-pairs-met.result c.requires
    (first_read c.args.rules.now c.pairs-pairs.result.now c.args.met.now c.index-pairs-met.result c.requires c.pairs-pairs.ensures c.index-pairs-met.is)

pub returns : goal.returns
returns c =
    put_so c.put_ways.result c.args.rules.now c.args.met.now c.index-pairs-met.result c.index-pairs-met-2.result c.put_one_result.new.word.letters c.put_other_result.new.word.letters c.put_ways.new.moves c.requires
    (first_read c.args.rules.now c.pairs-pairs.result.now c.args.met.now c.index-pairs-met.result c.requires c.pairs-pairs.ensures c.index-pairs-met.is)
    (second_read c.args.rules.now c.pairs-pairs.result.now c.args.met.now c.index-pairs-met-2.result c.requires c.pairs-pairs.ensures c.index-pairs-met-2.is)
    c.in_ok-put_one_result.ensures c.in_ok-put_other_result.ensures c.put_ways.ensures

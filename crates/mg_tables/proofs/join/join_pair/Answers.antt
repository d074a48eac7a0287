use Rattle.std.proofs.Common.{◌∷◌, arith}
use Rattle.std.proofs.lemmas.Result.{on_ok_weaker}
use Rattle.mg_tables.proofs.Leading.{pair, found_leads, turned_leads, same_leads, leads_then}
use Rattle.mg_tables.proofs.join.join_pair.Goals as goal

pub returns-then-left-right-clause-leads : goal.returns-then-left-right-clause-leads
returns-then-left-right-clause-leads c =
    on_ok_weaker c.merge.result
    (leads_then c.args.generators c.args.places c.args.entries.now c.args.entries.now c.merge.new.entries (c.args.pair ∷ c.args.pairs.now.items) (pair c.find-left.result c.find-right.result ∷ c.args.pairs.now.items) c.merge.new.pairs.items
    (found_leads c.args.generators c.args.places c.args.entries.now c.args.pair c.args.pairs.now.items c.find-left.result c.find-right.result c.find-left.ensures.stands c.find-right.ensures.stands c.find-left.ensures.joined c.find-right.ensures.joined))
    c.merge.ensures.leads

pub returns-then-right-left-clause-leads : goal.returns-then-right-left-clause-leads
returns-then-right-left-clause-leads c =
    on_ok_weaker c.merge-then-right-left.result
    (leads_then c.args.generators c.args.places c.args.entries.now c.args.entries.now c.merge-then-right-left.new.entries (c.args.pair ∷ c.args.pairs.now.items) (pair c.find-right.result c.find-left.result ∷ c.args.pairs.now.items) c.merge-then-right-left.new.pairs.items
    (leads_then c.args.generators c.args.places c.args.entries.now c.args.entries.now c.args.entries.now (c.args.pair ∷ c.args.pairs.now.items) (pair c.find-left.result c.find-right.result ∷ c.args.pairs.now.items) (pair c.find-right.result c.find-left.result ∷ c.args.pairs.now.items)
    (found_leads c.args.generators c.args.places c.args.entries.now c.args.pair c.args.pairs.now.items c.find-left.result c.find-right.result c.find-left.ensures.stands c.find-right.ensures.stands c.find-left.ensures.joined c.find-right.ensures.joined)
    (turned_leads c.args.generators c.args.places c.args.entries.now c.find-left.result c.find-right.result c.args.pairs.now.items)))
    c.merge-then-right-left.ensures.leads

pub returns-clause-leads : goal.returns-clause-leads
returns-clause-leads c =
    leads_then c.args.generators c.args.places c.args.entries.now c.args.entries.now c.args.entries.now (c.args.pair ∷ c.args.pairs.now.items) (pair c.find-left.result c.find-right.result ∷ c.args.pairs.now.items) c.args.pairs.now.items
    (found_leads c.args.generators c.args.places c.args.entries.now c.args.pair c.args.pairs.now.items c.find-left.result c.find-right.result c.find-left.ensures.stands c.find-right.ensures.stands c.find-left.ensures.joined c.find-right.ensures.joined)
    (same_leads c.args.generators c.args.places c.args.entries.now c.find-left.result c.find-right.result c.args.pairs.now.items (omega (arith, c.if-left-right.false, c.if-right-left.false)))

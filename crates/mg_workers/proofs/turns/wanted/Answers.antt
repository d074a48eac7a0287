use Rattle.std.proofs.Common.{◌≡◌, ap, rules}
use Rattle.mg_core.specs.Log.{facts_of}
use Rattle.mg_workers.proofs.Wanted.{is_or_not, none_handed}
use Rattle.mg_workers.proofs.turns.wanted.Goals as goal

pub returns-then-most-eq0 : goal.returns-then-most-eq0
returns-then-most-eq0 g c =
    let none : c.args.most ≡ 0 = search rules in
    rw none (none_handed g.R.Record.recording.model_of c.args.group.now c.args.after (λ r. is_or_not g.R.Group.Ord.cmp g.met.R.Group.Ord.total g.met.R.Record.lawful.exact_groups (g.R.Record.recording.model_of r) c.args.group.now)
    (facts_of c.args.book.now) (record { from = c.args.after; upto = c.args.after; records = c.new.result }) (ap (λ records. record { from = c.args.after; upto = c.args.after; records = records }) c.new.ensures))

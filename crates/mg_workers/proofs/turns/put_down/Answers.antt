use Rattle.std.proofs.Common.{◌≡◌, ◌↔◌, [], ◌∷◌, ◌++◌, List, true, false, ap, sym, ◌∙◌, subst}
use Rattle.mg_core.specs.declared.entries.Entry.{Entry}
use Rattle.mg_core.specs.declared.entries.Facts.{Facts}
use Rattle.mg_core.specs.Log.{Settled}
use Rattle.mg_workers.specs.Run.{row_after}
use Rattle.mg_workers.specs.Seats.{row_at}
use Rattle.mg_workers.proofs.Rounds.{entry_is, row_is}
use Rattle.mg_workers.proofs.turns.put_down.Goals as goal

pub returns-clause-ok : goal.returns-clause-ok
returns-clause-ok g c =
    let seat = c.args.seat.now in
    let log = c.args.book.now in
    let outcome = c.args.outcome in
    let dropped = c.in_ok-dropped.dropped in
    let with_records : List g.row.R.Denot → Entry g.row.R.Denot = λ records. record {
      pass = 1;
      search = seat.held.number;
      turn = seat.held.turns;
      units = outcome.spent;
      dropped = false;
      records = records;
    } in
    let with_upto : Facts g.row.R.Denot → Facts g.row.R.Denot = λ facts. record facts { upto = c.args.upto } in
    record {
      is_dropped = subst (λ k. (dropped ≡ true) ↔ Settled g.R.Record.recording.settles log k) c.key.ensures c.in_ok-dropped.ensures.dropped;
      log_is = c.in_ok-dropped.ensures.log ∙ ap (λ entry. log ++ entry ∷ []) (entry_is 1 (row_at seat) outcome dropped (with_records c.records_in.result) (ap with_records c.records_in.ensures));
      row_is = λ facts same.
          row_is seat c.count_turn.new.self seat.held.search (with_upto facts) outcome dropped c.was_stopped.result c.end_if_kept.result c.was_stopped.ensures c.end_if_kept.ensures c.count_turn.ensures.held c.count_turn.ensures.left c.count_turn.ensures.looked
          ∙ ap (λ upto. row_after (row_at seat) (record facts { upto = upto }) outcome dropped seat.held.search) (sym same);
      cell_is = ap (λ held. held.cell) c.count_turn.ensures.held;
    }

use Rattle.std.proofs.Common.{◌<◌, ◌^◌, length, map, false, ap, sym, ◌∙◌, subst}
use Rattle.std.specs.List.{AllByRecursion}
use Rattle.mg_ledger.specs.Ledgers.{LedgerState}
use Rattle.mg_workers.specs.Round.{row_of, IsFit, GoesRound}
use Rattle.mg_certs.specs.Validity.{recording}
use Rattle.mg_search.specs.Search.{searching}
use Rattle.mg_session.specs.Parting.{places_of, joined, cells_after, HaveSpent}
use Rattle.mg_session.proofs.Weaving.{each_run, fit, few, spent, have_cells, rounds}
use Rattle.mg_session.proofs.state.Session.rounds.Goals as goal

pub part-requires-clause-each : goal.part-requires-clause-each
part-requires-clause-each g c = each_run c.args.self c.self.inside.ledger c.self.inside.searches.items c.self.inside.book c.self.view_is c.self.invariant c.args.runs.now c.requires.ledger c.requires.stand c.requires.taking.0 c.requires.taking.1

pub go_round-requires-clause-fit : goal.go_round-requires-clause-fit
go_round-requires-clause-fit g c = subst (λ hs. AllByRecursion (IsFit searching) (map (row_of false false) hs)) (sym c.in_ok-parted.ensures.running) (fit c.args.self c.self.inside.ledger c.self.inside.searches.items c.self.inside.book c.self.view_is c.self.invariant c.args.runs.now c.requires.ledger c.requires.stand c.requires.taking.0 c.requires.taking.1)

pub join-requires-clause-few : goal.join-requires-clause-few
join-requires-clause-few g c = subst (λ places. length places < 2 ^ 32) (sym c.in_ok-parted.ensures.places) (few c.args.self c.self.inside.ledger c.self.inside.searches.items c.self.inside.book c.self.view_is c.self.invariant c.args.runs.now c.requires.ledger c.requires.stand c.requires.taking.0 c.requires.taking.1)

pub join-requires-clause-spent : goal.join-requires-clause-spent
join-requires-clause-spent g c =
    let went = (subst (λ hs. GoesRound recording searching (g.P.Sizes.is_size c.args.policy.now) hs c.self.inside.book c.in_ok-ran.ran c.go_round.new.book) c.in_ok-parted.ensures.running c.in_ok-ran.ensures.ok) in
    subst (λ places. HaveSpent places c.in_ok-ran.ran c.self.inside.ledger.cells) (sym c.in_ok-parted.ensures.places) (spent c.args.self c.self.inside.ledger c.self.inside.searches.items c.self.inside.book c.self.view_is c.self.invariant c.args.runs.now c.requires.ledger c.requires.stand c.requires.taking.0 c.requires.taking.1 c.in_ok-ran.ran c.go_round.new.book (g.P.Sizes.is_size c.args.policy.now) went)

pub invariant_of-result : goal.invariant_of-result
invariant_of-result g c =
    let went = (subst (λ hs. GoesRound recording searching (g.P.Sizes.is_size c.args.policy.now) hs c.self.inside.book c.in_ok-ran.ran c.go_round.new.book) c.in_ok-parted.ensures.running c.in_ok-ran.ensures.ok) in
    have_cells (places_of c.args.runs.now c.self.inside.searches.items) c.in_ok-ran.ran c.self.inside.ledger.cells c.in_ok-searches.searches.items c.join.new.ledger.cells (few c.args.self c.self.inside.ledger c.self.inside.searches.items c.self.inside.book c.self.view_is c.self.invariant c.args.runs.now c.requires.ledger c.requires.stand c.requires.taking.0 c.requires.taking.1)
    (spent c.args.self c.self.inside.ledger c.self.inside.searches.items c.self.inside.book c.self.view_is c.self.invariant c.args.runs.now c.requires.ledger c.requires.stand c.requires.taking.0 c.requires.taking.1 c.in_ok-ran.ran c.go_round.new.book (g.P.Sizes.is_size c.args.policy.now) went)
    (c.in_ok-searches.ensures.searches ∙ ap (λ places. joined places c.in_ok-ran.ran) c.in_ok-parted.ensures.places)
    (ap (λ (l : LedgerState). l.cells) c.in_ok-searches.ensures.cells ∙ ap (λ places. cells_after places c.in_ok-ran.ran c.self.inside.ledger.cells) c.in_ok-parted.ensures.places)

pub returns : goal.returns
returns g c = λ round taking.
    let went = (subst (λ hs. GoesRound recording searching (g.P.Sizes.is_size c.args.policy.now) hs c.self.inside.book c.in_ok-ran.ran c.go_round.new.book) c.in_ok-parted.ensures.running c.in_ok-ran.ensures.ok) in
    rounds c.args.self c.self.inside.ledger c.self.inside.searches.items c.self.inside.book c.self.view_is c.self.invariant c.args.runs.now c.requires.ledger c.requires.stand round taking c.in_ok-ran.ran c.go_round.new.book (g.P.Sizes.is_size c.args.policy.now) went c.join.new.ledger c.in_ok-searches.searches.items
    (c.in_ok-searches.ensures.cells ∙ ap (λ places. record (c.self.inside.ledger) { cells = cells_after places c.in_ok-ran.ran c.self.inside.ledger.cells }) c.in_ok-parted.ensures.places)
    (c.in_ok-searches.ensures.searches ∙ ap (λ places. joined places c.in_ok-ran.ran) c.in_ok-parted.ensures.places)

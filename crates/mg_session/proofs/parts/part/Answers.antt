use Rattle.std.proofs.Common.{rules, ◌≡◌, ◌++◌, ◌∷◌, [], false, true, length, get_or, ap, ◌∙◌, subst, arith}
use Rattle.mg_ledger.specs.Ledgers.{account_at}
use Rattle.mg_session.specs.Parting.{held_of}
use Rattle.mg_session.proofs.Joining.{longer, part_starts, part_within, part_runs, part_rests, parted_places, parted_running}
use Rattle.mg_session.proofs.parts.part.Goals as goal

pub loop-kept-init : goal.loop-kept-init
loop-kept-init c = part_starts _ _ _ _ _ _ c.new-places.ensures.items c.new-running.ensures c.reverse.ensures.items

pub loop-kept-preserved : goal.loop-kept-preserved
loop-kept-preserved c =
    let n = length c.loop-kept.places.items in
    let cell : c.len-cell.result ≡ length c.loop-kept.places.items = search rules in
    let within = part_within n 0 c.args.runs.now c.args.searches.items c.args.ledger.now.cells c.loop-kept.places.items c.loop-kept.running c.loop-kept.searches.items c.loop-kept.invariant c.pop.new.self.items c.in-Some.kept c.in-Some.ensures.items in
    let each = c.requires.cells.each in
    part_rests n (length c.push-else-runs-cell.new.self.items) c.args.runs.now c.args.searches.items c.args.ledger.now.cells c.loop-kept.places.items c.loop-kept.running c.loop-kept.searches.items c.loop-kept.invariant
    c.push-else-runs-cell.new.self.items c.pop.new.self.items c.in-Some.kept (longer _ _ _ c.in_ok-push-3.ensures.items) c.in-Some.ensures.items (omega arith) (omega arith) (subst (λ m. get_or c.args.runs.now m false ≡ false) cell c.if-runs-cell.false) c.in_ok-push-3.ensures.items

pub loop-kept-preserved-in-Continue-branch-2 : goal.loop-kept-preserved-in-Continue-branch-2
loop-kept-preserved-in-Continue-branch-2 c =
    let n = length c.loop-kept.places.items in
    let cell : c.len-cell.result ≡ length c.loop-kept.places.items = search rules in
    let within = part_within n 0 c.args.runs.now c.args.searches.items c.args.ledger.now.cells c.loop-kept.places.items c.loop-kept.running c.loop-kept.searches.items c.loop-kept.invariant c.pop.new.self.items c.in-Some.kept c.in-Some.ensures.items in
    let each = c.requires.cells.each in
    part_runs n (length c.push.new.self.items) c.args.runs.now c.args.searches.items c.args.ledger.now.cells c.loop-kept.places.items c.loop-kept.running c.loop-kept.searches.items c.loop-kept.invariant
    c.push.new.self.items c.push-then-runs-cell.new.self c.pop.new.self.items c.in-Some.kept c.account-account.result (longer _ _ _ c.in_ok-push.ensures.items) c.in-Some.ensures.items (omega arith) (omega arith) (subst (λ m. get_or c.args.runs.now m false ≡ true) cell c.if-runs-cell.true)
    (c.account-account.ensures.value ∙ ap (λ m. account_at c.args.ledger.now m) cell) c.in_ok-push.ensures.items
    (c.in_ok-push-2.ensures.ok ∙ ap (λ h. c.loop-kept.running ++ h ∷ []) (c.hold.ensures ∙ ap (λ m. held_of m c.in-Some.kept c.account-account.result) cell))

pub returns-clause-places : goal.returns-clause-places
returns-clause-places c =
    let none : c.loop-kept.searches.items ≡ [] = search rules in
    parted_places (length c.loop-kept.places.items) 0 c.args.runs.now c.args.searches.items c.args.ledger.now.cells c.loop-kept.places.items c.loop-kept.running c.loop-kept.searches.items c.loop-kept.invariant none

pub returns-clause-running : goal.returns-clause-running
returns-clause-running c =
    let none : c.loop-kept.searches.items ≡ [] = search rules in
    parted_running (length c.loop-kept.places.items) 0 c.args.runs.now c.args.searches.items c.args.ledger.now.cells c.loop-kept.places.items c.loop-kept.running c.loop-kept.searches.items c.loop-kept.invariant none

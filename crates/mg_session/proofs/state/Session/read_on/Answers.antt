use Rattle.std.proofs.Common.{List, Bool, sym, subst}
use Rattle.mg_session.specs.At.{again, AreTaking, Runs}
use Rattle.mg_session.proofs.Phasing.{reading_begins, reading_next, reading_ends, fewer_next}
use Rattle.mg_session.proofs.state.Session.read_on.Goals as goal

pub loop-alloc-init : goal.loop-alloc-init
loop-alloc-init g c = reading_begins (g.P.Sizes.is_size c.args.policy.now) c.args.self _ c.requires.ok c.in_ok-runs.ensures

pub rounds-requires-clause-ledger : goal.rounds-requires-clause-ledger
rounds-requires-clause-ledger g c = c.loop-alloc.invariant.ok.ledger

pub rounds-requires-clause-stand : goal.rounds-requires-clause-stand
rounds-requires-clause-stand g c = c.loop-alloc.invariant.ok.stand

pub rounds-requires-clause-taking : goal.rounds-requires-clause-taking
rounds-requires-clause-taking g c = (again, subst (λ (runs : List Bool). AreTaking again c.loop-alloc.session runs) (sym c.as_slice-in-loop-alloc.ensures.value) c.loop-alloc.invariant.taking)

pub loop-alloc-smaller : goal.loop-alloc-smaller
loop-alloc-smaller g c =
    fewer_next (g.P.Sizes.is_size c.args.policy.now) c.args.self c.loop-alloc.session c.in_ok-session.session c.loop-alloc.runs.items c.some_runs.result c.loop-alloc.invariant c.loop-alloc-test.true
    (subst (λ (runs : List Bool). Runs c.some_runs.result runs) c.as_slice.ensures.value c.some_runs.ensures)
    (λ round taking. c.in_ok-session.ensures round (subst (λ (runs : List Bool). AreTaking round c.loop-alloc.session runs) (sym c.as_slice-in-loop-alloc.ensures.value) taking))

pub loop-alloc-preserved : goal.loop-alloc-preserved
loop-alloc-preserved g c =
    reading_next (g.P.Sizes.is_size c.args.policy.now) c.args.self c.loop-alloc.session c.in_ok-session.session c.loop-alloc.runs.items _ c.some_runs.result c.loop-alloc.invariant c.loop-alloc-test.true
    (subst (λ (runs : List Bool). Runs c.some_runs.result runs) c.as_slice.ensures.value c.some_runs.ensures)
    (λ round taking. c.in_ok-session.ensures round (subst (λ (runs : List Bool). AreTaking round c.loop-alloc.session runs) (sym c.as_slice-in-loop-alloc.ensures.value) taking)) c.in_ok-runs-2.ensures

pub returns : goal.returns
returns g c =
    reading_ends (g.P.Sizes.is_size c.args.policy.now) c.args.self c.loop-alloc.session c.loop-alloc.runs.items c.some_runs.result c.loop-alloc.invariant c.loop-alloc-test.false
    (subst (λ (runs : List Bool). Runs c.some_runs.result runs) c.as_slice.ensures.value c.some_runs.ensures)

use Rattle.std.proofs.Common.{List, Bool, sym, subst}
use Rattle.mg_session.specs.At.{once, AreTaking}
use Rattle.mg_session.proofs.Phasing.{can_ledger, can_stand, ran_in_order, can_settle, run_step}
use Rattle.mg_session.proofs.state.Session.run.Goals as goal

pub rounds-requires-clause-ledger : goal.rounds-requires-clause-ledger
rounds-requires-clause-ledger g c = can_ledger c.args.self _ c.args.bound c.allow.ensures c.requires.ok

pub rounds-requires-clause-stand : goal.rounds-requires-clause-stand
rounds-requires-clause-stand g c = can_stand c.args.self _ c.args.bound c.allow.ensures c.requires.ok

pub rounds-requires-clause-taking : goal.rounds-requires-clause-taking
rounds-requires-clause-taking g c = (once, subst (λ (runs : List Bool). AreTaking once c.allow.new.self runs) (sym c.as_slice.ensures.value) c.in_ok-runs.ensures)

pub read_on-requires-clause-ok : goal.read_on-requires-clause-ok
read_on-requires-clause-ok g c =
    let rounds = c.in_ok-rounds.ensures once (subst (λ (runs : List Bool). AreTaking once c.allow.new.self runs) (sym c.as_slice.ensures.value) c.in_ok-runs.ensures) in
    (c.requires.ok.0, ran_in_order c.args.self _ c.args.bound c.allow.ensures c.requires.ok (g.P.Sizes.is_size c.args.policy.now) _ rounds)

pub settle-requires : goal.settle-requires
settle-requires g c =
    let rounds = c.in_ok-rounds.ensures once (subst (λ (runs : List Bool). AreTaking once c.allow.new.self runs) (sym c.as_slice.ensures.value) c.in_ok-runs.ensures) in
    can_settle c.args.self _ c.args.bound c.allow.ensures c.requires.ok (g.P.Sizes.is_size c.args.policy.now) _ _ rounds (c.in_ok-ran.ensures c.requires.ok.0)

pub returns : goal.returns
returns g c =
    let rounds = c.in_ok-rounds.ensures once (subst (λ (runs : List Bool). AreTaking once c.allow.new.self runs) (sym c.as_slice.ensures.value) c.in_ok-runs.ensures) in
    λ plan. run_step c.args.self _ c.args.bound c.allow.ensures c.requires.ok (g.P.Sizes.is_size c.args.policy.now) _ _ _ rounds c.in_ok-ran.ensures c.settle.ensures plan

use Rattle.std.proofs.Common.{true≢false, sym, ◌∙◌}
use Rattle.std.proofs.lemmas.Result.{IfOk-weaker}
use Rattle.mg_rulelog.proofs.Following.{follow_told, accept_told}
use Rattle.mg_rulelog.proofs.checker.accepts.Goals as goal

pub returns-then-not-branch : goal.returns-then-not-branch
returns-then-not-branch c = (
  λ never. absurd (true≢false (sym never)),
  λ h. absurd (true≢false (sym ((follow_told c.group.result.now c.args.ask.now.group c.as_slice-rules.result.now c.args.log.now.rules c.in_ok-all_follow.field-0
      c.group.ensures.value c.as_slice-rules.ensures c.in_ok-all_follow.ensures).1 h.rules) ∙ c.if-not-branch.true)),
)

pub returns : goal.returns
returns c =
    IfOk-weaker c.all_erase.result _ _
    (λ told h. accept_told c.args.ask.now c.args.log.now c.group-2.result.now c.as_slice-rules.result.now c.as_slice.result.now c.goals.result.now told
    c.group-2.ensures.value c.as_slice-rules.ensures c.as_slice.ensures c.goals.ensures.value
    ((follow_told c.group.result.now c.args.ask.now.group c.as_slice-rules.result.now c.args.log.now.rules c.in_ok-all_follow.field-0
    c.group.ensures.value c.as_slice-rules.ensures c.in_ok-all_follow.ensures).0 c.if-not-branch.false) h)
    c.all_erase.ensures

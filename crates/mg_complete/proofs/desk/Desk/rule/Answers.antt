use Rattle.std.proofs.Common.{sym, ◌∙◌, inl, inr, true≢false}
use Rattle.mg_complete.proofs.Settling.{forward_gives, backward_gives, joined}
use Rattle.mg_complete.proofs.desk.Desk.rule.Goals as goal

pub returns-then-is_smaller : goal.returns-then-is_smaller
returns-then-is_smaller c =
    let given = c.in_ok-forward in
    inl (forward_gives c.args._rules.now c.args.self.now given.field-0.pair given.field-0.moves c.requires (c.is_smaller.ensures.0 c.if-is_smaller.true)
    given.ensures.left given.ensures.right given.ensures.moves)

pub returns-then-is_smaller-2 : goal.returns-then-is_smaller-2
returns-then-is_smaller-2 c =
    let given = c.in_ok-backward in
    inr (backward_gives c.args._rules.now c.args.self.now given.field-0.pair given.field-0.moves c.requires (c.is_smaller-2.ensures.0 c.if-is_smaller-2.true)
    given.ensures.left given.ensures.right given.ensures.moves)

pub returns : goal.returns
returns c =
    joined c.args._rules.now c.args.self.now c.requires (λ s. true≢false (sym (c.is_smaller.ensures.1 s) ∙ c.if-is_smaller.false))
    (λ s. true≢false (sym (c.is_smaller-2.ensures.1 s) ∙ c.if-is_smaller-2.false))

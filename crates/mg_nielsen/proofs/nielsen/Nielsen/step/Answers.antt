use Rattle.mg_nielsen.proofs.Running.{step_full, step_made, step_held}
use Rattle.mg_nielsen.proofs.nielsen.Nielsen.step.Goals as goal

pub returns-then-held-gt-MOST_SYMBOLS : goal.returns-then-held-gt-MOST_SYMBOLS
returns-then-held-gt-MOST_SYMBOLS c =
    step_full _ c.args.self.now c.self.view_is c.args.pick c.deref.result.now c.deref-2.result.now c.in_ok-member.member c.self.inside.held c.held_with-held.result c.self.invariant c.requires.next c.deref.ensures.value c.deref-2.ensures.value c.in_ok-member.ensures c.held_with-held.ensures c.if-held-gt-MOST_SYMBOLS.true

pub invariant_of-self : goal.invariant_of-self
invariant_of-self c =
    step_held _ c.args.self.now c.self.view_is c.args.pick c.deref.result.now c.deref-2.result.now c.in_ok-member.member c.self.inside.held c.held_with-held.result c.self.invariant c.requires.next c.deref.ensures.value c.deref-2.ensures.value c.in_ok-member.ensures c.held_with-held.ensures c.if-held-gt-MOST_SYMBOLS.false

pub returns : goal.returns
returns c =
    step_made _ c.args.self.now c.self.view_is c.args.pick c.deref.result.now c.deref-2.result.now c.in_ok-member.member c.self.inside.held c.held_with-held.result c.self.invariant c.requires.next c.deref.ensures.value c.deref-2.ensures.value c.in_ok-member.ensures c.held_with-held.ensures c.if-held-gt-MOST_SYMBOLS.false

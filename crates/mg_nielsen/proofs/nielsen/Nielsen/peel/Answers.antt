use Rattle.mg_nielsen.proofs.Running.{peel_full, peel_made, peel_held}
use Rattle.mg_nielsen.proofs.nielsen.Nielsen.peel.Goals as goal

pub returns-then-held-gt-MOST_SYMBOLS : goal.returns-then-held-gt-MOST_SYMBOLS
returns-then-held-gt-MOST_SYMBOLS c =
    peel_full _ c.args.self.now c.self.view_is c.args.goal c.args.pick c.deref.result.now c.deref-2.result.now c.deref-3.result.now c.in_ok-rest.rest c.self.inside.held c.held_with-held.result c.self.invariant c.requires.next c.deref.ensures.value c.deref-2.ensures.value c.deref-3.ensures.value c.in_ok-rest.ensures c.held_with-held.ensures c.if-held-gt-MOST_SYMBOLS.true

pub invariant_of-self : goal.invariant_of-self
invariant_of-self c =
    peel_held _ c.args.self.now c.self.view_is c.args.goal c.args.pick c.deref.result.now c.deref-2.result.now c.deref-3.result.now c.in_ok-rest.rest c.self.inside.held c.held_with-held.result c.self.invariant c.requires.next c.deref.ensures.value c.deref-2.ensures.value c.deref-3.ensures.value c.in_ok-rest.ensures c.held_with-held.ensures c.if-held-gt-MOST_SYMBOLS.false

pub returns : goal.returns
returns c =
    peel_made _ c.args.self.now c.self.view_is c.args.goal c.args.pick c.deref.result.now c.deref-2.result.now c.deref-3.result.now c.in_ok-rest.rest c.self.inside.held c.held_with-held.result c.self.invariant c.requires.next c.deref.ensures.value c.deref-2.ensures.value c.deref-3.ensures.value c.in_ok-rest.ensures c.held_with-held.ensures c.if-held-gt-MOST_SYMBOLS.false

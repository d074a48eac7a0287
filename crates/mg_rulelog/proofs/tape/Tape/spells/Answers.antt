use Rattle.std.proofs.Common.{rules, ◌≡◌, ◌++◌, reverse, [], sym, ap, ◌∙◌, append-nil}
use Rattle.std.specs.Ordering.{is_eq}
use Rattle.mg_rulelog.specs.Tape.{spelled}
use Rattle.mg_rulelog.proofs.Stacks.{tells_equal}
use Rattle.mg_rulelog.proofs.tape.Tape.spells.Goals as goal

pub returns : goal.returns
returns c =
    let none : c.loop-x.self.behind.items ≡ [] = search rules in
    let front : c.as_slice.result.now ≡ spelled c.args.self.now =
    c.as_slice.ensures.value ∙ (sym (append-nil c.loop-x.self.before.items) ∙ (ap (λ t. c.loop-x.self.before.items ++ reverse t) (sym none) ∙ c.loop-x.invariant)) in
    tells_equal c.as_slice.result.now (spelled c.args.self.now) c.args.letters.now c.is_eq.result front (c.is_eq.ensures ∙ ap is_eq c.cmp.ensures)

use Rattle.std.proofs.Common.{rules, ◌≡◌, ◌++◌, ◌+◌, length, drop, take, reverse, sym, ap, ◌∙◌}
use Rattle.std.specs.Ordering.{is_ne}
use Rattle.mg_rulelog.specs.Tape.{spelled}
use Rattle.mg_rulelog.proofs.Stacks.{differ_told, same_told}
use Rattle.mg_rulelog.proofs.Making.{replaced_told, refused_told}
use Rattle.mg_rulelog.proofs.tape.Tape.replace.Goals as goal

pub returns-then-is_ne : goal.returns-then-is_ne
returns-then-is_ne c =
    let same : spelled c.go.new.self ≡ spelled c.args.self.now = search rules in
    let there : length c.go.new.self.before.items ≡ c.args.place + length c.args.old.now = search rules in
    let last : c.split_at.result.1.now ≡ drop c.args.place c.go.new.self.before.items = c.split_at.ensures.back ∙ ap (drop c.args.place) c.as_slice.ensures.value in
    refused_told c.go.new.self.before.items (reverse c.go.new.self.behind.items) c.args.old.now c.args.new.now c.args.place _ _ same there
    (λ e. differ_told c.split_at.result.1.now c.args.old.now c.is_ne.result (c.is_ne.ensures ∙ ap is_ne c.cmp.ensures) c.if-is_ne.true (last ∙ e))

pub returns : goal.returns
returns c =
    let same : spelled c.go.new.self ≡ spelled c.args.self.now = search rules in
    let there : length c.go.new.self.before.items ≡ c.args.place + length c.args.old.now = search rules in
    let last : c.split_at.result.1.now ≡ drop c.args.place c.go.new.self.before.items = c.split_at.ensures.back ∙ ap (drop c.args.place) c.as_slice.ensures.value in
    let new : c.extend_from_slice.new.self.items ≡ take c.args.place c.go.new.self.before.items ++ c.args.new.now = search rules in
    replaced_told c.go.new.self.before.items (reverse c.go.new.self.behind.items) c.args.old.now c.args.new.now c.args.place _ _ same there
    (sym last ∙ same_told c.split_at.result.1.now c.args.old.now c.is_ne.result (c.is_ne.ensures ∙ ap is_ne c.cmp.ensures) c.if-is_ne.false)
    (ap (λ t. t ++ reverse c.go.new.self.behind.items) (sym new))

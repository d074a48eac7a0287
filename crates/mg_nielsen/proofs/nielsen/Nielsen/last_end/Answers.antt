use Rattle.std.proofs.Common.{◌∙◌, ◌≡◌, length, rules}
use Rattle.mg_nielsen.proofs.Running.{done_accepted, found_last}
use Rattle.mg_nielsen.proofs.nielsen.Nielsen.last_end.Goals as goal

pub published-requires : goal.published-requires
published-requires c =
    done_accepted _ c.args.self.now c.self.view_is c.self.inside.held c.deref.result.now c.deref-3.result.now c.self.invariant c.requires c.deref.ensures.value (c.deref-3.ensures.value ∙ c.in_ok-text.ensures)

pub returns : goal.returns
returns c =
    let count : c.len.result ≡ length c.in_ok-text.text.items = search rules in
    found_last _ c.args.self.now c.self.view_is c.self.inside.held c.deref.result.now c.in_ok-text.text.items c.deref-2.result.now c.deref-3.result.now c.len.result c.is_short_enough.result c.in_ok-published.field-0 c.self.invariant c.requires
    c.deref.ensures.value c.in_ok-text.ensures count c.if-len-gt-MOST_SYMBOLS.false c.deref-2.ensures.value c.deref-3.ensures.value c.if-not-is_short_enough.false c.is_short_enough.ensures.0 c.in_ok-published.ensures

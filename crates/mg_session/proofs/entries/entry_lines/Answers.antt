use Rattle.std.proofs.Common.{[], ◌∷◌, ◌++◌, ap, sym, ◌∙◌, subst, append_assoc}
use Rattle.std.specs.List.{AllByRecursion}
use Rattle.mg_core.specs.Streaks.{entry_seen}
use Rattle.mg_report.specs.Values.{entry_of}
use Rattle.mg_session.specs.Output.{IsEntryLine}
use Rattle.mg_session.specs.Lookups.{HasCause}
use Rattle.mg_session.proofs.Logged.{all_middle, pairs_printed}
use Rattle.mg_session.proofs.entries.entry_lines.Goals as goal

pub line_of-requires : goal.line_of-requires
line_of-requires c =
    let past = c.loop-entry.invariant.0 in
    let log = c.loop-entry.invariant.1 ∙ ap (λ entries. past ++ entries) c.in-Some.ensures.some in
    all_middle (HasCause c.args.session.now) past (entry_seen c.in-Some.entry) c.next.new.self (subst (AllByRecursion (HasCause c.args.session.now)) log c.requires)

pub loop-entry-preserved : goal.loop-entry-preserved
loop-entry-preserved c =
    let past = c.loop-entry.invariant.0 in
    let entry = entry_seen c.in-Some.entry in
    let log = c.loop-entry.invariant.1 ∙ ap (λ entries. past ++ entries) c.in-Some.ensures.some in (
      past ++ entry ∷ [],
      log ∙ sym (append_assoc past (entry ∷ []) c.next.new.self),
      pairs_printed (IsEntryLine c.args.session.now) entry_of past entry c.loop-entry.lines.items c.push.new.self.items c.line_of.result c.in_ok-push.ensures.items c.loop-entry.invariant.2 c.line_of.ensures,
    )

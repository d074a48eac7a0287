use Rattle.std.proofs.Common.{◌≡◌, ◌∙◌, sym, ap, ℕ, List, Option, IfOk}
use Rattle.mg_words.specs.declared.procedure.Procedure.{Procedure}
use Rattle.mg_names.specs.Cause.{third_place, last_place}
use Rattle.mg_names.specs.Keeping.{Resolved}
use Rattle.mg_names.specs.Least.{least_of}
use Rattle.mg_names.specs.Named.{Named, Word, Relation, Arrow, Question, Statement, group, word, subgroup, mapping, ask, grant, cancel}
use Rattle.mg_names.specs.Sign.{statement_signs, tail_of}
use Rattle.mg_names.specs.Within.{IsSized}
use Rattle.mg_names.proofs.Readings.{keyword_of, begins, head_read, one_of_these, group_only, word_only, subgroup_only, mapping_only, ask_only, fund_only, grant_only, run_only, cancel_only, report_only}
use Rattle.mg_names.proofs.Signs.{line_signs}
use Rattle.mg_names.proofs.resolver.Resolver.statement.Goals as goal

pub first_keyword-requires : goal.first_keyword-requires
first_keyword-requires c = (
  keyword_of c.requires.line.statement,
  tail_of (statement_signs c.requires.line.statement),
  c.of-cursor.ensures ∙ line_signs c.args.line.now c.requires.line.statement c.requires.line.readable c.requires.line.is_named ∙ begins c.requires.line.statement,
)

pub returns-in-Group : goal.returns-in-Group
returns-in-Group c scope s keeps named =
    let h = head_read c.args.line.now c.of-cursor.result c.first_keyword.new.cursor c.first_keyword.result s c.requires.line.readable named c.of-cursor.ensures c.first_keyword.ensures in
    group_only (λ (x : Statement). c.first_keyword.new.cursor ≡ tail_of (statement_signs x) → IfOk c.group.result (λ fault. Resolved scope c.args.line.now x (least_of fault) c.group.new.self))
    (λ n generators rs e. c.group.ensures scope c.args.line.now n generators rs keeps e) s (sym h.0 ∙ c.in-Group.is) h.1

pub group-requires-clause-ahead : goal.group-requires-clause-ahead
group-requires-clause-ahead c =
    let h = head_read c.args.line.now c.of-cursor.result c.first_keyword.new.cursor c.first_keyword.result c.requires.line.statement c.requires.line.readable c.requires.line.is_named c.of-cursor.ensures c.first_keyword.ensures in
    group_only (λ (x : Statement). c.first_keyword.new.cursor ≡ tail_of (statement_signs x) → IsSized x → (n : Named) × (generators : List Named) × (rs : Option (List Relation)) × (c.first_keyword.new.cursor ≡ tail_of (statement_signs (group n generators rs))) × IsSized (group n generators rs))
    (λ n generators rs e sized. (n, generators, rs, e, sized)) c.requires.line.statement (sym h.0 ∙ c.in-Group.is) h.1 c.requires.line.sized

pub returns-in-Word : goal.returns-in-Word
returns-in-Word c scope s keeps named =
    let h = head_read c.args.line.now c.of-cursor.result c.first_keyword.new.cursor c.first_keyword.result s c.requires.line.readable named c.of-cursor.ensures c.first_keyword.ensures in
    word_only (λ (x : Statement). c.first_keyword.new.cursor ≡ tail_of (statement_signs x) → IfOk c.word.result (λ fault. Resolved scope c.args.line.now x (least_of fault) c.word.new.self))
    (λ n g w e. c.word.ensures scope c.args.line.now n g w keeps e) s (sym h.0 ∙ c.in-Word.is) h.1

pub word-requires-clause-ahead : goal.word-requires-clause-ahead
word-requires-clause-ahead c =
    let h = head_read c.args.line.now c.of-cursor.result c.first_keyword.new.cursor c.first_keyword.result c.requires.line.statement c.requires.line.readable c.requires.line.is_named c.of-cursor.ensures c.first_keyword.ensures in
    word_only (λ (x : Statement). c.first_keyword.new.cursor ≡ tail_of (statement_signs x) → IsSized x → (n : Named) × (g : Named) × (w : Word) × (c.first_keyword.new.cursor ≡ tail_of (statement_signs (word n g w))) × IsSized (word n g w))
    (λ n g w e sized. (n, g, w, e, sized)) c.requires.line.statement (sym h.0 ∙ c.in-Word.is) h.1 c.requires.line.sized

pub returns-in-Subgroup : goal.returns-in-Subgroup
returns-in-Subgroup c scope s keeps named =
    let h = head_read c.args.line.now c.of-cursor.result c.first_keyword.new.cursor c.first_keyword.result s c.requires.line.readable named c.of-cursor.ensures c.first_keyword.ensures in
    subgroup_only (λ (x : Statement). c.first_keyword.new.cursor ≡ tail_of (statement_signs x) → IfOk c.subgroup.result (λ fault. Resolved scope c.args.line.now x (least_of fault) c.subgroup.new.self))
    (λ n g ws e. c.subgroup.ensures scope c.args.line.now n g ws keeps e) s (sym h.0 ∙ c.in-Subgroup.is) h.1

pub subgroup-requires-clause-ahead : goal.subgroup-requires-clause-ahead
subgroup-requires-clause-ahead c =
    let h = head_read c.args.line.now c.of-cursor.result c.first_keyword.new.cursor c.first_keyword.result c.requires.line.statement c.requires.line.readable c.requires.line.is_named c.of-cursor.ensures c.first_keyword.ensures in
    subgroup_only (λ (x : Statement). c.first_keyword.new.cursor ≡ tail_of (statement_signs x) → IsSized x → (n : Named) × (g : Named) × (ws : List Word) × (c.first_keyword.new.cursor ≡ tail_of (statement_signs (subgroup n g ws))) × IsSized (subgroup n g ws))
    (λ n g ws e sized. (n, g, ws, e, sized)) c.requires.line.statement (sym h.0 ∙ c.in-Subgroup.is) h.1 c.requires.line.sized

pub returns-in-Map : goal.returns-in-Map
returns-in-Map c scope s keeps named =
    let h = head_read c.args.line.now c.of-cursor.result c.first_keyword.new.cursor c.first_keyword.result s c.requires.line.readable named c.of-cursor.ensures c.first_keyword.ensures in
    mapping_only (λ (x : Statement). c.first_keyword.new.cursor ≡ tail_of (statement_signs x) → IfOk c.mapping.result (λ fault. Resolved scope c.args.line.now x (least_of fault) c.mapping.new.self))
    (λ n a b arrows e. c.mapping.ensures scope c.args.line.now n a b arrows keeps e (c.last_place.ensures ∙ ap last_place c.as_slice-tokens.ensures)) s (sym h.0 ∙ c.in-Map.is) h.1

pub mapping-requires-clause-ahead : goal.mapping-requires-clause-ahead
mapping-requires-clause-ahead c =
    let h = head_read c.args.line.now c.of-cursor.result c.first_keyword.new.cursor c.first_keyword.result c.requires.line.statement c.requires.line.readable c.requires.line.is_named c.of-cursor.ensures c.first_keyword.ensures in
    mapping_only (λ (x : Statement). c.first_keyword.new.cursor ≡ tail_of (statement_signs x) → IsSized x → (n : Named) × (a : Named) × (b : Named) × (arrows : List Arrow) × (c.first_keyword.new.cursor ≡ tail_of (statement_signs (mapping n a b arrows))) × IsSized (mapping n a b arrows))
    (λ n a b arrows e sized. (n, a, b, arrows, e, sized)) c.requires.line.statement (sym h.0 ∙ c.in-Map.is) h.1 c.requires.line.sized

pub returns-in-Ask : goal.returns-in-Ask
returns-in-Ask c scope s keeps named =
    let h = head_read c.args.line.now c.of-cursor.result c.first_keyword.new.cursor c.first_keyword.result s c.requires.line.readable named c.of-cursor.ensures c.first_keyword.ensures in
    ask_only (λ (x : Statement). c.first_keyword.new.cursor ≡ tail_of (statement_signs x) → IfOk c.ask.result (λ fault. Resolved scope c.args.line.now x (least_of fault) c.ask.new.self))
    (λ n q e. c.ask.ensures scope c.args.line.now n q keeps e) s (sym h.0 ∙ c.in-Ask.is) h.1

pub ask-requires-clause-ahead : goal.ask-requires-clause-ahead
ask-requires-clause-ahead c =
    let h = head_read c.args.line.now c.of-cursor.result c.first_keyword.new.cursor c.first_keyword.result c.requires.line.statement c.requires.line.readable c.requires.line.is_named c.of-cursor.ensures c.first_keyword.ensures in
    ask_only (λ (x : Statement). c.first_keyword.new.cursor ≡ tail_of (statement_signs x) → IsSized x → (n : Named) × (q : Question) × (c.first_keyword.new.cursor ≡ tail_of (statement_signs (ask n q))) × IsSized (ask n q))
    (λ n q e sized. (n, q, e, sized)) c.requires.line.statement (sym h.0 ∙ c.in-Ask.is) h.1 c.requires.line.sized

pub returns-in-Fund : goal.returns-in-Fund
returns-in-Fund c scope s keeps named =
    let h = head_read c.args.line.now c.of-cursor.result c.first_keyword.new.cursor c.first_keyword.result s c.requires.line.readable named c.of-cursor.ensures c.first_keyword.ensures in
    fund_only (λ (x : Statement). c.first_keyword.new.cursor ≡ tail_of (statement_signs x) → IfOk c.fund.result (λ fault. Resolved scope c.args.line.now x (least_of fault) c.fund.new.self))
    (λ units e. c.fund.ensures scope c.args.line.now units keeps e) s (sym h.0 ∙ c.in-Fund.is) h.1

pub returns-in-Grant : goal.returns-in-Grant
returns-in-Grant c scope s keeps named =
    let h = head_read c.args.line.now c.of-cursor.result c.first_keyword.new.cursor c.first_keyword.result s c.requires.line.readable named c.of-cursor.ensures c.first_keyword.ensures in
    grant_only (λ (x : Statement). c.first_keyword.new.cursor ≡ tail_of (statement_signs x) → IfOk c.grant.result (λ fault. Resolved scope c.args.line.now x (least_of fault) c.grant.new.self))
    (λ n p units e. c.grant.ensures scope c.args.line.now n p units keeps e (c.third_place.ensures ∙ ap third_place c.as_slice-tokens.ensures)) s (sym h.0 ∙ c.in-Grant.is) h.1

pub grant-requires-clause-ahead : goal.grant-requires-clause-ahead
grant-requires-clause-ahead c =
    let h = head_read c.args.line.now c.of-cursor.result c.first_keyword.new.cursor c.first_keyword.result c.requires.line.statement c.requires.line.readable c.requires.line.is_named c.of-cursor.ensures c.first_keyword.ensures in
    grant_only (λ (x : Statement). c.first_keyword.new.cursor ≡ tail_of (statement_signs x) → IsSized x → (n : Named) × (p : Procedure) × (units : ℕ) × (c.first_keyword.new.cursor ≡ tail_of (statement_signs (grant n p units))))
    (λ n p units e sized. (n, p, units, e)) c.requires.line.statement (sym h.0 ∙ c.in-Grant.is) h.1 c.requires.line.sized

pub returns-in-Run : goal.returns-in-Run
returns-in-Run c scope s keeps named =
    let h = head_read c.args.line.now c.of-cursor.result c.first_keyword.new.cursor c.first_keyword.result s c.requires.line.readable named c.of-cursor.ensures c.first_keyword.ensures in
    run_only (λ (x : Statement). c.first_keyword.new.cursor ≡ tail_of (statement_signs x) → IfOk c.run.result (λ fault. Resolved scope c.args.line.now x (least_of fault) c.run.new.self))
    (λ bound e. c.run.ensures scope c.args.line.now bound keeps e) s (sym h.0 ∙ c.in-Run.is) h.1

pub returns-in-Cancel : goal.returns-in-Cancel
returns-in-Cancel c scope s keeps named =
    let h = head_read c.args.line.now c.of-cursor.result c.first_keyword.new.cursor c.first_keyword.result s c.requires.line.readable named c.of-cursor.ensures c.first_keyword.ensures in
    cancel_only (λ (x : Statement). c.first_keyword.new.cursor ≡ tail_of (statement_signs x) → IfOk c.cancel.result (λ fault. Resolved scope c.args.line.now x (least_of fault) c.cancel.new.self))
    (λ n p e. c.cancel.ensures scope c.args.line.now n p keeps e (c.third_place-in-Cancel.ensures ∙ ap third_place c.as_slice-tokens.ensures)) s (sym h.0 ∙ c.in-Cancel.is) h.1

pub cancel-requires-clause-ahead : goal.cancel-requires-clause-ahead
cancel-requires-clause-ahead c =
    let h = head_read c.args.line.now c.of-cursor.result c.first_keyword.new.cursor c.first_keyword.result c.requires.line.statement c.requires.line.readable c.requires.line.is_named c.of-cursor.ensures c.first_keyword.ensures in
    cancel_only (λ (x : Statement). c.first_keyword.new.cursor ≡ tail_of (statement_signs x) → IsSized x → (n : Named) × (p : Procedure) × (c.first_keyword.new.cursor ≡ tail_of (statement_signs (cancel n p))))
    (λ n p e sized. (n, p, e)) c.requires.line.statement (sym h.0 ∙ c.in-Cancel.is) h.1 c.requires.line.sized

pub returns-in-Report : goal.returns-in-Report
returns-in-Report c scope s keeps named =
    let h = head_read c.args.line.now c.of-cursor.result c.first_keyword.new.cursor c.first_keyword.result s c.requires.line.readable named c.of-cursor.ensures c.first_keyword.ensures in
    report_only (λ (x : Statement). c.first_keyword.new.cursor ≡ tail_of (statement_signs x) → IfOk c.report.result (λ fault. Resolved scope c.args.line.now x (least_of fault) c.report.new.self))
    (λ what e. c.report.ensures scope c.args.line.now what keeps e) s (sym h.0 ∙ c.in-Report.is) h.1

pub unreachable-requires : goal.unreachable-requires
unreachable-requires c =
    let h = head_read c.args.line.now c.of-cursor.result c.first_keyword.new.cursor c.first_keyword.result c.requires.line.statement c.requires.line.readable c.requires.line.is_named c.of-cursor.ensures c.first_keyword.ensures in
    one_of_these c.first_keyword.result c.requires.line.statement h.0 c.in_default.not-Group c.in_default.not-Word c.in_default.not-Subgroup c.in_default.not-Map c.in_default.not-Ask c.in_default.not-Fund c.in_default.not-Grant c.in_default.not-Run c.in_default.not-Cancel c.in_default.not-Report

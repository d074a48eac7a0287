use Rattle.std.proofs.Common.{ap, ◌∙◌}
use Rattle.std.specs.List.{prefix_len}
use Rattle.mg_lex.specs.Line.{is_blank}
use Rattle.mg_lex.proofs.Firsts.{blanks_at, behind_blanks}
use Rattle.mg_lex.proofs.scanner.Scanner.skip_blanks.Goals as goal

pub returns-clause-blanks : goal.returns-clause-blanks
returns-clause-blanks c =
    blanks_at c.args.self.now.line.now c.args.self.now.place c.blanks_length.result (c.blanks_length.ensures.count ∙ ap (prefix_len is_blank) c.rest.ensures.rest) c.rest.ensures.inside

pub returns-clause-all : goal.returns-clause-all
returns-clause-all c =
    behind_blanks c.args.self.now.line.now c.args.self.now.place c.blanks_length.result (c.blanks_length.ensures.count ∙ ap (prefix_len is_blank) c.rest.ensures.rest)

use Rattle.std.proofs.Common.{ap, ◌∙◌}
use Rattle.std.specs.List.{prefix_len}
use Rattle.mg_lex.specs.Line.{is_allowed}
use Rattle.mg_lex.proofs.Steps.{long_line_at_end, bad_byte_at_end, nothing_at_end}
use Rattle.mg_lex.proofs.scanner.Scanner.end.Goals as goal

pub returns-then-bad-gt-LINE_LIMIT : goal.returns-then-bad-gt-LINE_LIMIT
returns-then-bad-gt-LINE_LIMIT c =
    long_line_at_end c.args.self.now.line.now c.args.self.now.place c.requires.clean c.rest.ensures.inside c.requires.ended c.requires.low
    c.allowed_length.result (c.allowed_length.ensures.count ∙ ap (prefix_len is_allowed) c.rest.ensures.rest) c.if-bad-gt-LINE_LIMIT.true

pub returns-then-bad-self : goal.returns-then-bad-self
returns-then-bad-self c =
    bad_byte_at_end c.args.self.now.line.now c.args.self.now.place c.requires.clean c.rest.ensures.inside c.requires.ended c.requires.low
    c.allowed_length.result (c.allowed_length.ensures.count ∙ ap (prefix_len is_allowed) c.rest.ensures.rest) c.if-bad-gt-LINE_LIMIT.false c.if-bad-self.true

pub returns : goal.returns
returns c =
    nothing_at_end c.args.self.now.line.now c.args.self.now.place c.requires.clean c.rest.ensures.inside c.requires.ended c.requires.low
    c.allowed_length.result (c.allowed_length.ensures.count ∙ ap (prefix_len is_allowed) c.rest.ensures.rest) c.if-bad-gt-LINE_LIMIT.false c.if-bad-self.false

use Rattle.std.proofs.Common.{ℕ, List, Bor, subst, sym}
use Rattle.mg_lex.specs.Step.{IsClean}
use Rattle.mg_lex.proofs.Firsts.{clean_blanks}
use Rattle.mg_lex.proofs.Steps.{long_line_next}
use Rattle.mg_lex.proofs.scanner.Scanner.next.Goals as goal

pub returns-then-self-gt-LINE_LIMIT-clause-next : goal.returns-then-self-gt-LINE_LIMIT-clause-next
returns-then-self-gt-LINE_LIMIT-clause-next c =
    long_line_next c.args.self.now.line.now c.args.self.now.place c.skip_blanks.new.self.place c.requires c.skip_blanks.ensures.blanks c.if-self-gt-LINE_LIMIT.true

pub end-requires-clause-clean : goal.end-requires-clause-clean
end-requires-clause-clean c =
    subst (λ (line : Bor (List ℕ)). IsClean line.now c.skip_blanks.new.self.place) (sym c.skip_blanks.ensures.line)
    (clean_blanks c.args.self.now.line.now c.args.self.now.place c.skip_blanks.new.self.place c.requires c.skip_blanks.ensures.blanks)

pub token-requires-clause-clean : goal.token-requires-clause-clean
token-requires-clause-clean c =
    subst (λ (line : Bor (List ℕ)). IsClean line.now c.skip_blanks.new.self.place) (sym c.skip_blanks.ensures.line)
    (clean_blanks c.args.self.now.line.now c.args.self.now.place c.skip_blanks.new.self.place c.requires c.skip_blanks.ensures.blanks)

use Rattle.mg_lex.proofs.Words.{two_bytes_longest, one_byte_longest, no_mark}
use Rattle.mg_lex.proofs.front.mark_length.Goals as goal

pub returns-then-has_mark-clause-some : goal.returns-then-has_mark-clause-some
returns-then-has_mark-clause-some c =
    let found = c.has_mark.ensures.0 c.if-has_mark.true in
    record { within = found.0; mark = found.1; longest = two_bytes_longest c.args.bytes.now }

pub returns-then-has_mark-2-clause-some : goal.returns-then-has_mark-2-clause-some
returns-then-has_mark-2-clause-some c =
    let found = c.has_mark-else-has_mark.ensures.0 c.if-has_mark-2.true in
    record {
      within = found.0;
      mark = found.1;
      longest = one_byte_longest c.args.bytes.now (λ two. let t = c.has_mark.ensures.1 two in let f = c.if-has_mark.false in cc);
    }

pub returns-else-has_mark-2-clause-none : goal.returns-else-has_mark-2-clause-none
returns-else-has_mark-2-clause-none c =
    no_mark c.args.bytes.now
    (λ two. let t = c.has_mark.ensures.1 two in let f = c.if-has_mark.false in cc)
    (λ one. let t = c.has_mark-else-has_mark.ensures.1 one in let f = c.if-has_mark-2.false in cc)

use Rattle.std.proofs.Common.{length}
use Rattle.mg_words.specs.Word.{Held}
use Rattle.mg_names.proofs.Groups.{word_first, word_second, relator_read, equation_read, left_over, right_over}
use Rattle.mg_names.proofs.Parts.{ok_more}
use Rattle.mg_names.proofs.grouping.read_relation.Goals as goal

pub word-requires : goal.word-requires
word-requires c = word_first c.args.cursor.now c.requires.ahead

pub returns-then-not-is : goal.returns-then-not-is
returns-then-not-is c =
    relator_read c.args.cursor.now c.word.new.cursor c.in_ok-left.ensures.rest c.args.home.now c.args.found.now c.word.new.found c.in_ok-left.left.letters (λ e. let f = c.is.ensures.1 e in cc)
    c.in_ok-left.ensures.letters c.in_ok-left.ensures.causes

pub word-requires-2 : goal.word-requires-2
word-requires-2 c = word_second c.args.cursor.now c.word.new.cursor c.in_ok-left.ensures.rest c.skip.new.self (c.is.ensures.0 c.if-not-is.false) c.skip.ensures c.requires.ahead

pub quotient-requires : goal.quotient-requires
quotient-requires c = (
  length c.args.home.now.generators.now,
  left_over c.args.cursor.now c.word.new.cursor c.in_ok-left.ensures.rest c.skip.new.self (c.is.ensures.0 c.if-not-is.false) c.skip.ensures c.args.home.now c.in_ok-left.left.letters c.requires.home c.in_ok-left.ensures.letters c.requires.ahead,
  right_over c.args.cursor.now c.word.new.cursor c.in_ok-left.ensures.rest c.skip.new.self (c.is.ensures.0 c.if-not-is.false) c.skip.ensures c.args.home.now c.in_ok-right.right.letters c.requires.home c.in_ok-right.ensures.letters c.requires.ahead,
)

pub returns : goal.returns
returns c r rest e ends =
    ok_more c.quotient.result
    (λ (v : Held) same.
    equation_read c.args.cursor.now c.word.new.cursor c.in_ok-left.ensures.rest c.skip.new.self (c.is.ensures.0 c.if-not-is.false) c.skip.ensures c.args.home.now c.args.found.now c.word.new.found c.word-2.new.found
    c.in_ok-left.left.letters c.in_ok-right.right.letters v.letters c.word-2.new.cursor c.in_ok-left.ensures.letters c.in_ok-left.ensures.causes c.in_ok-right.ensures.letters c.in_ok-right.ensures.rest c.in_ok-right.ensures.causes
    same r rest e ends)
    c.quotient.ensures

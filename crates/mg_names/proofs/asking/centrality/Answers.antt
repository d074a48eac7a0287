use Rattle.std.proofs.Common.{refl, subst, Some, None, List, [], ◌∷◌}
use Rattle.mg_lex.specs.declared.keyword.Keyword.TheVariants as keyword
use Rattle.mg_questions.specs.declared.question.Question.TheVariants as asked
use Rattle.mg_names.specs.Asked.{IsQuestionRead}
use Rattle.mg_names.specs.Name.{named_of}
use Rattle.mg_names.specs.Named.{Named, central}
use Rattle.mg_names.specs.Sign.{Sign, a_name, the_keyword, question_signs}
use Rattle.mg_names.proofs.Askings.{word_read, centrality_read, centrality_unread, group_there}
use Rattle.mg_names.proofs.Turns.{ends_with, same_end, centrality_end}
use Rattle.mg_names.proofs.asking.centrality.Goals as goal

pub last_name-name-requires : goal.last_name-name-requires
last_name-name-requires c =
    ends_with c.args.cursor.now (question_signs (central c.requires.ahead.0 c.requires.ahead.1)) c.requires.ahead.1 c.requires.ahead.2 (centrality_end c.requires.ahead.0 c.requires.ahead.1)

pub returns-in_default : goal.returns-in_default
returns-in_default c scope w x is e =
    let same = same_end c.args.cursor.now (named_of c.last_name-name.result) x (question_signs (central w x)) c.last_name-name.ensures e (centrality_end w x) in
    subst (λ (n : Named). IsQuestionRead scope (central w n) c.args.found.now c.group.new.found None) same
    (centrality_unread scope c.args.known.now is (named_of c.last_name-name.result) c.args.found.now w c.group.new.found c.in_default.ensures.none c.group.ensures.causes)

pub home-home-requires-clause-place : goal.home-home-requires-clause-place
home-home-requires-clause-place c = group_there c.args.known.now c.requires.known c.last_name-name.result.text.now c.in-Some.place c.in-Some.ensures.some

pub presentation-requires : goal.presentation-requires
presentation-requires c = group_there c.args.known.now c.requires.known c.last_name-name.result.text.now c.in-Some.place c.in-Some.ensures.some

pub returns : goal.returns
returns c scope w x is e =
    let rest : List Sign = the_keyword keyword.Central ∷ the_keyword keyword.In ∷ a_name x ∷ [] in
    let same = same_end c.args.cursor.now (named_of c.last_name-name.result) x (question_signs (central w x)) c.last_name-name.ensures e (centrality_end w x) in
    let read = word_read scope c.in-Some.place c.home-home.result w c.group.new.found c.word.new.found c.in_ok-word.word (c.home-home.ensures scope is)
    (c.in_ok-word.ensures.letters w rest e refl) (c.in_ok-word.ensures.causes w rest e refl) in
    subst (λ (n : Named). IsQuestionRead scope (central w n) c.args.found.now c.word.new.found (Some (record { group = c.in-Some.place; question = asked.Central c.in_ok-group.group c.in_ok-word.word }))) same
    (centrality_read scope c.args.known.now is (named_of c.last_name-name.result) c.args.found.now w c.group.new.found c.word.new.found c.in-Some.place c.in_ok-word.word c.in_ok-group.group
    c.in-Some.ensures.some
    c.group.ensures.causes read (c.in_ok-group.ensures scope is))

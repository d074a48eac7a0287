use Rattle.mg_script.specs.Grammar.{group_rest, from_word, word_rest, from_subgroup, subgroup_rest, from_map, map_rest, from_ask, ask_rest, from_fund}
use Rattle.mg_script.proofs.Steps.{went_first, went_second}
use Rattle.mg_script.proofs.reader.Reader.statement.Goals as goal

pub returns-then-takes_keyword : goal.returns-then-takes_keyword
returns-then-takes_keyword c = λ s knows.
    c.group.ensures s (went_first s group_rest from_word c.takes_keyword.new.self c.takes_keyword.result (c.takes_keyword.ensures.chooses s group_rest from_word knows) c.if-takes_keyword.true)

pub returns-then-takes_keyword-2 : goal.returns-then-takes_keyword-2
returns-then-takes_keyword-2 c = λ s knows.
    let one = went_second s group_rest from_word c.takes_keyword.new.self c.takes_keyword.result (c.takes_keyword.ensures.chooses s group_rest from_word knows) c.if-takes_keyword.false in
    c.word_statement.ensures s (went_first s word_rest from_subgroup c.takes_keyword-else-takes_keyword.new.self c.takes_keyword-else-takes_keyword.result (c.takes_keyword-else-takes_keyword.ensures.chooses s word_rest from_subgroup one) c.if-takes_keyword-2.true)

pub returns-then-takes_keyword-3 : goal.returns-then-takes_keyword-3
returns-then-takes_keyword-3 c = λ s knows.
    let one = went_second s group_rest from_word c.takes_keyword.new.self c.takes_keyword.result (c.takes_keyword.ensures.chooses s group_rest from_word knows) c.if-takes_keyword.false in
    let two = went_second s word_rest from_subgroup c.takes_keyword-else-takes_keyword.new.self c.takes_keyword-else-takes_keyword.result (c.takes_keyword-else-takes_keyword.ensures.chooses s word_rest from_subgroup one) c.if-takes_keyword-2.false in
    c.subgroup.ensures s (went_first s subgroup_rest from_map c.takes_keyword-else-takes_keyword-2.new.self c.takes_keyword-else-takes_keyword-2.result (c.takes_keyword-else-takes_keyword-2.ensures.chooses s subgroup_rest from_map two) c.if-takes_keyword-3.true)

pub returns-then-takes_keyword-4 : goal.returns-then-takes_keyword-4
returns-then-takes_keyword-4 c = λ s knows.
    let one = went_second s group_rest from_word c.takes_keyword.new.self c.takes_keyword.result (c.takes_keyword.ensures.chooses s group_rest from_word knows) c.if-takes_keyword.false in
    let two = went_second s word_rest from_subgroup c.takes_keyword-else-takes_keyword.new.self c.takes_keyword-else-takes_keyword.result (c.takes_keyword-else-takes_keyword.ensures.chooses s word_rest from_subgroup one) c.if-takes_keyword-2.false in
    let three = went_second s subgroup_rest from_map c.takes_keyword-else-takes_keyword-2.new.self c.takes_keyword-else-takes_keyword-2.result (c.takes_keyword-else-takes_keyword-2.ensures.chooses s subgroup_rest from_map two) c.if-takes_keyword-3.false in
    c.map.ensures s (went_first s map_rest from_ask c.takes_keyword-else-takes_keyword-3.new.self c.takes_keyword-else-takes_keyword-3.result (c.takes_keyword-else-takes_keyword-3.ensures.chooses s map_rest from_ask three) c.if-takes_keyword-4.true)

pub returns-then-takes_keyword-5 : goal.returns-then-takes_keyword-5
returns-then-takes_keyword-5 c = λ s knows.
    let one = went_second s group_rest from_word c.takes_keyword.new.self c.takes_keyword.result (c.takes_keyword.ensures.chooses s group_rest from_word knows) c.if-takes_keyword.false in
    let two = went_second s word_rest from_subgroup c.takes_keyword-else-takes_keyword.new.self c.takes_keyword-else-takes_keyword.result (c.takes_keyword-else-takes_keyword.ensures.chooses s word_rest from_subgroup one) c.if-takes_keyword-2.false in
    let three = went_second s subgroup_rest from_map c.takes_keyword-else-takes_keyword-2.new.self c.takes_keyword-else-takes_keyword-2.result (c.takes_keyword-else-takes_keyword-2.ensures.chooses s subgroup_rest from_map two) c.if-takes_keyword-3.false in
    let four = went_second s map_rest from_ask c.takes_keyword-else-takes_keyword-3.new.self c.takes_keyword-else-takes_keyword-3.result (c.takes_keyword-else-takes_keyword-3.ensures.chooses s map_rest from_ask three) c.if-takes_keyword-4.false in
    c.ask.ensures s (went_first s ask_rest from_fund c.takes_keyword-else-takes_keyword-4.new.self c.takes_keyword-else-takes_keyword-4.result (c.takes_keyword-else-takes_keyword-4.ensures.chooses s ask_rest from_fund four) c.if-takes_keyword-5.true)

pub returns-else-takes_keyword-5 : goal.returns-else-takes_keyword-5
returns-else-takes_keyword-5 c = λ s knows.
    let one = went_second s group_rest from_word c.takes_keyword.new.self c.takes_keyword.result (c.takes_keyword.ensures.chooses s group_rest from_word knows) c.if-takes_keyword.false in
    let two = went_second s word_rest from_subgroup c.takes_keyword-else-takes_keyword.new.self c.takes_keyword-else-takes_keyword.result (c.takes_keyword-else-takes_keyword.ensures.chooses s word_rest from_subgroup one) c.if-takes_keyword-2.false in
    let three = went_second s subgroup_rest from_map c.takes_keyword-else-takes_keyword-2.new.self c.takes_keyword-else-takes_keyword-2.result (c.takes_keyword-else-takes_keyword-2.ensures.chooses s subgroup_rest from_map two) c.if-takes_keyword-3.false in
    let four = went_second s map_rest from_ask c.takes_keyword-else-takes_keyword-3.new.self c.takes_keyword-else-takes_keyword-3.result (c.takes_keyword-else-takes_keyword-3.ensures.chooses s map_rest from_ask three) c.if-takes_keyword-4.false in
    let five = went_second s ask_rest from_fund c.takes_keyword-else-takes_keyword-4.new.self c.takes_keyword-else-takes_keyword-4.result (c.takes_keyword-else-takes_keyword-4.ensures.chooses s ask_rest from_fund four) c.if-takes_keyword-5.false in
    c.command.ensures s five

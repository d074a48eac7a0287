use Rattle.std.proofs.Common.{◌≡◌, ◌∙◌, sym, refl, IfOk, OnOk}
use Rattle.mg_words.specs.Word.{Held}
use Rattle.mg_names.specs.Name.{named_of}
use Rattle.mg_names.specs.Meaning.{value}
use Rattle.mg_names.specs.Cause.{in_word}
use Rattle.mg_names.specs.Least.{Gets}
use Rattle.mg_names.proofs.Alone.{alone_case, other_case, ok_so, value_read, causes_read}
use Rattle.mg_names.proofs.words.word.Goals as goal

pub returns-then-is_name_alone-clause-letters : goal.returns-then-is_name_alone-clause-letters
returns-then-is_name_alone-clause-letters c w rest e h =
    alone_case (λ u r. IfOk c.name_alone.result (λ (v : Held). v.letters ≡ value c.args.home.now.names.now c.args.home.now.place c.args.home.now.generators.now u))
    c.args.cursor.now c.name-name.new.self (named_of c.name-name.result) (sym c.is_name_alone.ensures ∙ c.if-is_name_alone.true) c.name-name.ensures c.name_alone.ensures.letters w rest e

pub returns-then-is_name_alone-clause-rest : goal.returns-then-is_name_alone-clause-rest
returns-then-is_name_alone-clause-rest c w rest e h =
    alone_case (λ u r. OnOk c.name_alone.result (c.name-name.new.self ≡ r))
    c.args.cursor.now c.name-name.new.self (named_of c.name-name.result) (sym c.is_name_alone.ensures ∙ c.if-is_name_alone.true) c.name-name.ensures (ok_so c.name_alone.result refl) w rest e

pub returns-then-is_name_alone-clause-causes : goal.returns-then-is_name_alone-clause-causes
returns-then-is_name_alone-clause-causes c w rest e h =
    alone_case (λ u r. OnOk c.name_alone.result (Gets (in_word c.args.home.now.names.now c.args.home.now.place c.args.home.now.generators.now u) c.args.found.now c.name_alone.new.found))
    c.args.cursor.now c.name-name.new.self (named_of c.name-name.result) (sym c.is_name_alone.ensures ∙ c.if-is_name_alone.true) c.name-name.ensures
    (ok_so c.name_alone.result c.name_alone.ensures.causes) w rest e

pub returns-clause-letters : goal.returns-clause-letters
returns-clause-letters c =
    other_case (λ u. IfOk c.reduce.result (λ (v : Held). v.letters ≡ value c.args.home.now.names.now c.args.home.now.place c.args.home.now.generators.now u))
    c.args.cursor.now (sym c.is_name_alone.ensures ∙ c.if-is_name_alone.false)
    (λ w rest e h none.
    value_read c.args.home.now.names.now c.args.home.now.place c.args.home.now.generators.now w c.in_ok-word.word.letters c.reduce.result none (c.in_ok-word.ensures w rest e h).letters_are
    c.reduce.ensures.equal c.reduce.ensures.reduced)

pub returns-clause-causes : goal.returns-clause-causes
returns-clause-causes c =
    other_case (λ u. OnOk c.reduce.result (Gets (in_word c.args.home.now.names.now c.args.home.now.place c.args.home.now.generators.now u) c.args.found.now c.written_out.new.found))
    c.args.cursor.now (sym c.is_name_alone.ensures ∙ c.if-is_name_alone.false)
    (λ w rest e h none. ok_so c.reduce.result (causes_read c.args.home.now w c.args.found.now c.written_out.new.found none (c.in_ok-word.ensures w rest e h).causes))

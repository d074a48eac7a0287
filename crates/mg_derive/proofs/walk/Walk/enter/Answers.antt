use Rattle.std.proofs.Common.{◌++◌, ◌∷◌, [], List, length, refl, sym, subst, arith}
use Rattle.std.proofs.lemmas.List.{length-append}
use Rattle.mg_derive.specs.declared.symbol.Symbol.{Symbol}
use Rattle.mg_derive.specs.Reading.{Standing, Leads, at_first}
use Rattle.mg_derive.specs.Walk.{standing_of, text_length}
use Rattle.mg_derive.proofs.Standings.{leads_on, stands, symbols_read, room_for_more, room_for_goal, room_kept, reads_as, shorter, none_by_refusal, none_from}
use Rattle.mg_derive.proofs.Passing.{none_here}
use Rattle.mg_derive.proofs.walk.Walk.enter.Goals as goal

pub take-requires-clause-goal : goal.take-requires-clause-goal
take-requires-clause-goal c =
    let at = standing_of c.args.self.now in
    let s = stands c.args.ask.now c.args.self.now.text.symbols at c.requires.place.reads in
    s.goal

pub take-requires-clause-letters_reduced : goal.take-requires-clause-letters_reduced
take-requires-clause-letters_reduced c =
    let at = standing_of c.args.self.now in
    let s = stands c.args.ask.now c.args.self.now.text.symbols at c.requires.place.reads in
    s.letters

pub take-requires-clause-written_reduced : goal.take-requires-clause-written_reduced
take-requires-clause-written_reduced c =
    let at = standing_of c.args.self.now in
    let s = stands c.args.ask.now c.args.self.now.text.symbols at c.requires.place.reads in
    s.written

pub take-requires-clause-letters : goal.take-requires-clause-letters
take-requires-clause-letters c =
    let at = standing_of c.args.self.now in
    let r = room_for_more c.args.ask.now c.args.self.now.text.symbols c.symbol_of-symbol.result at (record { letters = c.args.self.now.letters.capacity; written = c.args.self.now.written.capacity }) c.requires.place.equipped.room
    (shorter c.args.ask.now (text_length c.args.self.now) (length c.args.self.now.text.symbols) (omega arith) c.requires.short) c.requires.place.reads c.symbol_of-symbol.ensures.symbol in
    r.letters

pub take-requires-clause-written : goal.take-requires-clause-written
take-requires-clause-written c =
    let at = standing_of c.args.self.now in
    let r = room_for_more c.args.ask.now c.args.self.now.text.symbols c.symbol_of-symbol.result at (record { letters = c.args.self.now.letters.capacity; written = c.args.self.now.written.capacity }) c.requires.place.equipped.room
    (shorter c.args.ask.now (text_length c.args.self.now) (length c.args.self.now.text.symbols) (omega arith) c.requires.short) c.requires.place.reads c.symbol_of-symbol.ensures.symbol in
    r.written

pub returns-in_default-clause-refused : goal.returns-in_default-clause-refused
returns-in_default-clause-refused c =
    let at = standing_of c.args.self.now in
    λ _. none_here c.args.ask.now c.args.self.now.base c.args.self.now.text.symbols c.symbol_of-symbol.result c.args.self.now.digit c.args.self.now.left c.requires.place.equipped.base (symbols_read c.args.ask.now c.args.self.now.text.symbols at_first at c.requires.place.reads) c.symbol_of-symbol.ensures.symbol c.symbol_of-symbol.ensures.digit
    (none_by_refusal c.args.ask.now c.args.self.now.text.symbols c.symbol_of-symbol.result c.args.self.now.left at c.requires.place.equipped.asked c.requires.place.reads c.in_default.ensures.refused)

pub returns-then-may_end-clause-place : goal.returns-then-may_end-clause-place
returns-then-may_end-clause-place c =
    let at = standing_of c.args.self.now in
    let next : Standing = record { goal = c.in-Some.stand.goal; members = c.in-Some.stand.members; letters = c.take.new.letters.letters; written = c.take.new.written.letters } in
    let l = leads_on c.args.ask.now c.args.self.now.text.symbols c.symbol_of-symbol.result at_first at next c.requires.place.reads c.in-Some.ensures.taken in
    let e = c.requires.place.equipped in record {
      equipped = record {
        asked = e.asked;
        base = e.base;
        some = e.some;
        longest = e.longest;
        capacity = omega (arith, e.capacity, c.push.ensures.capacity);
        room = room_kept c.args.ask.now c.args.self.now.letters.capacity c.args.self.now.written.capacity _ _ c.take.ensures.letters_room c.take.ensures.written_room e.room;
      };
      reads = subst (λ (t : List Symbol). Leads c.args.ask.now t at_first next) (sym c.push.ensures.symbols) l;
      digit = c.requires.place.digit;
      begins = λ h. absurd (omega (arith, h, c.requires.some));
    }

pub take_back-requires-clause-letters : goal.take_back-requires-clause-letters
take_back-requires-clause-letters c =
    let at = standing_of c.args.self.now in
    let next : Standing = record { goal = c.in-Some.stand.goal; members = c.in-Some.stand.members; letters = c.take.new.letters.letters; written = c.take.new.written.letters } in
    let l = leads_on c.args.ask.now c.args.self.now.text.symbols c.symbol_of-symbol.result at_first at next c.requires.place.reads c.in-Some.ensures.taken in
    let r = room_for_more c.args.ask.now (c.args.self.now.text.symbols ++ c.symbol_of-symbol.result ∷ []) c.symbol_of-symbol.result next (record { letters = c.args.self.now.letters.capacity; written = c.args.self.now.written.capacity }) c.requires.place.equipped.room
    (shorter c.args.ask.now (text_length c.args.self.now) (length (c.args.self.now.text.symbols ++ c.symbol_of-symbol.result ∷ [])) (omega (arith, length-append c.args.self.now.text.symbols (c.symbol_of-symbol.result ∷ []))) c.requires.short) l c.symbol_of-symbol.ensures.symbol in
    omega (arith, r.letters, c.take.ensures.letters_room)

pub take_back-requires-clause-written : goal.take_back-requires-clause-written
take_back-requires-clause-written c =
    let at = standing_of c.args.self.now in
    let next : Standing = record { goal = c.in-Some.stand.goal; members = c.in-Some.stand.members; letters = c.take.new.letters.letters; written = c.take.new.written.letters } in
    let l = leads_on c.args.ask.now c.args.self.now.text.symbols c.symbol_of-symbol.result at_first at next c.requires.place.reads c.in-Some.ensures.taken in
    let r = room_for_more c.args.ask.now (c.args.self.now.text.symbols ++ c.symbol_of-symbol.result ∷ []) c.symbol_of-symbol.result next (record { letters = c.args.self.now.letters.capacity; written = c.args.self.now.written.capacity }) c.requires.place.equipped.room
    (shorter c.args.ask.now (text_length c.args.self.now) (length (c.args.self.now.text.symbols ++ c.symbol_of-symbol.result ∷ [])) (omega (arith, length-append c.args.self.now.text.symbols (c.symbol_of-symbol.result ∷ []))) c.requires.short) l c.symbol_of-symbol.ensures.symbol in
    omega (arith, r.written, c.take.ensures.written_room)

pub take_back-requires-clause-goal_room : goal.take_back-requires-clause-goal_room
take_back-requires-clause-goal_room c =
    let at = standing_of c.args.self.now in
    let next : Standing = record { goal = c.in-Some.stand.goal; members = c.in-Some.stand.members; letters = c.take.new.letters.letters; written = c.take.new.written.letters } in
    let l = leads_on c.args.ask.now c.args.self.now.text.symbols c.symbol_of-symbol.result at_first at next c.requires.place.reads c.in-Some.ensures.taken in
    λ cut.
    let r = room_for_goal c.args.ask.now c.args.self.now.text.symbols c.symbol_of-symbol.result at next (record { letters = c.args.self.now.letters.capacity; written = c.args.self.now.written.capacity }) c.requires.place.equipped.room
    (shorter c.args.ask.now (text_length c.args.self.now) (length c.args.self.now.text.symbols) (omega arith) c.requires.short) c.requires.place.reads c.in-Some.ensures.taken cut in
    omega (arith, r, c.take.ensures.written_room)

pub returns-clause-place : goal.returns-clause-place
returns-clause-place c =
    let at = standing_of c.args.self.now in
    let next : Standing = record { goal = c.in-Some.stand.goal; members = c.in-Some.stand.members; letters = c.take.new.letters.letters; written = c.take.new.written.letters } in
    let l = leads_on c.args.ask.now c.args.self.now.text.symbols c.symbol_of-symbol.result at_first at next c.requires.place.reads c.in-Some.ensures.taken in
    let s = stands c.args.ask.now c.args.self.now.text.symbols at c.requires.place.reads in
    let back = c.take_back.ensures.back at next refl s.letters s.written c.in-Some.ensures.taken refl refl in
    let e = c.requires.place.equipped in record {
      equipped = record {
        asked = e.asked;
        base = e.base;
        some = e.some;
        longest = e.longest;
        capacity = e.capacity;
        room = room_kept c.args.ask.now c.args.self.now.letters.capacity c.args.self.now.written.capacity _ _ (omega (arith, c.take.ensures.letters_room, c.take_back.ensures.letters_room)) (omega (arith, c.take.ensures.written_room, c.take_back.ensures.written_room)) e.room;
      };
      reads = reads_as c.args.ask.now c.args.self.now.text.symbols at _ _ _ _ c.requires.place.reads refl refl (sym back.0) (sym back.1);
      digit = c.requires.place.digit;
      begins = c.requires.place.begins;
    }

pub returns-clause-refused : goal.returns-clause-refused
returns-clause-refused c =
    let at = standing_of c.args.self.now in
    let next : Standing = record { goal = c.in-Some.stand.goal; members = c.in-Some.stand.members; letters = c.take.new.letters.letters; written = c.take.new.written.letters } in
    let l = leads_on c.args.ask.now c.args.self.now.text.symbols c.symbol_of-symbol.result at_first at next c.requires.place.reads c.in-Some.ensures.taken in
    λ _. none_here c.args.ask.now c.args.self.now.base c.args.self.now.text.symbols c.symbol_of-symbol.result c.args.self.now.digit c.args.self.now.left c.requires.place.equipped.base (symbols_read c.args.ask.now c.args.self.now.text.symbols at_first at c.requires.place.reads) c.symbol_of-symbol.ensures.symbol c.symbol_of-symbol.ensures.digit
    (none_from c.args.ask.now (c.args.self.now.text.symbols ++ c.symbol_of-symbol.result ∷ []) c.args.self.now.left next c.requires.place.equipped.asked l (c.may_end.ensures.refused c.if-may_end.false))

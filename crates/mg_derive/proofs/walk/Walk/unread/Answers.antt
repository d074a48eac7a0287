use Rattle.std.proofs.Common.{ℕ, ◌+◌, ◌≤◌, ◌++◌, ◌∷◌, [], get_or, length, refl, sym, ap, subst, ◌∙◌, arith}
use Rattle.std.proofs.lemmas.List.{length-append}
use Rattle.mg_derive.specs.Reading.{ends_in_member}
use Rattle.mg_derive.specs.Walk.{standing_of}
use Rattle.mg_derive.proofs.Standings.{last_read, stands, same_goal, goal_of_cut, room_for_more, room_for_goal, members_read, reads_as, shorter}
use Rattle.mg_derive.proofs.walk.Walk.unread.Goals as goal

pub goal_before-goal-requires : goal.goal_before-goal-requires
goal_before-goal-requires c =
    let b = last_read c.args.ask.now (c.args.self.now.text.symbols ++ c.args.symbol ∷ []) c.args.self.now.text.symbols c.args.symbol (standing_of c.args.self.now) refl c.requires.reads in
    λ cut. goal_of_cut c.args.ask.now c.args.symbol b.before (standing_of c.args.self.now) b.takes cut

pub take_back-requires-clause-symbol : goal.take_back-requires-clause-symbol
take_back-requires-clause-symbol c =
    let b = last_read c.args.ask.now (c.args.self.now.text.symbols ++ c.args.symbol ∷ []) c.args.self.now.text.symbols c.args.symbol (standing_of c.args.self.now) refl c.requires.reads in
    b.takes.is_symbol

pub take_back-requires-clause-goal : goal.take_back-requires-clause-goal
take_back-requires-clause-goal c =
    let b = last_read c.args.ask.now (c.args.self.now.text.symbols ++ c.args.symbol ∷ []) c.args.self.now.text.symbols c.args.symbol (standing_of c.args.self.now) refl c.requires.reads in
    let same = same_goal c.args.symbol c.goal_before-goal.result b.before.goal (sym c.goal_before-goal.ensures ∙ b.takes.goal) in
    omega (arith, same, b.takes.some)

pub take_back-requires-clause-letters_reduced : goal.take_back-requires-clause-letters_reduced
take_back-requires-clause-letters_reduced c =
    let at = stands c.args.ask.now (c.args.self.now.text.symbols ++ c.args.symbol ∷ []) (standing_of c.args.self.now) c.requires.reads in at.letters

pub take_back-requires-clause-written_reduced : goal.take_back-requires-clause-written_reduced
take_back-requires-clause-written_reduced c =
    let at = stands c.args.ask.now (c.args.self.now.text.symbols ++ c.args.symbol ∷ []) (standing_of c.args.self.now) c.requires.reads in at.written

pub take_back-requires-clause-letters : goal.take_back-requires-clause-letters
take_back-requires-clause-letters c =
    let b = last_read c.args.ask.now (c.args.self.now.text.symbols ++ c.args.symbol ∷ []) c.args.self.now.text.symbols c.args.symbol (standing_of c.args.self.now) refl c.requires.reads in
    let r = room_for_more c.args.ask.now (c.args.self.now.text.symbols ++ c.args.symbol ∷ []) c.args.symbol (standing_of c.args.self.now) (record { letters = c.args.self.now.letters.capacity; written = c.args.self.now.written.capacity }) c.requires.equipped.room
    (shorter c.args.ask.now (length c.args.self.now.text.symbols + 1) (length (c.args.self.now.text.symbols ++ c.args.symbol ∷ [])) (omega (arith, length-append c.args.self.now.text.symbols (c.args.symbol ∷ []))) c.requires.short) c.requires.reads b.takes.is_symbol in
    r.letters

pub take_back-requires-clause-written : goal.take_back-requires-clause-written
take_back-requires-clause-written c =
    let b = last_read c.args.ask.now (c.args.self.now.text.symbols ++ c.args.symbol ∷ []) c.args.self.now.text.symbols c.args.symbol (standing_of c.args.self.now) refl c.requires.reads in
    let r = room_for_more c.args.ask.now (c.args.self.now.text.symbols ++ c.args.symbol ∷ []) c.args.symbol (standing_of c.args.self.now) (record { letters = c.args.self.now.letters.capacity; written = c.args.self.now.written.capacity }) c.requires.equipped.room
    (shorter c.args.ask.now (length c.args.self.now.text.symbols + 1) (length (c.args.self.now.text.symbols ++ c.args.symbol ∷ [])) (omega (arith, length-append c.args.self.now.text.symbols (c.args.symbol ∷ []))) c.requires.short) c.requires.reads b.takes.is_symbol in
    r.written

pub take_back-requires-clause-goal_room : goal.take_back-requires-clause-goal_room
take_back-requires-clause-goal_room c =
    let b = last_read c.args.ask.now (c.args.self.now.text.symbols ++ c.args.symbol ∷ []) c.args.self.now.text.symbols c.args.symbol (standing_of c.args.self.now) refl c.requires.reads in
    let same = same_goal c.args.symbol c.goal_before-goal.result b.before.goal (sym c.goal_before-goal.ensures ∙ b.takes.goal) in
    λ cut.
    let r = room_for_goal c.args.ask.now c.args.self.now.text.symbols c.args.symbol b.before (standing_of c.args.self.now) (record { letters = c.args.self.now.letters.capacity; written = c.args.self.now.written.capacity }) c.requires.equipped.room
    (shorter c.args.ask.now (length c.args.self.now.text.symbols + 1) (length c.args.self.now.text.symbols) (omega arith) c.requires.short) b.reads b.takes cut in
    subst (λ (n : ℕ). length (get_or c.args.ask.now.goals n []) ≤ c.args.self.now.written.capacity) (sym same) r

pub digit_of-requires : goal.digit_of-requires
digit_of-requires c =
    let b = last_read c.args.ask.now (c.args.self.now.text.symbols ++ c.args.symbol ∷ []) c.args.self.now.text.symbols c.args.symbol (standing_of c.args.self.now) refl c.requires.reads in
    b.takes.is_symbol

pub returns-clause-reads : goal.returns-clause-reads
returns-clause-reads c =
    let b = last_read c.args.ask.now (c.args.self.now.text.symbols ++ c.args.symbol ∷ []) c.args.self.now.text.symbols c.args.symbol (standing_of c.args.self.now) refl c.requires.reads in
    let same = same_goal c.args.symbol c.goal_before-goal.result b.before.goal (sym c.goal_before-goal.ensures ∙ b.takes.goal) in
    let back = c.take_back.ensures.back b.before (standing_of c.args.self.now) (sym same) b.stands.letters b.stands.written b.takes refl refl in
    reads_as c.args.ask.now c.args.self.now.text.symbols b.before _ _ _ _ b.reads (sym same)
    (members_read c.args.ask.now c.args.self.now.text.symbols b.before b.reads ∙ (ap ends_in_member (sym c.symbols.ensures) ∙ sym c.ends_in_member-self.ensures))
    (sym back.0) (sym back.1)

pub returns-clause-symbol : goal.returns-clause-symbol
returns-clause-symbol c =
    let b = last_read c.args.ask.now (c.args.self.now.text.symbols ++ c.args.symbol ∷ []) c.args.self.now.text.symbols c.args.symbol (standing_of c.args.self.now) refl c.requires.reads in
    b.takes.is_symbol

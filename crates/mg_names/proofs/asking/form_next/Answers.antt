use Rattle.mg_names.proofs.Turns.{turned, equality_told, centrality_told, property_told, kernel_told, membership_told}
use Rattle.mg_names.proofs.asking.form_next.Goals as goal

pub returns-then-is : goal.returns-then-is
returns-then-is c q e =
    equality_told c.turn-turn.result q (turned c.args.cursor.now c.turn-turn.result q c.turn-turn.ensures e) (c.is.ensures.0 c.if-is.true)

pub returns-then-is_keyword : goal.returns-then-is_keyword
returns-then-is_keyword c q e =
    centrality_told c.turn-turn.result q (turned c.args.cursor.now c.turn-turn.result q c.turn-turn.ensures e) (c.is_keyword.ensures.0 c.if-is_keyword.true)

pub returns-then-not-is_keyword : goal.returns-then-not-is_keyword
returns-then-not-is_keyword c q e =
    property_told c.turn-turn.result q (turned c.args.cursor.now c.turn-turn.result q c.turn-turn.ensures e)
    (λ f. let t = c.is.ensures.1 f in cc) (λ f. let t = c.is_keyword.ensures.1 f in cc) (λ f. let t = c.is_keyword-2.ensures.1 f in cc)

pub returns-then-is_keyword-2 : goal.returns-then-is_keyword-2
returns-then-is_keyword-2 c q e =
    kernel_told c.turn-turn.result q c.skip.new.self (turned c.args.cursor.now c.turn-turn.result q c.turn-turn.ensures e) c.skip.ensures
    (c.is_keyword-2.ensures.0 c.if-not-is_keyword.false) (c.is_keyword-3.ensures.0 c.if-is_keyword-2.true)

pub returns-else-is_keyword-2 : goal.returns-else-is_keyword-2
returns-else-is_keyword-2 c q e =
    membership_told c.turn-turn.result q c.skip.new.self (turned c.args.cursor.now c.turn-turn.result q c.turn-turn.ensures e) c.skip.ensures
    (c.is_keyword-2.ensures.0 c.if-not-is_keyword.false) (λ f. let t = c.is_keyword-3.ensures.1 f in cc)

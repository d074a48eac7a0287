use Rattle.std.proofs.Common.{rules, ◌≤◌, ◌∙◌, ap, sym, subst, arith, length, []}
use Rattle.mg_board.specs.History.{Reaches}
use Rattle.mg_board.specs.Passes.{pass_of}
use Rattle.mg_board.specs.Seats.{joined}
use Rattle.mg_board.proofs.Allowed.{joins, learns, meets, shorter_fits}
use Rattle.mg_board.proofs.board.Board.join.Goals as goal

pub join_seat-requires : goal.join_seat-requires
join_seat-requires g c = (
  search rules,
  search rules,
  search rules,
  omega (arith, c.self.invariant.0),
  joins pass_of c.self.inside.table.shared.key.0.value c.self.inside.table.shared.key.1 c.args.seat.now.id c.args.seat.now.me.0 c.args.other.id c.args.other.me.0 c.requires.free.0.1 c.requires.free.1.1 c.requires.live,
)

pub load-requires : goal.load-requires
load-requires g c =
    let now = c.join_seat.ensures.2 in
    let v = c.args.seat.now.me.0 in let w = c.args.other.me.0 in (
      search rules,
      omega (arith, c.self.invariant.0),
      learns pass_of c.self.inside.table.shared.key.0.value c.self.inside.table.shared.key.1 c.self.inside.table.shared.table_id.slots c.join_seat.new.seat.id c.join_seat.new.seat.me (ap (λ m. m.1) now ∙ c.requires.free.0.0)
          (subst (λ u. length u.told ≤ length u.seen) (sym (ap (λ m. m.0) now)) (shorter_fits pass_of c.self.inside.table.shared.key.0.value c.self.inside.table.shared.key.1 v w)),
    )

pub returns-clause-joined : goal.returns-clause-joined
returns-clause-joined g c =
    let v = c.args.seat.now.me.0 in let w = c.args.other.me.0 in
    c.load.ensures.2.1 ∙ (ap (λ m. (record (m.0) { told = []; told_of = [] }, m.1)) c.join_seat.ensures.2 ∙ ap (λ held. (joined v w, held)) c.requires.free.0.0)

pub returns-clause-first : goal.returns-clause-first
returns-clause-first g c =
    let v = c.args.seat.now.me.0 in let w = c.args.other.me.0 in
    let told = subst (λ m. Reaches pass_of m.0.told_of m.0.told m.0.seen) c.join_seat.ensures.2 c.load.ensures.2.0 in
    let both = meets pass_of c.self.inside.table.shared.key.0.value c.self.inside.table.shared.key.1 v w told in
    subst (Reaches pass_of v.numbers v.seen) (sym (ap (λ m. m.0.seen) c.load.ensures.2.1 ∙ ap (λ m. m.0.seen) c.join_seat.ensures.2)) both.0

pub returns-clause-second : goal.returns-clause-second
returns-clause-second g c =
    let v = c.args.seat.now.me.0 in let w = c.args.other.me.0 in
    let told = subst (λ m. Reaches pass_of m.0.told_of m.0.told m.0.seen) c.join_seat.ensures.2 c.load.ensures.2.0 in
    let both = meets pass_of c.self.inside.table.shared.key.0.value c.self.inside.table.shared.key.1 v w told in
    subst (Reaches pass_of w.numbers w.seen) (sym (ap (λ m. m.0.seen) c.load.ensures.2.1 ∙ ap (λ m. m.0.seen) c.join_seat.ensures.2)) both.1

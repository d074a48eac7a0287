use Rattle.std.proofs.Common.{rules, ◌≡◌, ℤ, List, ◌++◌, sym, ap, subst, ◌∙◌, arith}
use Rattle.mg_words.specs.Word.{Held}
use Rattle.mg_names.specs.Reads.{IsNotTooLong}
use Rattle.mg_names.proofs.Tails.{IsReadUpTo, started, stepped, finished, start_fits, step_fits}
use Rattle.mg_names.proofs.Parts.{ok_more, BaseRead, BaseIsRead, BaseNotLong, only_round, only_square, no_bracket, factor_of_base, with_caret, without_caret, power_fits, round_read, square_read}
use Rattle.mg_names.proofs.words.+product.Goals as goal

pub base-returns-then-is-clause-read : goal.base-returns-then-is-clause-read
base-returns-then-is-clause-read t c =
    only_round (BaseRead c.args.home.now c.args.found.now c.in_round.result c.in_round.new.cursor c.in_round.new.found) c.args.cursor.now (c.is.ensures.0 c.if-is.true) c.in_round.ensures.read

pub base-returns-then-is-clause-fits : goal.base-returns-then-is-clause-fits
base-returns-then-is-clause-fits t c =
    only_round (BaseNotLong c.in_round.result) c.args.cursor.now (c.is.ensures.0 c.if-is.true) c.in_round.ensures.fits

pub base-returns-then-is-2-clause-read : goal.base-returns-then-is-2-clause-read
base-returns-then-is-2-clause-read t c =
    only_square (BaseRead c.args.home.now c.args.found.now c.in_square.result c.in_square.new.cursor c.in_square.new.found) c.args.cursor.now (c.is-2.ensures.0 c.if-is-2.true) c.in_square.ensures.read

pub base-returns-then-is-2-clause-fits : goal.base-returns-then-is-2-clause-fits
base-returns-then-is-2-clause-fits t c =
    only_square (BaseNotLong c.in_square.result) c.args.cursor.now (c.is-2.ensures.0 c.if-is-2.true) c.in_square.ensures.fits

pub base-returns-clause-read : goal.base-returns-clause-read
base-returns-clause-read t c =
    no_bracket (BaseIsRead c.args.home.now c.args.found.now c.in_ok-name_or_one.field-0 c.name_or_one.new.cursor c.name_or_one.new.found) c.args.cursor.now
    (λ e. let f = c.is.ensures.1 e in cc) (λ e. let f = c.is-2.ensures.1 e in cc) c.in_ok-name_or_one.ensures.name c.in_ok-name_or_one.ensures.one

pub factor-returns-in_err-root-clause-fits : goal.factor-returns-in_err-root-clause-fits
factor-returns-in_err-root-clause-fits t c f rest e none h =
    factor_of_base (IsNotTooLong c.from_residual.result) c.args.cursor.now (λ b r k fits. let small = c.in_err-root.ensures.fits b r k fits in search rules) f rest e h

pub factor-returns-then-is-clause-read : goal.factor-returns-then-is-clause-read
factor-returns-then-is-clause-read t c f rest e h =
    ok_more c.raised.result
    (λ (v : Held) is. with_caret c.args.home.now c.args.cursor.now c.args.found.now c.in_ok-root.root c.base.new.cursor c.base.new.found c.in_ok-root.ensures.read
    c.skip.new.self c.read_exponent-exponent.new.cursor c.read_exponent-exponent.result v (c.is.ensures.0 c.if-is.true) c.skip.ensures c.read_exponent-exponent.ensures.read is f rest e h)
    c.raised.ensures.power

pub factor-returns-then-is-clause-fits : goal.factor-returns-then-is-clause-fits
factor-returns-then-is-clause-fits t c f rest e h k =
    power_fits c.args.home.now c.args.cursor.now c.args.found.now c.in_ok-root.root c.base.new.cursor c.base.new.found c.in_ok-root.ensures.read
    c.skip.new.self c.read_exponent-exponent.new.cursor c.read_exponent-exponent.result c.in_ok-root.root (c.is.ensures.0 c.if-is.true) c.skip.ensures c.read_exponent-exponent.ensures.read
    (IsNotTooLong c.raised.result) c.raised.ensures.fits f rest e h k

pub factor-returns-clause-read : goal.factor-returns-clause-read
factor-returns-clause-read t c f rest e h =
    without_caret c.args.home.now c.args.cursor.now c.args.found.now c.in_ok-root.root c.base.new.cursor c.base.new.found c.in_ok-root.ensures.read
    (λ k. let g = c.is.ensures.1 k in cc) f rest e

pub in_round-returns-clause-read : goal.in_round-returns-clause-read
in_round-returns-clause-read t c =
    round_read c.args.home.now c.args.cursor.now c.skip.new.self c.product.new.cursor c.skip-2.new.self c.args.found.now c.product.new.found c.in_ok-inner.inner
    c.skip.ensures c.in_ok-inner.ensures.read c.skip-2.ensures

pub in_square-returns-clause-read : goal.in_square-returns-clause-read
in_square-returns-clause-read t c =
    square_read c.args.home.now c.args.cursor.now c.skip.new.self c.product.new.cursor c.skip-2.new.self c.args.found.now c.product.new.found c.in_ok-left.left
    c.skip.ensures c.in_ok-left.ensures.read c.skip-2.ensures c.product-2.new.cursor c.skip-3.new.self c.product-2.new.found c.in_ok-right.right c.in_ok-commutator.field-0
    c.in_ok-right.ensures.read c.skip-3.ensures c.in_ok-commutator.ensures

pub product-returns-in_err-word-clause-fits : goal.product-returns-in_err-word-clause-fits
product-returns-in_err-word-clause-fits t c w rest e stops h =
    start_fits c.args.cursor.now (IsNotTooLong c.from_residual.result) (λ f r k none fits. let small = c.in_err-word.ensures.fits f r k none fits in search rules) w rest e stops h

pub product-loop-alloc-init : goal.product-loop-alloc-init
product-loop-alloc-init t c = record {
  read = started c.args.home.now c.args.cursor.now c.args.found.now c.in_ok-word.word c.factor.new.cursor c.factor.new.found c.in_ok-word.ensures.read;
  shorter = c.factor.ensures.shorter;
}

pub product-returns-in_err-next-clause-fits : goal.product-returns-in_err-next-clause-fits
product-returns-in_err-next-clause-fits t c w rest e stops h =
    step_fits w rest c.loop-alloc.cursor c.skip_star.new.cursor (IsNotTooLong c.from_residual-in_err-next.result) (c.loop-alloc.invariant.read w rest e stops) stops
    (λ s. let g = c.goes_on.ensures.stops.1 s in cc) c.skip_star.ensures.skipped
    (λ f r k none fits. let small = c.in_err-next.ensures.fits f r k none fits in search rules) h

pub product-loop-alloc-preserved : goal.product-loop-alloc-preserved
product-loop-alloc-preserved t c =
    let letters : c.push_all.new.self.letters ≡ c.loop-alloc.word.letters ++ c.in_ok-next.next.letters =
    c.in_ok-push_all.ensures.ok ∙ ap (λ (xs : List ℤ). c.loop-alloc.word.letters ++ xs) c.letters.ensures in
    let one = c.factor-in-loop-alloc.ensures.shorter in
    let two = c.skip_star.ensures.no_longer in
    let three = c.loop-alloc.invariant.shorter in
    record {
      read = λ w rest e stops.
          subst (λ (xs : List ℤ). IsReadUpTo c.args.home.now w rest c.args.found.now xs c.factor-in-loop-alloc.new.cursor c.factor-in-loop-alloc.new.found) (sym letters)
          (stepped c.args.home.now w rest c.args.found.now c.loop-alloc.found c.factor-in-loop-alloc.new.found c.loop-alloc.word.letters c.loop-alloc.cursor c.skip_star.new.cursor
          c.factor-in-loop-alloc.new.cursor c.in_ok-next.next (c.loop-alloc.invariant.read w rest e stops) stops (λ s. let g = c.goes_on.ensures.stops.1 s in cc)
          c.skip_star.ensures.skipped c.in_ok-next.ensures.read);
      shorter = omega arith;
    }

pub product-returns-clause-read : goal.product-returns-clause-read
product-returns-clause-read t c w rest e stops =
    finished c.args.home.now w rest c.args.found.now c.loop-alloc.found c.loop-alloc.cursor c.loop-alloc.word (c.loop-alloc.invariant.read w rest e stops)
    (c.goes_on.ensures.stops.0 c.loop-alloc-test.false)

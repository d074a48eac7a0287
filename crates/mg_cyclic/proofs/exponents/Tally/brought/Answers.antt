use Rattle.std.proofs.Common.{◌≡◌, ℕ, ◌+◌, ◌-◌, ◌%◌, get_or, ap, ◌∙◌, arith}
use Rattle.mg_cyclic.proofs.Raises.{brought_forth, brought_back, brought_nothing}
use Rattle.mg_cyclic.proofs.exponents.Tally.brought.Goals as goal

pub returns-then-rest-eq0 : goal.returns-then-rest-eq0
returns-then-rest-eq0 c =
    let p : ℕ = get_or c.args.self.now.plus c.args.place 0 in
    let m : ℕ = get_or c.args.self.now.minus c.args.place 0 in
    let rest : c.exponent.result % c.from-modulus.result ≡ (p - m + (m - p)) % c.args.modulus = ap (λ d. d % c.from-modulus.result) c.exponent.ensures ∙ ap (λ n. (p - m + (m - p)) % n) c.from-modulus.ensures in
    brought_nothing p m c.args.modulus c.requires.proper (omega (arith, rest, c.if-rest-eq0.true))

pub returns-then-self-place : goal.returns-then-self-place
returns-then-self-place c =
    let p : ℕ = get_or c.args.self.now.plus c.args.place 0 in
    let m : ℕ = get_or c.args.self.now.minus c.args.place 0 in
    let rest : c.exponent.result % c.from-modulus.result ≡ (p - m + (m - p)) % c.args.modulus = ap (λ d. d % c.from-modulus.result) c.exponent.ensures ∙ ap (λ n. (p - m + (m - p)) % n) c.from-modulus.ensures in
    ap (λ n. n - c.exponent.result % c.from-modulus.result) c.from-modulus.ensures ∙ ap (λ r. c.args.modulus - r) rest
    ∙ brought_back p m c.args.modulus c.requires.proper (omega (arith, c.if-self-place.true)) (omega (arith, rest, c.if-rest-eq0.false))

pub returns : goal.returns
returns c =
    let p : ℕ = get_or c.args.self.now.plus c.args.place 0 in
    let m : ℕ = get_or c.args.self.now.minus c.args.place 0 in
    let rest : c.exponent.result % c.from-modulus.result ≡ (p - m + (m - p)) % c.args.modulus = ap (λ d. d % c.from-modulus.result) c.exponent.ensures ∙ ap (λ n. (p - m + (m - p)) % n) c.from-modulus.ensures in
    rest ∙ brought_forth p m c.args.modulus c.requires.proper (omega (arith, c.if-self-place.false))

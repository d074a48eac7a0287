use Rattle.std.proofs.Common.{◌≡◌, ◌-◌, ◌^◌, subst, ℕ, arith}
use Rattle.std.proofs.Math.Nat.{one-le-pow}
use Rattle.mg_numbers.specs.Plain.{NoneAmong}
use Rattle.mg_derive.specs.Acceptance.{AcceptedAt}
use Rattle.mg_derive.specs.Walk.{first_at}
use Rattle.mg_derive.proofs.Passing.{none_to}
use Rattle.mg_derive.proofs.walk.Walk.pass.Goals as goal

pub returns-clause-walk : goal.returns-clause-walk
returns-clause-walk c =
    let ask = c.args.ask.now in
    let old = c.args.self.now in
    let first = first_at ask old in
    let many : ℕ = old.base ^ old.left in
    let before : old.next - 1 ≡ first = omega (arith, c.requires.number) in
    record {
      place = c.carry.ensures.place;
      some = omega (arith, c.number_after-self.ensures, c.carry.ensures.next, c.requires.number);
      none = none_to ask first many (c.carry.new.self.next - 1) (subst (λ (n : ℕ). NoneAmong (AcceptedAt ask) 0 n) before c.requires.none) c.requires.refused
          (omega (arith, c.number_after-self.ensures, c.carry.ensures.next, c.requires.number));
      number = λ h. omega (arith, h, c.number_after-self.ensures, c.carry.ensures.next, c.carry.ensures.first, c.requires.number);
    }

pub returns-clause-rises : goal.returns-clause-rises
returns-clause-rises c =
    omega (arith, c.number_after-self.ensures, c.carry.ensures.next, one-le-pow c.args.self.now.left c.args.self.now.base (omega (arith, c.requires.place.equipped.base)))

use Rattle.std.proofs.Common.{◌≡◌, ℕ, ◌-◌, ◌^◌, ◌≤◌, length, subst, ap, sym, inl, inr, arith}
use Rattle.std.proofs.lemmas.Bool.{cases_lt}
use Rattle.mg_numbers.specs.Plain.{NoneAmong}
use Rattle.mg_derive.specs.Acceptance.{AcceptedAt}
use Rattle.mg_derive.specs.Reading.{at_first}
use Rattle.mg_derive.specs.declared.walk.Walk.{Walk}
use Rattle.mg_present.specs.Ask.{Inquiry}
use Rattle.mg_derive.specs.Walk.{IsWalk, IsShort, text_length, first_at, standing_of}
use Rattle.mg_derive.proofs.Standings.{symbols_read}
use Rattle.mg_derive.proofs.Passing.{short_text}
use Rattle.mg_derive.proofs.walk.Walk.step.Goals as goal

-- the texts that a walk looks at are short
short : (ask : Inquiry) (walk : Walk) → IsWalk ask walk → walk.next ≤ 2 ^ 62 → IsShort ask (text_length walk)
short ask walk w most =
    let place = w.place in
    let before : walk.next - 1 ≡ first_at ask walk = omega (arith, w.number most) in
    elim (cases_lt 0 walk.digit) [
      | inl some ↦
          short_text ask walk.text.symbols walk.digit walk.left place.equipped.asked (symbols_read ask walk.text.symbols at_first (standing_of walk) place.reads) some place.digit
          (omega (arith, w.number most)) (subst (λ (n : ℕ). NoneAmong (AcceptedAt ask) 0 n) before w.none)
      | inr none ↦ let begins = place.begins (omega arith) in inl (omega (arith, ap length begins.0, begins.1))
    ]

pub finds-requires-clause-short : goal.finds-requires-clause-short
finds-requires-clause-short c = short c.args.ask.now c.args.self.now c.requires.walk c.requires.most

pub pass-requires-clause-short : goal.pass-requires-clause-short
pass-requires-clause-short c =
    subst (λ (n : ℕ). IsShort c.args.ask.now n) (sym (c.finds.ensures.length c.if-finds.false)) (short c.args.ask.now c.args.self.now c.requires.walk c.requires.most)

pub pass-requires-clause-none : goal.pass-requires-clause-none
pass-requires-clause-none c =
    subst (λ (n : ℕ). NoneAmong (AcceptedAt c.args.ask.now) 0 (n - 1)) (sym c.finds.ensures.next) c.requires.walk.none

pub pass-requires-clause-refused : goal.pass-requires-clause-refused
pass-requires-clause-refused c = c.finds.ensures.refused c.if-finds.false

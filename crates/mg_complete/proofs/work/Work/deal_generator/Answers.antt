use Rattle.std.proofs.Common.{◌+◌, ◌∷◌, [], lit≤, pos}
use Rattle.std.specs.Prelude.{neg_ℤ}
use Rattle.mg_complete.specs.Beginning.{Vanishes, LetterVanishes}
use Rattle.mg_complete.proofs.Begun.{full_first, letter_dealt}
use Rattle.mg_complete.proofs.work.Work.deal_generator.Goals as goal

pub returns-in-Some : goal.returns-in-Some
returns-in-Some c =
    full_first c.args.self.now c.deal_pair.new.self 1 2 (Vanishes (pos c.args.generator ∷ neg_ℤ (pos c.args.generator) ∷ [])) (LetterVanishes (pos c.args.generator)) c.in_ok-passed.field-0 c.in-Some.passed
    c.in-Some.is c.in_ok-passed.ensures (lit≤ tt)

pub deal_pair-requires-2-clause-works : goal.deal_pair-requires-2-clause-works
deal_pair-requires-2-clause-works c = (c.requires.works.0 + 1, c.in_ok-passed.ensures.works c.requires.works.0 c.requires.works.1)

pub returns : goal.returns
returns c =
    letter_dealt c.deal_pair-2.result c.args.self.now c.deal_pair.new.self c.deal_pair-2.new.self (pos c.args.generator) c.inverted.result c.in_ok-passed.field-0 c.in_default.not-Some
    c.inverted.ensures c.in_ok-passed.ensures c.deal_pair-2.ensures

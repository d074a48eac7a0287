use Rattle.std.proofs.Common.{◌+◌, ◌*◌, arith}
use Rattle.mg_complete.specs.Completion.{Vanish, first_equations}
use Rattle.mg_complete.specs.Beginning.{PairsVanish}
use Rattle.mg_complete.proofs.Begun.{full_first, both_begun}
use Rattle.mg_complete.proofs.work.Work.begin.Goals as goal

pub returns-in-Some : goal.returns-in-Some
returns-in-Some c =
    let group = c.args.self.now.ask.group in
    full_first c.args.self.now c.deal_pairs.new.self (2 * group.generators) (first_equations group) (PairsVanish group.generators) (Vanish group) c.in_ok-passed.field-0 c.in-Some.passed c.in-Some.is
    c.in_ok-passed.ensures (omega arith)

pub deal_relators-requires : goal.deal_relators-requires
deal_relators-requires c = (c.requires.0 + 2 * c.args.self.now.ask.group.generators, c.in_ok-passed.ensures.works c.requires.0 c.requires.1)

pub returns : goal.returns
returns c =
    both_begun c.deal_relators.result c.args.self.now c.deal_pairs.new.self c.deal_relators.new.self c.in_ok-passed.field-0 c.in_default.not-Some c.in_ok-passed.ensures c.deal_relators.ensures

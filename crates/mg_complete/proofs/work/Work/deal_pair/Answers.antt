use Rattle.std.proofs.Common.{◌∷◌, [], neg_ℤ, refl, sym, subst}
use Rattle.mg_complete.specs.Beginning.{Begins, Vanishes}
use Rattle.mg_complete.proofs.Starting.{is_pair, dealt_with}
use Rattle.mg_complete.proofs.work.Work.deal_pair.Goals as goal

pub settle-requires-clause-equation : goal.settle-requires-clause-equation
settle-requires-clause-equation c = is_pair _ _ _ c.args.letter c.requires.letter c.in_ok-put_pair.ensures

pub returns : goal.returns
returns c =
    subst (λ full. Begins c.args.self.now 1 (Vanishes (c.args.letter ∷ neg_ℤ c.args.letter ∷ [])) full c.settle.new.self) (sym c.passed_by.ensures)
    (dealt_with c.args.self.now _ c.in_ok-settled.settled c.settle.new.self _ (record { ask = refl; system = refl; last = refl; spent = refl }) c.in_ok-put_pair.ensures refl c.requires.works.1.system.decrease c.in_ok-settled.ensures)

use Rattle.std.proofs.Common.{ℤ, List as ListOf, refl, ap, sym, ◌∙◌, subst}
use Rattle.std.specs.Prelude.{slice_get}
use Rattle.std.proofs.lemmas.Option.{same_Some}
use Rattle.mg_present.specs.Presentation.{Group}
use Rattle.mg_complete.specs.Beginning.{Begins, Vanishes, full_by}
use Rattle.mg_complete.proofs.Starting.{is_relator, dealt_with}
use Rattle.mg_complete.proofs.work.Work.deal_relator.Goals as goal

pub settle-requires-clause-equation : goal.settle-requires-clause-equation
settle-requires-clause-equation c =
    is_relator c.args.self.now.ask.group c.args.self.now.system.rules _ c.args.place _
    (ap (λ (g : Group). slice_get g.relators c.args.place) (sym c.group.ensures.value) ∙ c.relator-relator.ensures) c.in_ok-put_relator.ensures

pub returns : goal.returns
returns c word at =
    let same = same_Some _ word (sym (ap (λ (g : Group). slice_get g.relators c.args.place) (sym c.group.ensures.value) ∙ c.relator-relator.ensures) ∙ at) in
    subst (λ full. Begins c.args.self.now 1 (Vanishes word) full c.settle.new.self) (sym c.passed_by.ensures)
    (subst (λ (w : ListOf ℤ). Begins c.args.self.now 1 (Vanishes w) (full_by c.in_ok-settled.settled) c.settle.new.self) same
    (dealt_with c.args.self.now _ c.in_ok-settled.settled c.settle.new.self _ (record { ask = refl; system = refl; last = refl; spent = refl }) c.in_ok-put_relator.ensures refl c.requires.works.1.system.decrease c.in_ok-settled.ensures))

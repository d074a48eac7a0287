-- What a question asks is told by its plan.
use Rattle.std.proofs.Common.{◌≡◌, ◌∙◌, sym, ap, ℕ}
use Rattle.std.specs.Prelude.{Option, Some}
use Rattle.mg_present.specs.Ask.{Inquiry}
use Rattle.mg_names.specs.Plan.{Plan, PlanQuestion, plain, AskOf}

pub asks_once : (plan : Plan) (question : ℕ) (one other : Inquiry) → AskOf plan question one → AskOf plan question other → one ≡ other
asks_once plan question one other a b =
    let there : ◌≡◌ {A = Option PlanQuestion} (Some a.0) (Some b.0) = sym a.1 ∙ b.1 in
    let same : a.0 ≡ b.0 = cc there in
    let asked : plain one ≡ plain other = sym a.2 ∙ (ap (λ (q : PlanQuestion). q.asked) same ∙ b.2) in
    cc asked

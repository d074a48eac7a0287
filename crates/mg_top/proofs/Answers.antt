-- Answers that are printed are true of their questions, and don't contradict each other.
use Rattle.std.proofs.Common.{◌≡◌, ℕ, ◌↔◌, List, refl, subst}
use Rattle.std.specs.Prelude.{Option, Some, None, IfSome, slice_get}
use Rattle.mg_workers.proofs.Pairs.{all_at}
use Rattle.mg_present.specs.Ask.{Inquiry}
use Rattle.mg_present.specs.Same.{Holds}
use Rattle.mg_questions.specs.declared.question.Question.{Question}
use Rattle.mg_questions.specs.Meaning.{Meaning}
use Rattle.mg_names.specs.Plan.{Plan, PlanQuestion}
use Rattle.mg_names.proofs.Plans.{question_means}
use Rattle.mg_certs.specs.Claim.{Verdict, affirmed, refuted}
use Rattle.mg_certs.specs.Validity.{IsTrueOf}
use Rattle.mg_report.specs.Report.{QuestionBlock}
use Rattle.mg_session.specs.State.{State}
use Rattle.mg_session.specs.Output.{IsBlock}
use Rattle.mg_session.specs.StateOk.{StateOk}
use Rattle.mg_command.specs.declared.command.PolicyName.{PolicyName}
use Rattle.mg_top.specs.Command.{params_of}
use Rattle.mg_session.specs.Scripts.{IsOutput}
use Rattle.mg_session.proofs.States.{session_ok}
use Rattle.mg_session.proofs.Printed.{printed_true}
use Rattle.mg_session.specs.Printed.{Agree}
use Rattle.mg_session.proofs.Verdicts.{agree}
use Rattle.mg_top.specs.Answer.{Answers}

-- the states behind a legal output are in order
pub ok_at : (workers : ℕ) (policy : PolicyName) (script output : List ℕ) (legal : IsOutput script (params_of workers policy) output) (step : ℕ) (state : State) → slice_get legal.prints.states step ≡ Some state → StateOk legal.scope.plan workers state
ok_at workers policy script output legal step state at =
    let states = legal.prints.states in
    all_at (StateOk legal.scope.plan workers) states step state (session_ok legal.scope.plan workers (params_of workers policy) states refl legal.prints.session) at

true_in : (workers : ℕ) (plan : Plan) (state : State) (place : ℕ) (asked : PlanQuestion) (block : QuestionBlock) → StateOk plan workers state → IsBlock plan state place asked block → IfSome block.verdict (λ v. IsTrueOf block.ask v.1)
true_in workers plan state place asked block ok is_block = printed_true plan workers state ok block.ask block.verdict is_block.verdict

answered : (question : Question) (ask : Inquiry) (verdict : Verdict) → Meaning question ↔ Holds ask → IsTrueOf ask verdict → Answers question verdict
answered question ask (affirmed certificate) means holds = means.1 holds
answered question ask (refuted goal model) means fails = λ meaning. fails (means.0 meaning)

maybe_answered : (question : Question) (ask : Inquiry) (verdict : Option (ℕ × Verdict)) → Meaning question ↔ Holds ask → IfSome verdict (λ v. IsTrueOf ask v.1) → IfSome verdict (λ v. Answers question v.1)
maybe_answered question ask None means h = tt
maybe_answered question ask (Some v) means h = answered question ask v.1 means h

pub answers_question : (workers : ℕ) (policy : PolicyName) (script output : List ℕ) (legal : IsOutput script (params_of workers policy) output) (step : ℕ) (state : State) (place : ℕ) (question : Question) (asked : PlanQuestion) (block : QuestionBlock) →
    slice_get legal.prints.states step ≡ Some state → slice_get legal.scope.questions place ≡ Some question → slice_get legal.scope.plan.questions place ≡ Some asked →
    IsBlock legal.scope.plan state place asked block → IfSome block.verdict (λ v. Answers question v.1)
answers_question workers policy script output legal step state place question asked block at there asked_there is_block =
    let means = question_means script legal.resolves.script legal.scope place question block.ask legal.resolves.read legal.resolves.means there (asked, asked_there, is_block.asked) in
    maybe_answered question block.ask block.verdict means (true_in workers legal.scope.plan state place asked block (ok_at workers policy script output legal step state at) is_block)

maybe_agree : (ask : Inquiry) (v w : Option (ℕ × Verdict)) → IfSome v (λ a. IsTrueOf ask a.1) → IfSome w (λ b. IsTrueOf ask b.1) → IfSome v (λ a. IfSome w (λ b. Agree a.1 b.1))
maybe_agree ask None w h k = tt
maybe_agree ask (Some a) None h k = tt
maybe_agree ask (Some a) (Some b) h k = agree ask a.1 b.1 h k

-- verdicts on one Ask agree, also those of two outputs
pub agree_on_one : (workers many : ℕ) (plan other : Plan) (state later : State) (place : ℕ) (elsewhere : ℕ) (asked again : PlanQuestion) (block next : QuestionBlock) → StateOk plan workers state → StateOk other many later →
    IsBlock plan state place asked block → IsBlock other later elsewhere again next → block.ask ≡ next.ask → IfSome block.verdict (λ v. IfSome next.verdict (λ w. Agree v.1 w.1))
agree_on_one workers many plan other state later place elsewhere asked again block next ok ok_too is_block is_next same =
    maybe_agree next.ask block.verdict next.verdict
    (subst (λ (a : Inquiry). IfSome block.verdict (λ v. IsTrueOf a v.1)) same (true_in workers plan state place asked block ok is_block))
    (true_in many other later elsewhere again next ok_too is_next)

-- Reports carry the certificates of their verdicts.
use Rattle.std.proofs.Common.{◌≡◌, ℕ, zero, suc, ◌+◌, List, [], ◌∷◌, ◌++◌, length, take, refl, ap, subst, arith}
use Rattle.std.specs.Prelude.{Option, Some, None, IfSome, slice_get}
use Rattle.std.specs.List.{AllZip, flat_map}
use Rattle.mg_present.specs.Ask.{Inquiry}
use Rattle.mg_questions.specs.declared.question.Question.{Question}
use Rattle.mg_questions.specs.Asking.{IsAskOf}
use Rattle.mg_names.specs.Plan.{Plan, PlanQuestion, plain, report}
use Rattle.mg_names.specs.Meaning.{ask_for}
use Rattle.mg_names.specs.Within.{AsksFor}
use Rattle.mg_names.proofs.Lines.{all_read}
use Rattle.mg_names.proofs.Plans.{means_within, ask_is}
use Rattle.mg_certs.specs.Claim.{Verdict}
use Rattle.mg_certs.specs.Validity.{Accepted}
use Rattle.mg_report.specs.Report.{QuestionBlock, question_text, ask_text, found_line, search_text, block_text}
use Rattle.mg_session.specs.State.{State}
use Rattle.mg_session.specs.Output.{IsBlock, AreBlocks}
use Rattle.mg_command.specs.declared.command.PolicyName.{PolicyName}
use Rattle.mg_top.specs.Command.{params_of}
use Rattle.mg_session.specs.Scripts.{IsOutput}
use Rattle.mg_session.proofs.Printed.{carried}
use Rattle.mg_session.proofs.Verdicts.{text_at}
use Rattle.mg_top.specs.Carried.{IsCarried, Carries, IsReport}
use Rattle.mg_top.proofs.Answers.{ok_at}

taken_there : {X : Type 0} (n i : ℕ) (xs : List X) (x : X) → slice_get (take n xs) i ≡ Some x → slice_get xs i ≡ Some x
taken_there zero i xs x e = absurd cc
taken_there (suc n) i [] x e = absurd cc
taken_there (suc n) zero (y ∷ xs) x e = e
taken_there (suc n) (suc i) (y ∷ xs) x e = taken_there n i xs x e

zip_there : {X Y : Type 0} (R : X → Y → Type 0) (xs : List X) (ys : List Y) (i : ℕ) (x : X) → AllZip R xs ys → slice_get xs i ≡ Some x → (y : Y) × (slice_get ys i ≡ Some y) × R x y
zip_there R [] ys i x h e = absurd cc
zip_there R (a ∷ xs) [] i x h e = absurd h
zip_there R (a ∷ xs) (b ∷ ys) zero x h e = let same : a ≡ x = cc in (b, refl, subst (λ z. R z b) same h.0)
zip_there R (a ∷ xs) (b ∷ ys) (suc i) x h e = zip_there R xs ys i x h.1 e

blocks_count : (plan : Plan) (state : State) (place : ℕ) (questions : List PlanQuestion) (blocks : List QuestionBlock) → AreBlocks plan state place questions blocks → length blocks ≡ length questions
blocks_count plan state place [] blocks h = ap length h
blocks_count plan state place (q ∷ qs) [] h = absurd h
blocks_count plan state place (q ∷ qs) (b ∷ bs) h = ap suc (blocks_count plan state (place + 1) qs bs h.1)

block_at : (plan : Plan) (state : State) (place : ℕ) (questions : List PlanQuestion) (blocks : List QuestionBlock) (i : ℕ) (block : QuestionBlock) → AreBlocks plan state place questions blocks → slice_get blocks i ≡ Some block →
    (question : PlanQuestion) × (slice_get questions i ≡ Some question) × IsBlock plan state (place + i) question block
block_at plan state place [] [] i block h e = absurd cc
block_at plan state place [] (b ∷ bs) i block h e = absurd (cc h)
block_at plan state place (q ∷ qs) [] i block h e = absurd h
block_at plan state place (q ∷ qs) (b ∷ bs) zero block h e =
    let same : b ≡ block = cc in
    let here : place ≡ place + 0 = omega arith in
    (q, refl, subst (λ (n : ℕ). IsBlock plan state n q block) here (subst (IsBlock plan state place q) same h.0))
block_at plan state place (q ∷ qs) (b ∷ bs) (suc i) block h e =
    let rest = block_at plan state (place + 1) qs bs i block h.1 e in
    let here : place + 1 + i ≡ place + suc i = omega arith in
    (rest.0, rest.1, subst (λ (n : ℕ). IsBlock plan state n rest.0 block) here rest.2)

-- what stands behind the goals
is_carried : (names : List (List ℕ)) (ask : Inquiry) (found : Option (ℕ × Verdict)) → IfSome found (λ v. Accepted ask v.1) → IsCarried names ask found (found_line names found)
unfolding found_line
is_carried names ask None h = refl
is_carried names ask (Some v) h = (refl, h)

written : (block : QuestionBlock) → block_text block ≡ question_text block.name block.verdict ++ ask_text block.names block.ask ++ found_line block.names block.verdict ++ flat_map search_text block.searches
unfolding block_text
written block = refl

module _ (workers : ℕ) (policy : PolicyName) (script output : List ℕ) (legal : IsOutput script (params_of workers policy) output) (step : ℕ) (state : State) (at : slice_get legal.prints.states step ≡ Some state) where
  asked_there : (place : ℕ) (question : PlanQuestion) (ask : Inquiry) → slice_get legal.scope.plan.questions place ≡ Some question → question.asked ≡ plain ask →
      (asked : Question) × (slice_get legal.scope.questions place ≡ Some asked) × IsAskOf asked ask
  asked_there place question ask there is =
      let within = means_within legal.resolves.script legal.scope (all_read script legal.resolves.script legal.resolves.read) legal.resolves.means in
      let z = zip_there (AsksFor legal.scope.plan) legal.scope.plan.questions legal.scope.questions place question within.questions there in
      let asks = z.2.asked in
      let same : ask_for z.0 ≡ ask = cc in
      (z.0, z.1, subst (IsAskOf z.0) same (ask_is z.0))

  block_carries : (place : ℕ) (question : PlanQuestion) (block : QuestionBlock) → slice_get legal.scope.plan.questions place ≡ Some question → IsBlock legal.scope.plan state place question block → Carries legal.scope place block
  block_carries place question block there is_block =
      let asked = asked_there place question block.ask there is_block.asked in
      record {
        question = asked.0;
        there = asked.1;
        asked = asked.2;
        behind = found_line block.names block.verdict;
        carried = is_carried block.names block.ask block.verdict (carried legal.scope.plan workers state (ok_at workers policy script output legal step state at) block.ask block.verdict is_block.verdict);
        text = written block;
      }

  pub report_carries : (questions : ℕ) (text : List ℕ) → slice_get legal.scope.plan.steps step ≡ Some (report questions) → slice_get legal.prints.texts step ≡ Some text → IsReport legal.scope state questions text
  report_carries questions text at_step at_text =
      let plan = legal.scope.plan in
      let printed = (text_at plan (params_of workers policy) [] plan.steps legal.prints.states legal.prints.texts step (report questions) state text legal.prints.texts_are at_step at at_text).2 in
      let blocks = printed.1 in
      record {
        blocks = blocks;
        count = blocks_count plan state 0 (take questions plan.questions) blocks printed.2;
        each = λ place block there.
            let found = block_at plan state 0 (take questions plan.questions) blocks place block printed.2 there in
            let here : 0 + place ≡ place = omega arith in
            block_carries place found.0 block (taken_there questions place plan.questions found.0 found.1) (subst (λ (n : ℕ). IsBlock plan state n found.0 block) here found.2);
        text_is = printed.3;
      }

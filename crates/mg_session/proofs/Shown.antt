-- What a report says of questions and of their searches.
use Rattle.std.proofs.Common.{◌≡◌, ◌≢◌, ℕ, zero, suc, ◌+◌, ◌&&◌, ◌==◌, Bool, true, false, cond, List, [], ◌∷◌, ◌++◌, map, take, drop, refl, ap, sym, ◌∙◌, subst, append_assoc, append-nil, arith, add-one}
use Rattle.std.specs.Prelude.{Some, slice_get, filter}
use Rattle.std.proofs.lemmas.Bool.Decides.{nat_tests}
use Rattle.std.proofs.lemmas.List.{map-append}
use Rattle.mg_names.specs.Plan.{Plan, PlanQuestion}
use Rattle.mg_search.specs.Search.{procedure_of}
use Rattle.mg_report.specs.Report.{SearchLine, QuestionBlock}
use Rattle.mg_report.specs.Values.{search_of, block_of}
use Rattle.mg_report.specs.declared.blocks.SearchLine.{SearchLine as Line}
use Rattle.mg_report.specs.declared.blocks.QuestionBlock.{QuestionBlock as Block}
use Rattle.mg_session.specs.State.{State, SearchState}
use Rattle.mg_session.specs.Output.{procedure_place, line_of, IsBlock, AreBlocks}
use Rattle.mg_session.specs.Lookups.{ReadsAt}
use Rattle.mg_session.proofs.Looked.{drop_at}

-- one question more
blocks_more : (plan : Plan) (state : State) (n m : ℕ) (questions : List PlanQuestion) (i : ℕ) (question : PlanQuestion) (blocks : List QuestionBlock) (block : QuestionBlock) → m ≡ n + i → slice_get questions i ≡ Some question → AreBlocks plan state n (take i questions) blocks → IsBlock plan state m question block → AreBlocks plan state n (take (suc i) questions) (blocks ++ block ∷ [])
blocks_more plan state n m [] i question blocks block number there are is = absurd (cc there)
blocks_more plan state n m (q ∷ questions) zero question [] block number there are is =
    let same : q ≡ question = cc there in
    let first : m ≡ n = omega arith in (subst (λ (p : ℕ). IsBlock plan state p q block) first (subst (λ (p : PlanQuestion). IsBlock plan state m p block) (sym same) is), refl)
blocks_more plan state n m (q ∷ questions) zero question (b ∷ blocks) block number there are is = absurd (cc are)
blocks_more plan state n m (q ∷ questions) (suc i) question [] block number there are is = absurd are
blocks_more plan state n m (q ∷ questions) (suc i) question (b ∷ blocks) block number there are is =
    (are.0, blocks_more plan state (n + 1) m questions i question blocks block (omega arith) there are.1 is)

pub blocks_next : (plan : Plan) (state : State) (questions : List PlanQuestion) (i : ℕ) (question : PlanQuestion) (blocks : List QuestionBlock) (block : QuestionBlock) → slice_get questions i ≡ Some question → AreBlocks plan state 0 (take i questions) blocks → IsBlock plan state i question block → AreBlocks plan state 0 (take (i + 1) questions) (blocks ++ block ∷ [])
blocks_next plan state questions i question blocks block there are is = rw add-one (blocks_more plan state 0 i questions i question blocks block (omega arith) there are is)

pub blocks_pushed : (plan : Plan) (state : State) (questions : List PlanQuestion) (i : ℕ) (blocks new : List Block) (block : Block) → new ≡ blocks ++ block ∷ [] → AreBlocks plan state 0 (take i questions) (map block_of blocks) →
    (question : PlanQuestion) × (slice_get questions i ≡ Some question) × IsBlock plan state i question (block_of block) → AreBlocks plan state 0 (take (i + 1) questions) (map block_of new)
blocks_pushed plan state questions i blocks new block pushed are is =
    let all : map block_of new ≡ map block_of blocks ++ block_of block ∷ [] = ap (map block_of) pushed ∙ map-append block_of blocks (block ∷ []) in
    subst (AreBlocks plan state 0 (take (i + 1) questions)) (sym all) (blocks_next plan state questions i is.0 (map block_of blocks) (block_of block) is.1 are is.2)

-- the searches of a question, from a place on
abbrev pub own_from : ℕ → List SearchState → ℕ → List SearchLine
own_from question xs i = map line_of (filter (λ search. search.question == question) (drop i xs))

pub own_taken : (question : ℕ) (xs : List SearchState) (i : ℕ) (x : SearchState) (lines : List SearchLine) → slice_get xs i ≡ Some x → x.question ≡ question → (lines ++ line_of x ∷ []) ++ own_from question xs (i + 1) ≡ lines ++ own_from question xs i
own_taken question xs i x lines there same =
    let own : (x.question == question) ≡ true = grind (arith, nat_tests, same) in
    let rest : own_from question xs i ≡ line_of x ∷ own_from question xs (i + 1) =
    ap (λ (ys : List SearchState). map line_of (filter (λ search. search.question == question) ys)) (drop_at xs i x there)
    ∙ ap (λ b. map line_of (cond b (x ∷ filter (λ search. search.question == question) (drop (i + 1) xs)) (filter (λ search. search.question == question) (drop (i + 1) xs)))) own in
    append_assoc lines (line_of x ∷ []) (own_from question xs (i + 1)) ∙ ap (λ ys. lines ++ ys) (sym rest)

pub own_passed : (question : ℕ) (xs : List SearchState) (i : ℕ) (x : SearchState) → slice_get xs i ≡ Some x → (x.question == question) ≡ false → own_from question xs (i + 1) ≡ own_from question xs i
own_passed question xs i x there other =
    sym (ap (λ (ys : List SearchState). map line_of (filter (λ search. search.question == question) ys)) (drop_at xs i x there)
    ∙ ap (λ b. map line_of (cond b (x ∷ filter (λ search. search.question == question) (drop (i + 1) xs)) (filter (λ search. search.question == question) (drop (i + 1) xs)))) other)

-- the line of one search more, which is the question's
pub own_pushed : (question number : ℕ) (state : State) (i : ℕ) (lines new : List Line) (line : Line) → new ≡ lines ++ line ∷ [] → number ≡ question → ReadsAt (λ search. search.question) state i number → ReadsAt line_of state i (search_of line) →
    map search_of new ++ own_from question state.searches (i + 1) ≡ map search_of lines ++ own_from question state.searches i
own_pushed question number state i lines new line pushed same asked shown =
    let xs = state.searches in
    let x = asked.search in
    let one : x ≡ shown.search = (let a = asked.there in let b = shown.there in cc) in
    let own : x.question ≡ question = sym asked.value_is ∙ same in
    let last : search_of line ≡ line_of x = shown.value_is ∙ ap line_of (sym one) in
    ap (λ ys. map search_of ys ++ own_from question xs (i + 1)) pushed ∙ ap (λ ys. ys ++ own_from question xs (i + 1)) (map-append search_of lines (line ∷ []))
    ∙ ap (λ y. (map search_of lines ++ y ∷ []) ++ own_from question xs (i + 1)) last ∙ own_taken question xs i x (map search_of lines) asked.there own

pub own_left : (question number : ℕ) (state : State) (i : ℕ) (lines new : List Line) → new ≡ lines → number ≢ question → ReadsAt (λ search. search.question) state i number →
    map search_of new ++ own_from question state.searches (i + 1) ≡ map search_of lines ++ own_from question state.searches i
own_left question number state i lines new same other asked =
    let x = asked.search in
    let foreign : x.question ≢ question = (λ e. other (asked.value_is ∙ e)) in
    let unequal : (x.question == question) ≡ false = grind (arith, nat_tests, foreign) in
    ap (λ ys. map search_of ys ++ own_from question state.searches (i + 1)) same ∙ ap (λ ys. map search_of lines ++ ys) (own_passed question state.searches i x asked.there unequal)

-- a line is of the procedure
abbrev pub by_place : ℕ → SearchLine → Bool
by_place place line = procedure_place line.procedure == place

by_first : (b c : Bool) (place : ℕ) (x : SearchState) (own both : List SearchState) → by_place place (line_of x) ≡ c → filter (by_place place) (map line_of own) ≡ map line_of both → filter (by_place place) (map line_of (cond b (x ∷ own) own)) ≡ map line_of (cond (b && c) (x ∷ both) both)
by_first false c place x own both is h = h
by_first true true place x own both is h = ap (λ d. cond d (line_of x ∷ filter (by_place place) (map line_of own)) (filter (by_place place) (map line_of own))) is ∙ ap (λ lines. line_of x ∷ lines) h
by_first true false place x own both is h = ap (λ d. cond d (line_of x ∷ filter (by_place place) (map line_of own)) (filter (by_place place) (map line_of own))) is ∙ h

-- the lines of a question's searches by one procedure
abbrev pub lines_at : ℕ → List SearchState → ℕ → List SearchLine
lines_at question xs place = map line_of (filter (λ search. (search.question == question) && (procedure_place (procedure_of search.search) == place)) xs)

pub own_by : (question place : ℕ) (xs : List SearchState) → filter (by_place place) (map line_of (filter (λ search. search.question == question) xs)) ≡ lines_at question xs place
own_by question place [] = refl
own_by question place (x ∷ xs) =
    by_first (x.question == question) (by_place place (line_of x)) place x (filter (λ search. search.question == question) xs)
    (filter (λ search. (search.question == question) && (procedure_place (procedure_of search.search) == place)) xs) refl (own_by question place xs)

-- what is pushed for a procedure
pub pushed_by : (question place : ℕ) (xs : List SearchState) (own lent : List Line) (old new : List SearchLine) → lent ≡ own → map search_of own ≡ map line_of (filter (λ search. search.question == question) xs) → new ≡ old ++ filter (by_place place) (map search_of lent) → new ≡ old ++ lines_at question xs place
pushed_by question place xs own lent old new same are pushed =
    pushed ∙ ap (λ ys. old ++ filter (by_place place) ys) (ap (map search_of) same ∙ are) ∙ ap (λ ys. old ++ ys) (own_by question place xs)

-- what is pushed for one procedure after another are the lines of the question
in_order : (f : ℕ → List SearchLine) → ((((((([] ++ f 0) ++ f 1) ++ f 2) ++ f 3) ++ f 4) ++ f 5) ++ f 6) ≡ f 0 ++ (f 1 ++ (f 2 ++ (f 3 ++ (f 4 ++ (f 5 ++ (f 6 ++ []))))))
in_order f = simp (append_assoc, append-nil)

pub joined : (f : ℕ → List SearchLine) (a b c d e g h : List SearchLine) → a ≡ [] ++ f 0 → b ≡ a ++ f 1 → c ≡ b ++ f 2 → d ≡ c ++ f 3 → e ≡ d ++ f 4 → g ≡ e ++ f 5 → h ≡ g ++ f 6 → h ≡ f 0 ++ (f 1 ++ (f 2 ++ (f 3 ++ (f 4 ++ (f 5 ++ (f 6 ++ []))))))
joined f a b c d e g h at_a at_b at_c at_d at_e at_g at_h =
    at_h ∙ ap (λ ys. ys ++ f 6) (at_g ∙ ap (λ ys. ys ++ f 5) (at_e ∙ ap (λ ys. ys ++ f 4) (at_d ∙ ap (λ ys. ys ++ f 3) (at_c ∙ ap (λ ys. ys ++ f 2) (at_b ∙ ap (λ ys. ys ++ f 1) at_a))))) ∙ in_order f

-- What is printed of entries and of sums.
use Rattle.std.proofs.Common.{◌≡◌, ℕ, ◌+◌, ◌<◌, true, List, [], ◌∷◌, ◌++◌, length, map, take, refl, ap, sym, ◌∙◌, subst, append_assoc, arith}
use Rattle.std.specs.Prelude.{Some, slice_get}
use Rattle.std.specs.List.{AllByRecursion}
use Rattle.std.proofs.lemmas.List.{map-append}
use Rattle.std.proofs.lemmas.Option.{slice_get_within}
use Rattle.mg_core.specs.declared.entries.Entry.{Entry}
use Rattle.mg_core.specs.Log.{Settled, LegalFrom}
use Rattle.mg_workers.specs.Rows.{EachPair, units_of}
use Rattle.mg_workers.proofs.Pairs.{all_at}
use Rattle.mg_present.specs.Ask.{Inquiry}
use Rattle.mg_names.specs.Plan.{Plan, PlanQuestion}
use Rattle.mg_certs.specs.Claim.{Fact}
use Rattle.mg_certs.specs.Validity.{IsValid, key_of}
use Rattle.mg_report.specs.Report.{SearchLine}
use Rattle.mg_report.specs.Values.{search_of}
use Rattle.mg_report.specs.declared.blocks.SearchLine.{SearchLine as Line}
use Rattle.mg_session.specs.State.{State, SearchState, asks, row_taken}
use Rattle.mg_session.specs.Output.{line_of, IsSumLine}
use Rattle.mg_session.specs.StateOk.{IsAsked, StandsBeside, StateOk}
use Rattle.mg_session.specs.Lookups.{ReadsAt, IsTooLate, HasCause}
use Rattle.mg_session.proofs.Firsts.{pairs_more}
use Rattle.mg_session.proofs.Looked.{IsSearchOf, search_of_entry}
use Rattle.mg_session.proofs.Settling.{settled_grows}

-- a printed value more, of the member at a place
pub pairs_pushed : {X V Y : Type 0} (R : X → Y → Type 0) (f : V → Y) (xs : List X) (i : ℕ) (x : X) (vs new : List V) (v : V) → new ≡ vs ++ v ∷ [] → slice_get xs i ≡ Some x → EachPair R (take i xs) (map f vs) → R x (f v) → EachPair R (take (i + 1) xs) (map f new)
pairs_pushed R f xs i x vs new v pushed there each is =
    let all : map f new ≡ map f vs ++ f v ∷ [] = ap (map f) pushed ∙ map-append f vs (v ∷ []) in
    subst (EachPair R (take (i + 1) xs)) (sym all) (pairs_more R xs (map f vs) i x (f v) there is each)

-- one pair more behind those that there are
pairs_behind : {X Y : Type 0} (R : X → Y → Type 0) (xs : List X) (x : X) (ys : List Y) (y : Y) → EachPair R xs ys → R x y → EachPair R (xs ++ x ∷ []) (ys ++ y ∷ [])
pairs_behind R [] x [] y each is = (is, tt)
pairs_behind R [] x (v ∷ ys) y each is = absurd each
pairs_behind R (w ∷ xs) x [] y each is = absurd each
pairs_behind R (w ∷ xs) x (v ∷ ys) y each is = (each.0, pairs_behind R xs x ys y each.1 is)

-- a printed value more
pub pairs_printed : {X V Y : Type 0} (R : X → Y → Type 0) (f : V → Y) (xs : List X) (x : X) (vs new : List V) (v : V) → new ≡ vs ++ v ∷ [] → EachPair R xs (map f vs) → R x (f v) → EachPair R (xs ++ x ∷ []) (map f new)
pairs_printed R f xs x vs new v pushed each is =
    let all : map f new ≡ map f vs ++ f v ∷ [] = ap (map f) pushed ∙ map-append f vs (v ∷ []) in
    subst (EachPair R (xs ++ x ∷ [])) (sym all) (pairs_behind R xs x (map f vs) (f v) each is)

-- what holds of each holds of one in the middle
pub all_middle : {X : Type 0} (P : X → Type 0) (xs : List X) (x : X) (ys : List X) → AllByRecursion P (xs ++ x ∷ ys) → P x
all_middle P [] x ys each = each.0
all_middle P (w ∷ xs) x ys each = all_middle P xs x ys each.1

too_late : (state : State) (entry : Entry Fact) (key : Inquiry) → asks state.searches entry ≡ Some key → IsSearchOf 1 state.searches entry key → Settled key_of state.log key → IsTooLate state entry
too_late state entry key asked search settled =
    let number = search.number in
    record {
      place = search.place;
      number = omega arith;
      search = search.search;
      there = search.there;
      asked = asked ∙ ap (λ (k : Inquiry). Some k) search.ask_is;
      settled = subst (Settled key_of state.log) search.ask_is settled;
    }

-- the entries of a legal log from a place on
causes_from : (state : State) (before log : List (Entry Fact)) → ((entry : Entry Fact) (key : Inquiry) → asks state.searches entry ≡ Some key → IsSearchOf 1 state.searches entry key) → before ++ log ≡ state.log → LegalFrom IsValid key_of (asks state.searches) before log → AllByRecursion (HasCause state) log
causes_from state before [] search whole legal = tt
causes_from state before (entry ∷ log) search whole legal =
    let key = legal.0.key in
    let asked = legal.0.of_search in (
      λ dropped. too_late state entry key asked (search entry key asked) (subst (λ (l : List (Entry Fact)). Settled key_of l key) whole (settled_grows key_of before (entry ∷ log) key (legal.0.dropped.0 dropped))),
      causes_from state (before ++ entry ∷ []) log search (append_assoc before (entry ∷ []) log ∙ whole) legal.1,
    )

-- each entry of a state that was dropped has a cause
pub causes : (plan : Plan) (workers : ℕ) (state : State) → StateOk plan workers state → AllByRecursion (HasCause state) state.log
causes plan workers state ok = causes_from state [] state.log (λ entry key asked. search_of_entry 1 state.searches entry key ok.numbered asked) refl ok.legal

-- the question of the search at a place is there
pub question_within : (plan : Plan) (workers : ℕ) (state : State) (i question : ℕ) → StateOk plan workers state → ReadsAt (λ search. search.question) state i question → question < length plan.questions
question_within plan workers state i question ok asked =
    let is = (all_at (IsAsked plan) state.searches i asked.search ok.asked asked.there).asked in
    let within = slice_get_within plan.questions asked.search.question is.0 is.1 in
    let same = asked.value_is in omega arith

-- what is read of the search at a place is its sum
pub sum_is_so : (plan : Plan) (workers : ℕ) (state : State) (i question number : ℕ) (line : Line) (name : List ℕ) → StateOk plan workers state → ReadsAt (λ search. search.question) state i question → ReadsAt (λ search. search.number) state i number → ReadsAt line_of state i (search_of line) →
    (asked : PlanQuestion) × (slice_get plan.questions question ≡ Some asked) × (name ≡ asked.name) →
    (search : SearchState) × (slice_get state.searches i ≡ Some search) × IsSumLine plan state search (record { search = number; name = name; procedure = line.procedure; units = line.account.spent })
sum_is_so plan workers state i question number line name ok at_question at_number at_line asked =
    let x = at_question.search in
    let one : at_number.search ≡ x = (let a = at_number.there in let b = at_question.there in cc) in
    let other : at_line.search ≡ x = (let a = at_line.there in let b = at_question.there in cc) in
    let number_is : number ≡ x.number = at_number.value_is ∙ ap (λ (s : SearchState). s.number) one in
    let line_is : search_of line ≡ line_of x = at_line.value_is ∙ ap line_of other in
    let units : x.account.spent ≡ units_of x.number state.log = sym (all_at (λ (search : SearchState). StandsBeside state.log (row_taken true search)) state.searches i x ok.stand at_question.there).counted in (
      x,
      at_question.there,
      record {
        question = asked.0;
        question_there = subst (λ n. slice_get plan.questions n ≡ Some asked.0) at_question.value_is asked.1;
        sum_is = (λ j. record { search = number_is j; name = asked.2 j; procedure = (line_is j).procedure; units = (ap (λ (l : SearchLine). l.account.spent) line_is ∙ units) j });
      },
    )

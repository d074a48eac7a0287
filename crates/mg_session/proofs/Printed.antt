-- What is printed of a state in order.
use Rattle.std.proofs.Common.{◌≡◌, ℕ, suc, ◌+◌, ◌-◌, ◌&&◌, ◌==◌, Bool, true, false, cond, List, [], ◌∷◌, ◌++◌, length, map, refl, ap, sym, subst, arith}
use Rattle.std.specs.Prelude.{Option, Some, None, IfSome, Contains, filter}
use Rattle.std.specs.List.{AllByRecursion, flat_map}
use Rattle.std.proofs.lemmas.List.Elements.{Contains-append_left, Contains-append_right}
use Rattle.std.proofs.lemmas.Bool.Decides.{nat_tests}
use Rattle.mg_core.specs.declared.entries.Entry.{Entry}
use Rattle.mg_core.specs.Log.{facts_of, VerdictIn, LegalFrom}
use Rattle.mg_ledger.specs.Accounts.{Balanced}
use Rattle.mg_words.specs.declared.procedure.Procedure.{Procedure}
use Rattle.mg_words.specs.declared.procedure.Procedure.TheVariants.{Derive, Act, Residue, Rewrite, Cosets, Nielsen, Recall}
use Rattle.mg_workers.proofs.Pairs.{all_at}
use Rattle.mg_present.specs.Ask.{Inquiry}
use Rattle.mg_names.specs.Plan.{Plan, Step}
use Rattle.mg_certs.specs.Claim.{Verdict, Fact, settled}
use Rattle.mg_certs.specs.Validity.{IsValid, Accepted, IsTrueOf, key_of}
use Rattle.mg_certs.proofs.Truth.{accepted_is_true}
use Rattle.mg_search.specs.Search.{procedure_of}
use Rattle.mg_report.specs.Report.{SearchLine}
use Rattle.mg_session.specs.State.{State, SearchState, Params, asks}
use Rattle.mg_session.specs.Session.{IsThere, Continues, Session}
use Rattle.mg_session.specs.Output.{IsVerdict, procedure_place, line_of, lines_of}
use Rattle.mg_session.specs.StateOk.{StateOk}
use Rattle.mg_session.proofs.Lists.{all-append}
use Rattle.mg_session.proofs.Ledger.{AreBalanced}

-- the facts of a legal log are valid
entry_valid : (dropped : Bool) (records rest : List Fact) → AllByRecursion IsValid records → AllByRecursion IsValid rest → AllByRecursion IsValid (cond dropped rest (records ++ rest))
entry_valid true records rest h g = g
entry_valid false records rest h g = all-append IsValid records rest h g

legal_valid : (asked : Entry Fact → Option Inquiry) (before log : List (Entry Fact)) → LegalFrom IsValid key_of asked before log → AllByRecursion IsValid (facts_of log)
legal_valid asked before [] h = tt
legal_valid asked before (entry ∷ log) h = entry_valid entry.dropped entry.records (facts_of log) h.0.each_valid (legal_valid asked (before ++ entry ∷ []) log h.1)

module _ (plan : Plan) (workers : ℕ) (state : State) (ok : StateOk plan workers state) where
  pub facts_valid : AllByRecursion IsValid (facts_of state.log)
  facts_valid = legal_valid (asks state.searches) [] state.log ok.legal

  -- the certificate of a verdict is accepted
  pub verdict_accepted : (ask : Inquiry) (n : ℕ) (verdict : Verdict) → VerdictIn key_of state.log ask n (settled ask verdict) → Accepted ask verdict
  verdict_accepted ask n verdict v = all_at IsValid (facts_of state.log) (n - 1) (settled ask verdict) facts_valid v.fact.there

  pub carried : (ask : Inquiry) (verdict : Option (ℕ × Verdict)) → IsVerdict state ask verdict → IfSome verdict (λ v. Accepted ask v.1)
  carried ask None h = tt
  carried ask (Some v) h = verdict_accepted ask v.0 v.1 h

  pub printed_true : (ask : Inquiry) (verdict : Option (ℕ × Verdict)) → IsVerdict state ask verdict → IfSome verdict (λ v. IsTrueOf ask v.1)
  printed_true ask None h = tt
  printed_true ask (Some v) h = accepted_is_true ask v.1 (verdict_accepted ask v.0 v.1 h)

abbrev BalancedLine : SearchLine → Type 0
BalancedLine line = Balanced line.account

with_first : (b : Bool) (x : SearchState) (rest : List SearchState) → Balanced x.account → AllByRecursion BalancedLine (map line_of rest) → AllByRecursion BalancedLine (map line_of (cond b (x ∷ rest) rest))
with_first true x rest h g = (h, g)
with_first false x rest h g = g

picked_balanced : (p : SearchState → Bool) (xs : List SearchState) → AreBalanced xs → AllByRecursion BalancedLine (map line_of (filter p xs))
picked_balanced p [] h = tt
picked_balanced p (x ∷ xs) h = with_first (p x) x (filter p xs) h.0 (picked_balanced p xs h.1)

flat_balanced : (f : ℕ → List SearchLine) (places : List ℕ) → ((n : ℕ) → AllByRecursion BalancedLine (f n)) → AllByRecursion BalancedLine (flat_map f places)
flat_balanced f [] h = tt
flat_balanced f (n ∷ places) h = all-append BalancedLine (f n) (flat_map f places) (h n) (flat_balanced f places h)

-- the units of each printed search balance
pub lines_balanced : (question : ℕ) (xs : List SearchState) → AreBalanced xs → AllByRecursion BalancedLine (lines_of question xs)
lines_balanced question xs h =
    flat_balanced (λ place. map line_of (filter (λ search. (search.question == question) && (procedure_place (procedure_of search.search) == place)) xs))
    (0 ∷ 1 ∷ 2 ∷ 3 ∷ 4 ∷ 5 ∷ 6 ∷ []) (λ place. picked_balanced (λ search. (search.question == question) && (procedure_place (procedure_of search.search) == place)) xs h)

contains_later : {X : Type 0} (y x : X) (xs : List X) → Contains xs x → Contains (y ∷ xs) x
contains_later y x xs h = Contains-append_right (y ∷ []) xs x h

contains_first : {X : Type 0} (x : X) (xs : List X) → Contains (x ∷ xs) x
contains_first x xs = (0, omega arith, refl)

may_come_first : (b : Bool) (y : SearchState) (rest : List SearchState) (line : SearchLine) → Contains (map line_of rest) line → Contains (map line_of (cond b (y ∷ rest) rest)) line
may_come_first true y rest line h = contains_later (line_of y) line (map line_of rest) h
may_come_first false y rest line h = h

picked : (p : SearchState → Bool) (before after : List SearchState) (x : SearchState) → p x ≡ true → Contains (map line_of (filter p (before ++ x ∷ after))) (line_of x)
picked p [] after x e = subst (λ b. Contains (map line_of (cond b (x ∷ filter p after) (filter p after))) (line_of x)) (sym e) (contains_first (line_of x) (map line_of (filter p after)))
picked p (y ∷ before) after x e = may_come_first (p y) y (filter p (before ++ x ∷ after)) (line_of x) (picked p before after x e)

in_flat : (f : ℕ → List SearchLine) (before after : List ℕ) (place : ℕ) (line : SearchLine) → Contains (f place) line → Contains (flat_map f (before ++ place ∷ after)) line
in_flat f [] after place line h = Contains-append_left (f place) (flat_map f after) line h
in_flat f (b ∷ before) after place line h = Contains-append_right (f b) (flat_map f (before ++ place ∷ after)) line (in_flat f before after place line h)

at_place : (f : ℕ → List SearchLine) (procedure : Procedure) (line : SearchLine) → Contains (f (procedure_place procedure)) line → Contains (flat_map f (0 ∷ 1 ∷ 2 ∷ 3 ∷ 4 ∷ 5 ∷ 6 ∷ [])) line
at_place f Derive line h = in_flat f [] (1 ∷ 2 ∷ 3 ∷ 4 ∷ 5 ∷ 6 ∷ []) 0 line h
at_place f Act line h = in_flat f (0 ∷ []) (2 ∷ 3 ∷ 4 ∷ 5 ∷ 6 ∷ []) 1 line h
at_place f Residue line h = in_flat f (0 ∷ 1 ∷ []) (3 ∷ 4 ∷ 5 ∷ 6 ∷ []) 2 line h
at_place f Rewrite line h = in_flat f (0 ∷ 1 ∷ 2 ∷ []) (4 ∷ 5 ∷ 6 ∷ []) 3 line h
at_place f Cosets line h = in_flat f (0 ∷ 1 ∷ 2 ∷ 3 ∷ []) (5 ∷ 6 ∷ []) 4 line h
at_place f Nielsen line h = in_flat f (0 ∷ 1 ∷ 2 ∷ 3 ∷ 4 ∷ []) (6 ∷ []) 5 line h
at_place f Recall line h = in_flat f (0 ∷ 1 ∷ 2 ∷ 3 ∷ 4 ∷ 5 ∷ []) [] 6 line h

-- each search of a question has its line
pub line_there : (state : State) (question : ℕ) (procedure : Procedure) (before : List SearchState) (x : SearchState) (after : List SearchState) → IsThere state question procedure before x after → Contains (lines_of question state.searches) (line_of x)
line_there state question procedure before x after there =
    let own_question : (x.question == question) ≡ true = (let e = there.is_of.of_question in grind (arith, nat_tests, e)) in
    let own_place : (procedure_place (procedure_of x.search) == procedure_place (procedure_of x.search)) ≡ true = grind (arith, nat_tests) in
    let picks : ((x.question == question) && (procedure_place (procedure_of x.search) == procedure_place (procedure_of x.search))) ≡ true = (λ i. own_question i && own_place i) in
    at_place (λ place. map line_of (filter (λ search. (search.question == question) && (procedure_place (procedure_of search.search) == place)) state.searches)) (procedure_of x.search) (line_of x)
    (subst (λ (xs : List SearchState). Contains (map line_of (filter (λ search. (search.question == question) && (procedure_place (procedure_of search.search) == procedure_place (procedure_of x.search))) xs)) (line_of x)) (sym there.place)
    (picked (λ search. (search.question == question) && (procedure_place (procedure_of search.search) == procedure_place (procedure_of x.search))) before after x picks))

-- a session has a state before each step and one behind the last
continues_length : (plan : Plan) (params : Params) (state : State) (steps : List Step) (later : List State) → Continues plan params state steps later → length later ≡ length steps
continues_length plan params state [] [] h = refl
continues_length plan params state [] (next ∷ later) h = absurd (cc h)
continues_length plan params state (step ∷ steps) [] h = absurd h
continues_length plan params state (step ∷ steps) (next ∷ later) h = ap suc (continues_length plan params next steps later h.1)

pub session_length : (plan : Plan) (params : Params) (states : List State) → Session plan params states → length states ≡ length plan.steps + 1
session_length plan params [] h = absurd h
session_length plan params (state ∷ later) h = let rest = continues_length plan params state plan.steps later h.1 in omega arith

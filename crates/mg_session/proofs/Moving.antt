-- Steps that move units of one search.
use Rattle.std.proofs.Common.{◌≡◌, ℕ, zero, suc, ◌+◌, ◌-◌, List, [], ◌∷◌, ◌++◌, length, set, refl, ap, ◌∙◌, subst, arith}
use Rattle.std.specs.Prelude.{Some, Result, Ok, Err, OnOk, IfOk, slice_get}
use Rattle.mg_words.specs.declared.procedure.Procedure.{Procedure}
use Rattle.mg_workers.proofs.Pairs.{all_at}
use Rattle.mg_present.specs.Ask.{Inquiry}
use Rattle.mg_names.specs.Plan.{Plan, AskOf}
use Rattle.mg_search.specs.Search.{Search, Opens}
use Rattle.mg_session.specs.State.{State, SearchState, IsOf}
use Rattle.mg_session.specs.Session.{IsAbsent, granted, new_search, cancelled, Grants, to_one_there, to_a_new_one, Cancels, gives_back}
use Rattle.mg_session.specs.At.{IsSearchAt, Replaces, with_new, IsReady, was_there, is_new}

-- a list is parted at a place
record PartedAt (xs : List SearchState) (i : ℕ) (x : SearchState) : Type 0 where
  before : List SearchState
  after : List SearchState
  parted : xs ≡ before ++ x ∷ after
  with : (y : SearchState) → set xs i y ≡ before ++ y ∷ after

parted_at : (xs : List SearchState) (i : ℕ) (x : SearchState) → slice_get xs i ≡ Some x → PartedAt xs i x
parted_at [] i x e = absurd (cc)
parted_at (y ∷ xs) zero x e = let same : y ≡ x = cc in record { before = []; after = xs; parted = ap (λ v. v ∷ xs) same; with = λ z. refl }
parted_at (y ∷ xs) (suc i) x e =
    let rest = parted_at xs i x e in
    record { before = y ∷ rest.before; after = rest.after; parted = ap (λ vs. y ∷ vs) rest.parted; with = λ z. ap (λ vs. y ∷ vs) (rest.with z) }

pub not_absent : (state : State) (question : ℕ) (procedure : Procedure) (place : ℕ) → IsSearchAt state question procedure place → IsAbsent state question procedure → ⊥
not_absent state question procedure place at absent = all_at (λ (search : SearchState). IsOf question procedure search → ⊥) state.searches place at.search absent at.there at.is_of

pub cancels : (old new : State) (question : ℕ) (procedure : Procedure) (place : ℕ) → IsSearchAt old question procedure place →
    ((x : SearchState) → slice_get old.searches place ≡ Some x → Replaces old place (old.purse + x.account.held) (cancelled x) new) → Cancels question procedure old new
cancels old new question procedure place at gives =
    let x = at.search in
    let parted = parted_at old.searches place x at.there in
    gives_back parted.before parted.after x (record { place = parted.parted; is_of = at.is_of })
    ((gives x at.there).after_is ∙ ap (λ xs. record old { purse = old.purse + x.account.held; searches = xs }) (parted.with (cancelled x)))

last_there : (xs : List SearchState) (x : SearchState) → slice_get (xs ++ x ∷ []) (length xs) ≡ Some x
last_there [] x = refl
last_there (y ∷ xs) x = last_there xs x

last_set : (xs : List SearchState) (x y : SearchState) → set (xs ++ x ∷ []) (length xs) y ≡ xs ++ y ∷ []
last_set [] x y = refl
last_set (z ∷ xs) x y = ap (λ vs. z ∷ vs) (last_set xs x y)

module _ (plan : Plan) (question : ℕ) (procedure : Procedure) (units : ℕ) where
  pub grants : (old mid new : State) (place : ℕ) → IsReady plan question procedure old place mid →
      ((x : SearchState) → slice_get mid.searches place ≡ Some x → Replaces mid place (mid.purse - units) (granted units x) new) → Grants plan question procedure units old new
  grants old mid new place (was_there at same) gives =
      let x = at.search in
      let parted = parted_at old.searches place x at.there in
      let moved = subst (λ (s : State). (y : SearchState) → slice_get s.searches place ≡ Some y → Replaces s place (s.purse - units) (granted units y) new) same gives in
      to_one_there parted.before parted.after x (record { place = parted.parted; is_of = at.is_of })
      ((moved x at.there).after_is ∙ ap (λ xs. record old { purse = old.purse - units; searches = xs }) (parted.with (granted units x)))
  grants old mid new place (is_new absent ask search asked opens last made) gives =
      let x = new_search question (length old.searches + 1) search 0 in
      let moved = subst (λ (s : State). (y : SearchState) → slice_get s.searches place ≡ Some y → Replaces s place (s.purse - units) (granted units y) new) made gives in
      let here = moved x (ap (λ n. slice_get (old.searches ++ x ∷ []) n) last ∙ last_there old.searches x) in
      let all_units : 0 + units ≡ units = omega arith in
      let same : granted units x ≡ new_search question (length old.searches + 1) search units = ap (λ n. new_search question (length old.searches + 1) search n) all_units in
      to_a_new_one absent ask search asked opens
      (here.after_is ∙ ap (λ xs. record old { purse = old.purse - units; searches = xs }) (ap (λ n. set (old.searches ++ x ∷ []) n (granted units x)) last ∙ last_set old.searches x (granted units x) ∙ ap (λ v. old.searches ++ v ∷ []) same))

-- a search that is made is ready
pub made_ready : {E : Type 0} (plan : Plan) (question : ℕ) (procedure : Procedure) (old new : State) (ask : Inquiry) (search : Search) (result : Result ℕ E) → IsAbsent old question procedure → AskOf plan question ask → Opens procedure ask search →
    OnOk result (new ≡ with_new question search old) → IfOk result (λ place. place ≡ length old.searches) → IfOk result (λ place. IsReady plan question procedure old place new)
made_ready plan question procedure old new ask search (Ok place) absent asked opens made last = is_new absent ask search asked opens last made
made_ready plan question procedure old new ask search (Err e) absent asked opens made last = tt

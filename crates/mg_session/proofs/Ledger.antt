-- The accounts of searches.
use Rattle.std.proofs.Common.{◌≡◌, ◌+◌, List, [], ◌∷◌, ◌++◌, refl, arith}
use Rattle.std.specs.Prelude.{All}
use Rattle.std.specs.List.{AllByRecursion}
use Rattle.std.proofs.lemmas.List.Elements.{All-from_recursion, recursion_from_All}
use Rattle.std.proofs.lemmas.List.Sums.{sum_by-cons}
use Rattle.mg_ledger.specs.declared.ledger.Account.{Account}
use Rattle.mg_ledger.specs.Accounts.{Balanced, total_held, total_spent}
use Rattle.mg_workers.specs.Rows.{EachPair}
use Rattle.mg_session.specs.State.{SearchState, accounts}

pub held_cons : (x : SearchState) (xs : List SearchState) → total_held (accounts (x ∷ xs)) ≡ x.account.held + total_held (accounts xs)
held_cons x xs = sum_by-cons (λ (a : Account). a.held) x.account (accounts xs)

pub spent_cons : (x : SearchState) (xs : List SearchState) → total_spent (accounts (x ∷ xs)) ≡ x.account.spent + total_spent (accounts xs)
spent_cons x xs = sum_by-cons (λ (a : Account). a.spent) x.account (accounts xs)

pub held_there : (before after : List SearchState) (x : SearchState) → total_held (accounts (before ++ x ∷ after)) ≡ total_held (accounts before) + (x.account.held + total_held (accounts after))
held_there [] after x = omega (arith, held_cons x after)
held_there (y ∷ before) after x =
    let rest = held_there before after x in omega (arith, held_cons y (before ++ x ∷ after), held_cons y before)

pub spent_there : (before after : List SearchState) (x : SearchState) → total_spent (accounts (before ++ x ∷ after)) ≡ total_spent (accounts before) + (x.account.spent + total_spent (accounts after))
spent_there [] after x = omega (arith, spent_cons x after)
spent_there (y ∷ before) after x =
    let rest = spent_there before after x in omega (arith, spent_cons y (before ++ x ∷ after), spent_cons y before)

abbrev pub AreBalanced : List SearchState → Type 0
AreBalanced searches = AllByRecursion (λ search. Balanced search.account) searches

accounts_of : (xs : List SearchState) → AreBalanced xs → AllByRecursion Balanced (accounts xs)
accounts_of [] h = tt
accounts_of (x ∷ xs) h = (h.0, accounts_of xs h.1)

searches_of : (xs : List SearchState) → AllByRecursion Balanced (accounts xs) → AreBalanced xs
searches_of [] h = tt
searches_of (x ∷ xs) h = (h.0, searches_of xs h.1)

pub as_accounts : (xs : List SearchState) → AreBalanced xs → All Balanced (accounts xs)
as_accounts xs h = All-from_recursion Balanced (accounts xs) (accounts_of xs h)

pub as_searches : (xs : List SearchState) → All Balanced (accounts xs) → AreBalanced xs
as_searches xs h = searches_of xs (recursion_from_All Balanced (accounts xs) h)

-- lists of which the searches at the same places have and spent together the same
pub totals_same : (xs ys : List SearchState) → EachPair (λ (x y : SearchState). y.account.held + y.account.spent ≡ x.account.held + x.account.spent) xs ys →
    total_held (accounts ys) + total_spent (accounts ys) ≡ total_held (accounts xs) + total_spent (accounts xs)
totals_same [] [] h = refl
totals_same [] (y ∷ ys) h = absurd h
totals_same (x ∷ xs) [] h = absurd h
totals_same (x ∷ xs) (y ∷ ys) h =
    let first = h.0 in
    let rest = totals_same xs ys h.1 in omega (arith, held_cons x xs, spent_cons x xs, held_cons y ys, spent_cons y ys)

pub spent_same : (xs ys : List SearchState) → EachPair (λ (x y : SearchState). y.account.spent ≡ x.account.spent) xs ys → total_spent (accounts ys) ≡ total_spent (accounts xs)
spent_same [] [] h = refl
spent_same [] (y ∷ ys) h = absurd h
spent_same (x ∷ xs) [] h = absurd h
spent_same (x ∷ xs) (y ∷ ys) h =
    let first = h.0 in
    let rest = spent_same xs ys h.1 in omega (arith, spent_cons x xs, spent_cons y ys)

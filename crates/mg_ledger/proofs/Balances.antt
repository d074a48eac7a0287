use Rattle.std.proofs.Common.{◌≡◌, ℕ, ◌+◌, ◌-◌, ◌<◌, ◌≤◌, List, [], ◌∷◌, length, set, get_or, refl, rules, arith, subst, sym, inl, inr}
use Rattle.std.proofs.lemmas.Bool.{cases_lt}
use Rattle.std.proofs.lemmas.List.Elements.{All-push}
use Rattle.std.proofs.lemmas.List.Sums.{sum_by-set, sum_by_push}
use Rattle.mg_ledger.specs.declared.ledger.Account.{Account}
use Rattle.mg_ledger.specs.declared.ledger.TheConstants.{MOST_FUNDED}
use Rattle.mg_ledger.specs.Accounts.{no_units, granted_more, spent_more, given_back, HasBalance, Balanced}
use Rattle.mg_ledger.specs.Ledgers.{LedgerState, no_cells, account_at, Call, Step, Run}
use Rattle.mg_ledger.specs.Ledgers.Call.{AddCell, Fund, Grant, Spend, GiveBack}

abbrev IsBalanced : LedgerState → Type 0
IsBalanced s = HasBalance s.funded s.purse s.cells

-- one cell's account and the purse change, and the units in both stay together
set_balances : (funded purse now : ℕ) (cells : List Account) (cell : ℕ) (a : Account) → cell < length cells → Balanced a → now + a.held + a.spent ≡ purse + (get_or cells cell no_units).held + (get_or cells cell no_units).spent → HasBalance funded purse cells → HasBalance funded now (set cells cell a)
set_balances funded purse now cells cell a there balanced same b =
    record {
      each = search rules;
      whole = omega (arith, b.whole, sum_by-set (λ (x : Account). x.held) cells cell a no_units there, sum_by-set (λ (x : Account). x.spent) cells cell a no_units there);
    }

-- units funded lie in the purse, or none came
fund_balances : (old : LedgerState) (n : ℕ) (new : LedgerState) → IsBalanced old → (old.funded + n ≤ MOST_FUNDED → new ≡ record old { funded = old.funded + n; purse = old.purse + n }) → (MOST_FUNDED < old.funded + n → new ≡ old) → IsBalanced new
fund_balances old n new b took refused =
    elim (cases_lt MOST_FUNDED (old.funded + n)) [ inl over ↦ subst IsBalanced (sym (refused over)) b | inr within ↦ subst IsBalanced (sym (took within)) (record { each = b.each; whole = omega arith }) ]

-- units granted are held, or none moved
grant_balances : (old : LedgerState) (cell n : ℕ) (new : LedgerState) → IsBalanced old → cell < length old.cells → (n ≤ old.purse → new ≡ record old { purse = old.purse - n; cells = set old.cells cell (granted_more n (account_at old cell)) }) → (old.purse < n → new ≡ old) → IsBalanced new
grant_balances old cell n new b there took refused =
    let a = account_at old cell in
    elim (cases_lt old.purse n) [ inl over ↦ subst IsBalanced (sym (refused over)) b | inr within ↦ subst IsBalanced (sym (took within)) (set_balances old.funded old.purse (old.purse - n) old.cells cell (granted_more n a) there (omega (arith, b.each cell no_units there)) (omega arith) b) ]

-- a step keeps the balance
step_balances : (old : LedgerState) (call : Call) (new : LedgerState) → IsBalanced old → Step old call new → IsBalanced new
step_balances old AddCell new b e =
    subst IsBalanced (sym e) (record {
      each = All-push Balanced old.cells no_units b.each refl;
      whole = omega (arith, b.whole, sum_by_push (λ (x : Account). x.held) old.cells no_units, sum_by_push (λ (x : Account). x.spent) old.cells no_units);
    })
step_balances old (Fund n) new b e = fund_balances old n new b e.0 e.1
step_balances old (Grant cell n) new b e = grant_balances old cell n new b e.0 e.1 e.2
step_balances old (Spend cell n) new b e =
    let a = account_at old cell in
    subst IsBalanced (sym e.2) (set_balances old.funded old.purse old.purse old.cells cell (spent_more n a) e.0 (omega (arith, b.each cell no_units e.0)) (omega arith) b)
step_balances old (GiveBack cell) new b e =
    let a = account_at old cell in
    subst IsBalanced (sym e.1) (set_balances old.funded old.purse (old.purse + a.held) old.cells cell (given_back a) e.0 (omega (arith, b.each cell no_units e.0)) (omega arith) b)

-- each run keeps the balance
run_balances : (old : LedgerState) (calls : List Call) (new : LedgerState) → IsBalanced old → Run old calls new → IsBalanced new
run_balances old [] new b e = subst IsBalanced (sym e) b
run_balances old (call ∷ calls) new b r = run_balances r.0 calls new (step_balances old call r.0 b r.1) r.2

pub balances : (calls : List Call) (end : LedgerState) → Run no_cells calls end → IsBalanced end
balances calls end = run_balances no_cells calls end (record { each = search rules; whole = refl })

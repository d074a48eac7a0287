use Rattle.std.specs.Prelude.{◌≡◌, ℕ, ◌+◌, ◌-◌, ◌<◌, ◌≤◌, List, [], ◌∷◌, ◌++◌, length, slice_index_or, slice_set}
use Rattle.mg_ledger.specs.declared.ledger.Account.{Account}
use Rattle.mg_ledger.specs.declared.ledger.TheConstants.{MOST_FUNDED}
use Rattle.mg_ledger.specs.Accounts.{no_units, granted_more, spent_more, given_back, HasBalance}

-- all the units funded, those in the purse, and the account of each cell in the order of the cells' numbers
pub record LedgerState : Type 0 where
  pub funded : ℕ
  pub purse : ℕ
  pub cells : List Account

-- no units and no cells
abbrev pub no_cells : LedgerState
no_cells = record { funded = 0; purse = 0; cells = [] }

-- the account of the cell with this number
abbrev pub account_at : LedgerState → ℕ → Account
account_at s cell = slice_index_or s.cells cell no_units

-- what is true of every ledger
pub record IsLedger (s : LedgerState) : Type 0 where
  pub bounded : s.funded ≤ MOST_FUNDED
  pub balance : HasBalance s.funded s.purse s.cells

-- a call that changes a ledger
pub data Call : Type 0 where
  AddCell : Call
  Fund : ℕ → Call
  Grant : ℕ → ℕ → Call
  Spend : ℕ → ℕ → Call
  GiveBack : ℕ → Call

-- The call leads from old to new, and moves just the units that it names. A refused call changes nothing.
abbrev pub Step : LedgerState → Call → LedgerState → Type 0
Step old AddCell new = new ≡ record old { cells = old.cells ++ no_units ∷ [] }
Step old (Fund n) new =
    (old.funded + n ≤ MOST_FUNDED → new ≡ record old { funded = old.funded + n; purse = old.purse + n }) × (MOST_FUNDED < old.funded + n → new ≡ old)
Step old (Grant cell n) new =
    (cell < length old.cells) × (n ≤ old.purse → new ≡ record old { purse = old.purse - n; cells = slice_set old.cells cell (granted_more n (account_at old cell)) }) × (old.purse < n → new ≡ old)
Step old (Spend cell n) new =
    (cell < length old.cells) × (n ≤ (account_at old cell).held) × (new ≡ record old { cells = slice_set old.cells cell (spent_more n (account_at old cell)) })
Step old (GiveBack cell) new =
    (cell < length old.cells) × (new ≡ record old { purse = old.purse + (account_at old cell).held; cells = slice_set old.cells cell (given_back (account_at old cell)) })

-- The calls lead from old to new, one step after another.
abbrev pub Run : LedgerState → List Call → LedgerState → Type 0
Run old [] new = new ≡ old
Run old (call ∷ calls) new = (mid : LedgerState) × Step old call mid × Run mid calls new

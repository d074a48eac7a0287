use Rattle.std.specs.Prelude.{◌≡◌, ℕ, ◌+◌, ◌-◌, List, All, sum_by}
use Rattle.mg_ledger.specs.declared.ledger.Account.{Account}

-- the account of a cell that was granted nothing
abbrev pub no_units : Account
no_units = record { granted = 0; spent = 0; held = 0; returned = 0 }

-- Every unit that was granted is spent, held or returned.
abbrev pub Balanced : Account → Type 0
Balanced a = a.granted ≡ a.spent + a.held + a.returned

-- n units come from the purse, and are held
abbrev pub granted_more : ℕ → Account → Account
granted_more n a = record a { granted = a.granted + n; held = a.held + n }

-- n of the units held are spent
abbrev pub spent_more : ℕ → Account → Account
spent_more n a = record a { spent = a.spent + n; held = a.held - n }

-- all the units held are returned to the purse
abbrev pub given_back : Account → Account
given_back a = record a { held = 0; returned = a.returned + a.held }

-- the units that the accounts hold together
abbrev pub total_held : List Account → ℕ
total_held cells = sum_by (λ a. a.held) cells

-- the units that the accounts spent together
abbrev pub total_spent : List Account → ℕ
total_spent cells = sum_by (λ a. a.spent) cells

-- Each account is balanced, and every unit funded is in the purse, held or spent.
pub record HasBalance (funded purse : ℕ) (cells : List Account) : Type 0 where
  pub each : All Balanced cells
  pub whole : funded ≡ purse + total_held cells + total_spent cells

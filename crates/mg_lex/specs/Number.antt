-- Numbers, in decimal digits.
use Rattle.std.specs.Prelude.{ℕ, ◌<◌, List, length, IsTrue}
use Rattle.std.specs.Char.{is_ascii_digit}
use Rattle.std.specs.List.{list_all}
use Rattle.std.specs.Str.Parse.{digits_value}

-- one digit or more; leading zeros are allowed
abbrev pub IsNumber : List ℕ → Type 0
IsNumber bytes = (0 < length bytes) × IsTrue (list_all is_ascii_digit bytes)

-- the number that the digits write in base ten
abbrev pub number_value : List ℕ → ℕ
number_value digits = digits_value 10 digits

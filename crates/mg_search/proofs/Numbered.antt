-- What searches say of the numbers of objects.
use Rattle.std.proofs.Common.{◌≡◌, ℕ, true, List}
use Rattle.mg_numbers.specs.Plain.{NoneAmong, First}
use Rattle.mg_certs.specs.Claim.{Fact}
use Rattle.mg_plain.specs.Plain.{AcceptedBy, Publishes}
use Rattle.mg_search.specs.Search.{Search, plain, completing, enumerating, reducing, recalling, ask_of, procedure_of, units_spent, is_open, InRow, HasPublished, TestsNumbered}

-- while a search goes on, no number up to the units that it has spent is accepted
pub none_passed : (search : Search) → InRow search → is_open search ≡ true → NoneAmong (AcceptedBy (procedure_of search) (ask_of search)) 0 (units_spent search)
none_passed (plain search) row opened = row opened
none_passed (completing search) row opened = λ n low high accepted. accepted
none_passed (enumerating search) row opened = λ n low high accepted. accepted
none_passed (reducing search) row opened = λ n low high accepted. accepted
none_passed (recalling search) row opened = λ n low high accepted. accepted

-- what a search through numbered objects has published is the object with the least accepted number
pub published_first : (search : Search) (records : List Fact) → TestsNumbered search → HasPublished search records → (n : ℕ) × First (AcceptedBy (procedure_of search) (ask_of search)) n × Publishes (procedure_of search) (ask_of search) n records
published_first (plain search) records tests h = (search.cursor, h.0, h.1)
published_first (completing search) records tests h = absurd tests
published_first (enumerating search) records tests h = absurd tests
published_first (reducing search) records tests h = absurd tests
published_first (recalling search) records tests h = absurd tests

-- What searches are that have just been started.
use Rattle.std.proofs.Common.{◌≡◌, true, ap, sym, subst}
use Rattle.mg_words.specs.declared.procedure.Procedure.{Procedure}
use Rattle.mg_present.specs.Ask.{Inquiry}
use Rattle.mg_present.specs.Applies.{Applies}
use Rattle.mg_plain.specs.Plain.{Plain}
use Rattle.mg_plain.proofs.Turns.{started_searched}
use Rattle.mg_complete.specs.Completion.{Completion, IsKept as IsCompleted}
use Rattle.mg_nielsen.specs.Moves.{Nielsen as Reduction, IsKept}
use Rattle.mg_nielsen.proofs.Ends.{first_kept}
use Rattle.mg_recall.specs.Recall.{Recall as Reading}
use Rattle.mg_search.specs.Search.{Search, plain, completing, enumerating, reducing, recalling, ask_of, procedure_of, units_spent, is_open, Opens, InRow}
use Rattle.mg_search.proofs.Completed.{first_completed}

pub opens_in_row : (procedure : Procedure) (ask : Inquiry) (search : Search) → Opens procedure ask search → InRow search
opens_in_row procedure ask (plain search) opens = started_searched procedure ask search opens
opens_in_row procedure ask (completing search) opens = subst IsCompleted (sym opens.first) (first_completed ask opens.asked opens.applies)
opens_in_row procedure ask (enumerating search) opens = opens.first.kept
opens_in_row procedure ask (reducing search) opens = subst IsKept (sym opens.first) (first_kept ask opens.asked opens.applies)
opens_in_row procedure ask (recalling search) opens = tt

pub opens_applies : (procedure : Procedure) (ask : Inquiry) (search : Search) → Opens procedure ask search → Applies procedure ask
opens_applies procedure ask (plain search) opens = opens.applies
opens_applies procedure ask (completing search) opens = subst (λ (p : Procedure). Applies p ask) (sym opens.by) opens.applies
opens_applies procedure ask (enumerating search) opens = subst (λ (p : Procedure). Applies p ask) (sym opens.by) opens.applies
opens_applies procedure ask (reducing search) opens = subst (λ (p : Procedure). Applies p ask) (sym opens.by) opens.applies
opens_applies procedure ask (recalling search) opens = subst (λ (p : Procedure). Applies p ask) (sym opens.by) opens.applies

-- the search is by the procedure and asks what it was started for; it has spent nothing and goes on
pub opens_procedure : (procedure : Procedure) (ask : Inquiry) (search : Search) → Opens procedure ask search → procedure_of search ≡ procedure
opens_procedure procedure ask (plain search) opens = ap (λ (s : Plain). s.procedure) opens.search_is
opens_procedure procedure ask (completing search) opens = sym opens.by
opens_procedure procedure ask (enumerating search) opens = sym opens.by
opens_procedure procedure ask (reducing search) opens = sym opens.by
opens_procedure procedure ask (recalling search) opens = sym opens.by

pub opens_ask : (procedure : Procedure) (ask : Inquiry) (search : Search) → Opens procedure ask search → ask_of search ≡ ask
opens_ask procedure ask (plain search) opens = ap (λ (s : Plain). s.ask) opens.search_is
opens_ask procedure ask (completing search) opens = ap (λ (s : Completion). s.ask) opens.first
opens_ask procedure ask (enumerating search) opens = opens.first.ask_is
opens_ask procedure ask (reducing search) opens = ap (λ (s : Reduction). s.ask) opens.first
opens_ask procedure ask (recalling search) opens = ap (λ (s : Reading). s.ask) opens.first

pub opens_unspent : (procedure : Procedure) (ask : Inquiry) (search : Search) → Opens procedure ask search → units_spent search ≡ 0
opens_unspent procedure ask (plain search) opens = ap (λ (s : Plain). s.cursor) opens.search_is
opens_unspent procedure ask (completing search) opens = ap (λ (s : Completion). s.spent) opens.first
opens_unspent procedure ask (enumerating search) opens = opens.first.none_spent
opens_unspent procedure ask (reducing search) opens = ap (λ (s : Reduction). s.spent) opens.first
opens_unspent procedure ask (recalling search) opens = ap (λ (s : Reading). s.read) opens.first

pub opens_open : (procedure : Procedure) (ask : Inquiry) (search : Search) → Opens procedure ask search → is_open search ≡ true
opens_open procedure ask (plain search) opens = ap (λ (s : Plain). s.is_open) opens.search_is
opens_open procedure ask (completing search) opens = ap (λ (s : Completion). s.is_open) opens.first
opens_open procedure ask (enumerating search) opens = opens.first.goes
opens_open procedure ask (reducing search) opens = ap (λ (s : Reduction). s.is_open) opens.first
opens_open procedure ask (recalling search) opens = ap (λ (s : Reading). s.is_open) opens.first

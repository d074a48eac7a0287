-- After a run without a bound each search of an open question has spent what it held, or is closed, idle or full.
use Rattle.std.proofs.Common.{◌≡◌, inl, inr, List, [], ◌∷◌, arith}
use Rattle.std.specs.Prelude.{None}
use Rattle.std.specs.List.{AllByRecursion}
use Rattle.mg_core.specs.declared.entries.Entry.{Entry}
use Rattle.mg_workers.specs.Rows.{EachPair}
use Rattle.mg_certs.specs.Claim.{Fact}
use Rattle.mg_search.specs.Search.{ask_of}
use Rattle.mg_session.specs.State.{SearchState}
use Rattle.mg_session.specs.RunOk.{IsRunTo, RunEnds, is_settled, is_open}
use Rattle.mg_top.specs.Spent.{SpendsAll}

ends_spent : (log : List (Entry Fact)) (search after : SearchState) → ask_of after.search ≡ ask_of search.search → RunEnds None log search after → SpendsAll log after
ends_spent log search after same (is_settled settled held) = λ unsettled. inl held
ends_spent log search after same (is_open unsettled total ended) = λ _. elim ended [ inl all ↦ inl (omega arith) | inr over ↦ inr over ]

pub all_spent : (log : List (Entry Fact)) (searches later : List SearchState) → EachPair (IsRunTo None log) searches later → AllByRecursion (SpendsAll log) later
all_spent log [] [] h = tt
all_spent log [] (y ∷ ys) h = absurd h
all_spent log (x ∷ xs) [] h = absurd h
all_spent log (x ∷ xs) (y ∷ ys) h = (ends_spent log x y h.0.ask h.0.ends, all_spent log xs ys h.1)

-- The kinds of search in code as searches, and why a search isn't started.
use Rattle.mg_words.specs.declared.procedure.Procedure.{Procedure}
use Rattle.mg_present.specs.Ask.{Inquiry}
use Rattle.mg_present.specs.Applies.{Applies}
use Rattle.mg_search.specs.Search.{Search, plain, completing, enumerating, reducing, recalling}
use Rattle.mg_search.specs.declared.search.Kind.{Kind}
use Rattle.mg_search.specs.declared.search.Kind.TheVariants.{Plain, Completing, Enumerating, Reducing, Recalling}
use Rattle.mg_search.specs.declared.search.StartRefused.{StartRefused}
use Rattle.mg_search.specs.declared.search.StartRefused.TheVariants.{DoesNotApply, NoMemory}
use Rattle.mg_plain.specs.declared.plain.StartRefused as by_plain
use Rattle.mg_plain.specs.declared.plain.StartRefused.TheVariants as of_plain_search

abbrev pub seen : Kind → Search
seen (Plain search) = plain search
seen (Completing search) = completing search.value
seen (Enumerating search) = enumerating search
seen (Reducing search) = reducing search
seen (Recalling search) = recalling search

-- what a plain search is refused for
abbrev pub of_plain : by_plain.StartRefused → StartRefused
of_plain of_plain_search.DoesNotApply = DoesNotApply
of_plain of_plain_search.NoMemory = NoMemory

-- why a search isn't started: its procedure may not be used for the Ask, or it may, and memory is wanting
abbrev pub IsNotStarted : Procedure → Inquiry → StartRefused → Type 0
IsNotStarted procedure ask DoesNotApply = Applies procedure ask → ⊥
IsNotStarted procedure ask NoMemory = Applies procedure ask

-- Where a procedure may be used, some search of it can be started.
use Rattle.std.proofs.Common.{◌≡◌, true, refl}
use Rattle.mg_words.specs.declared.procedure.Procedure.{Procedure}
use Rattle.mg_words.specs.declared.procedure.Procedure.TheVariants.{Derive, Act, Residue, Rewrite, Cosets, Nielsen, Recall}
use Rattle.mg_present.specs.Ask.{Inquiry, IsAsked}
use Rattle.mg_present.specs.Applies.{Applies}
use Rattle.mg_complete.specs.Completion.{first_search as first_completion}
use Rattle.mg_nielsen.specs.Turn.{first_search}
use Rattle.mg_search.specs.Search.{Search, plain, completing, enumerating, reducing, recalling, Opens}
use Rattle.mg_search.proofs.Forced.{first_enumeration}

pub some_opens : (procedure : Procedure) (ask : Inquiry) → IsAsked ask → Applies procedure ask → (search : Search) × Opens procedure ask search
some_opens Derive ask asked applies =
    (plain (record { procedure = Derive; ask = ask; cursor = 0; is_open = true }), record { is_plain = tt; applies = applies; search_is = refl })
some_opens Act ask asked applies =
    (plain (record { procedure = Act; ask = ask; cursor = 0; is_open = true }), record { is_plain = tt; applies = applies; search_is = refl })
some_opens Residue ask asked applies =
    (plain (record { procedure = Residue; ask = ask; cursor = 0; is_open = true }), record { is_plain = tt; applies = applies; search_is = refl })
some_opens Rewrite ask asked applies = (completing (first_completion ask), record { by = refl; asked = asked; applies = applies; first = refl })
some_opens Cosets ask asked applies =
    let first = first_enumeration ask asked in (
      enumerating (record { ask = ask; table = first.0; spent = 0; is_open = true }),
      record { by = refl; asked = asked; applies = applies; first = record { ask_is = refl; none_spent = refl; goes = refl; kept = first.1 } },
    )
some_opens Nielsen ask asked applies = (reducing (first_search ask), record { by = refl; asked = asked; applies = applies; first = refl })
some_opens Recall ask asked applies =
    (recalling (record { ask = ask; read = 0; is_open = true }), record { by = refl; asked = asked; applies = applies; first = refl })

-- A cause is known by its number.
use Rattle.std.proofs.Common.{◌≡◌, ℕ, ◌-◌, [], ◌∷◌, get_or, refl, sym, ap, ◌∙◌}
use Rattle.mg_lex.specs.declared.refusal.Cause.{Cause}
use Rattle.mg_lex.specs.declared.refusal.Cause.TheVariants as cause
use Rattle.mg_lex.specs.Cause.{cause_number}

abbrev numbered : ℕ → Cause
numbered n = get_or (cause.BadByte ∷ cause.BadToken ∷ cause.Unexpected ∷ cause.LineTooLong ∷ cause.NumberTooLarge ∷ cause.WordTooLong ∷ cause.TooMany ∷ cause.NameTaken ∷ cause.UnknownName ∷ cause.WrongKind ∷ cause.UnknownGenerator ∷ cause.GeneratorTwice ∷ cause.ImageMissing ∷ cause.ProcedureDoesNotApply ∷ []) (n - 1) cause.BadByte

number_back : (c : Cause) → numbered (cause_number c) ≡ c
number_back cause.BadByte = refl
number_back cause.BadToken = refl
number_back cause.Unexpected = refl
number_back cause.LineTooLong = refl
number_back cause.NumberTooLarge = refl
number_back cause.WordTooLong = refl
number_back cause.TooMany = refl
number_back cause.NameTaken = refl
number_back cause.UnknownName = refl
number_back cause.WrongKind = refl
number_back cause.UnknownGenerator = refl
number_back cause.GeneratorTwice = refl
number_back cause.ImageMissing = refl
number_back cause.ProcedureDoesNotApply = refl

pub same_number : (c d : Cause) → cause_number c ≡ cause_number d → c ≡ d
same_number c d same = sym (number_back c) ∙ ap numbered same ∙ number_back d

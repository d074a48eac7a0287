-- The tokens into which a line is cut stand in it.
use Rattle.std.proofs.Common.{◌≡◌, ℕ, ◌+◌, ◌<◌, List, [], ◌∷◌, ◌++◌, length, get_or, take, sym, subst}
use Rattle.std.specs.List.{AllByRecursion, AllZip}
use Rattle.std.proofs.lemmas.List.Elements.{All-get_or, All-from_recursion}
use Rattle.std.proofs.lemmas.List.{take_more}
use Rattle.mg_lex.specs.declared.token.Token.{Token}
use Rattle.mg_lex.specs.Line.{Cuts, IsLongestAtStart}
use Rattle.mg_terms.specs.declared.lexeme.Lexeme.{Lexeme}
use Rattle.mg_terms.specs.Lexeme.{IsLexemeOf}

cut_tokens : (line : List ℕ) (from : ℕ) (ts : List Token) (to : ℕ) → Cuts line from ts to → AllByRecursion (IsLongestAtStart line) ts
cut_tokens line from [] to cut = tt
cut_tokens line from (t ∷ ts) to cut = (cut.1, cut_tokens line (t.start + t.length) ts to cut.2)

pub token_at : (line : List ℕ) (ts : List Token) (to i : ℕ) (d : Token) → Cuts line 0 ts to → i < length ts → IsLongestAtStart line (get_or ts i d)
token_at line ts to i d cut inside =
    All-get_or (IsLongestAtStart line) ts i d inside (All-from_recursion (IsLongestAtStart line) ts (cut_tokens line 0 ts to cut))

zip_push : (line : List ℕ) (ts : List Token) (xs : List Lexeme) (t : Token) (x : Lexeme) → AllZip (IsLexemeOf line) ts xs → IsLexemeOf line t x → AllZip (IsLexemeOf line) (ts ++ t ∷ []) (xs ++ x ∷ [])
zip_push line [] [] t x all last = (last, tt)
zip_push line [] (y ∷ xs) t x all last = absurd all
zip_push line (u ∷ ts) [] t x all last = absurd all
zip_push line (u ∷ ts) (y ∷ xs) t x all last = (all.0, zip_push line ts xs t x all.1 last)

-- one token more, and its lexeme
pub lexemes_more : (line : List ℕ) (ts : List Token) (xs new : List Lexeme) (i : ℕ) (d : Token) (x : Lexeme) → i < length ts → AllZip (IsLexemeOf line) (take i ts) xs → IsLexemeOf line (get_or ts i d) x → new ≡ xs ++ x ∷ [] → AllZip (IsLexemeOf line) (take (i + 1) ts) new
lexemes_more line ts xs new i d x inside all is_lexeme pushed =
    let more = zip_push line (take i ts) xs (get_or ts i d) x all is_lexeme in
    subst (λ us. AllZip (IsLexemeOf line) us new) (sym (take_more ts i d inside)) (subst (AllZip (IsLexemeOf line) (take i ts ++ get_or ts i d ∷ [])) (sym pushed) more)

-- Tokens are lexemes in one way.
use Rattle.std.proofs.Common.{◌≡◌, ℕ, zero, suc, cond, List, [], ◌∷◌, ◌++◌, length, get_or, refl, sym, ap, ◌∙◌, arith}
use Rattle.std.specs.List.{AllByRecursion, AllZip}
use Rattle.std.specs.Str.{bytes_eq}
use Rattle.mg_lex.specs.declared.keyword.Keyword.{Keyword}
use Rattle.mg_lex.specs.declared.keyword.Keyword.TheVariants as keyword
use Rattle.mg_lex.specs.declared.mark.Mark.{Mark}
use Rattle.mg_lex.specs.declared.mark.Mark.TheVariants as mark
use Rattle.mg_lex.specs.declared.token.Token.{Token}
use Rattle.mg_lex.specs.declared.token.TokenKind.{TokenKind}
use Rattle.mg_lex.specs.declared.token.TokenKind.TheVariants as kind
use Rattle.mg_lex.specs.Keyword.{keyword_text}
use Rattle.mg_lex.specs.Line.{IsWithinLimits, token_bytes}
use Rattle.mg_lex.specs.Mark.{mark_text}
use Rattle.mg_terms.specs.declared.lexeme.Lexeme.{Lexeme}
use Rattle.mg_terms.specs.declared.lexeme.Lexeme.TheVariants as lexeme
use Rattle.mg_terms.specs.Lexeme.{IsLexemeOf}
use Rattle.mg_script.specs.Script.{ReadsAs, as_it_is, too_large}

-- the last of the first entries of a table that is written so
abbrev looked_up : {X : Type 0} → (ℕ → X) → (X → List ℕ) → ℕ → List ℕ → X
looked_up entries text zero bytes = entries 0
looked_up entries text (suc n) bytes = cond (bytes_eq (text (entries n)) bytes) (entries n) (looked_up entries text n bytes)

-- a keyword is found by its text
abbrev keyword_entry : ℕ → Keyword
keyword_entry i = get_or (keyword.Group ∷ keyword.Word ∷ keyword.Subgroup ∷ keyword.Map ∷ keyword.Ask ∷ keyword.Fund ∷ keyword.Grant ∷ keyword.Run ∷ keyword.Cancel ∷ keyword.Report ∷ keyword.Extend ∷ keyword.Known ∷ keyword.See ∷ keyword.By ∷ keyword.Back ∷ keyword.In ∷ keyword.Out ∷ keyword.Of ∷ keyword.Kernel ∷ keyword.Trivial ∷ keyword.Abelian ∷ keyword.Central ∷ keyword.Normal ∷ keyword.Extends ∷ keyword.Onto ∷ keyword.Index ∷ keyword.Infinite ∷ keyword.Derive ∷ keyword.Act ∷ keyword.Residue ∷ keyword.Rewrite ∷ keyword.Cosets ∷ keyword.Nielsen ∷ keyword.Recall ∷ keyword.Facts ∷ keyword.Log ∷ []) i keyword.Group

abbrev keyword_found : List ℕ → Keyword
keyword_found bytes = looked_up keyword_entry keyword_text 36 bytes

keyword_back : (k : Keyword) → keyword_found (keyword_text k) ≡ k
keyword_back keyword.Group = refl
keyword_back keyword.Word = refl
keyword_back keyword.Subgroup = refl
keyword_back keyword.Map = refl
keyword_back keyword.Ask = refl
keyword_back keyword.Fund = refl
keyword_back keyword.Grant = refl
keyword_back keyword.Run = refl
keyword_back keyword.Cancel = refl
keyword_back keyword.Report = refl
keyword_back keyword.Extend = refl
keyword_back keyword.Known = refl
keyword_back keyword.See = refl
keyword_back keyword.By = refl
keyword_back keyword.Back = refl
keyword_back keyword.In = refl
keyword_back keyword.Out = refl
keyword_back keyword.Of = refl
keyword_back keyword.Kernel = refl
keyword_back keyword.Trivial = refl
keyword_back keyword.Abelian = refl
keyword_back keyword.Central = refl
keyword_back keyword.Normal = refl
keyword_back keyword.Extends = refl
keyword_back keyword.Onto = refl
keyword_back keyword.Index = refl
keyword_back keyword.Infinite = refl
keyword_back keyword.Derive = refl
keyword_back keyword.Act = refl
keyword_back keyword.Residue = refl
keyword_back keyword.Rewrite = refl
keyword_back keyword.Cosets = refl
keyword_back keyword.Nielsen = refl
keyword_back keyword.Recall = refl
keyword_back keyword.Facts = refl
keyword_back keyword.Log = refl

same_keyword : (j k : Keyword) (bytes : List ℕ) → keyword_text j ≡ bytes → keyword_text k ≡ bytes → j ≡ k
same_keyword j k bytes text text_too = sym (keyword_back j) ∙ ap keyword_found (text ∙ sym text_too) ∙ keyword_back k

-- a mark too
abbrev mark_entry : ℕ → Mark
mark_entry i = get_or (mark.Less ∷ mark.Greater ∷ mark.Comma ∷ mark.Bar ∷ mark.Equals ∷ mark.Caret ∷ mark.OpenRound ∷ mark.CloseRound ∷ mark.OpenSquare ∷ mark.CloseSquare ∷ mark.Colon ∷ mark.Semicolon ∷ mark.Star ∷ mark.Minus ∷ mark.Arrow ∷ []) i mark.Less

abbrev mark_found : List ℕ → Mark
mark_found bytes = looked_up mark_entry mark_text 15 bytes

mark_back : (m : Mark) → mark_found (mark_text m) ≡ m
mark_back mark.Less = refl
mark_back mark.Greater = refl
mark_back mark.Comma = refl
mark_back mark.Bar = refl
mark_back mark.Equals = refl
mark_back mark.Caret = refl
mark_back mark.OpenRound = refl
mark_back mark.CloseRound = refl
mark_back mark.OpenSquare = refl
mark_back mark.CloseSquare = refl
mark_back mark.Colon = refl
mark_back mark.Semicolon = refl
mark_back mark.Star = refl
mark_back mark.Minus = refl
mark_back mark.Arrow = refl

same_mark : (m n : Mark) (bytes : List ℕ) → mark_text m ≡ bytes → mark_text n ≡ bytes → m ≡ n
same_mark m n bytes text text_too = sym (mark_back m) ∙ ap mark_found (text ∙ sym text_too) ∙ mark_back n

-- the kind of the tokens that are a lexeme
abbrev kind_of : Lexeme → TokenKind
kind_of lexeme.Name = kind.Name
kind_of (lexeme.Keyword k) = kind.Keyword
kind_of lexeme.RelatorSign = kind.RelatorSign
kind_of (lexeme.Number n) = kind.Number
kind_of (lexeme.Mark m) = kind.Mark

kind_is : (line : List ℕ) (t : Token) (x : Lexeme) → IsLexemeOf line t x → t.kind ≡ kind_of x
kind_is line t lexeme.Name is = is
kind_is line t (lexeme.Keyword k) is = is.0
kind_is line t lexeme.RelatorSign is = is
kind_is line t (lexeme.Number n) is = is.0
kind_is line t (lexeme.Mark m) is = is.0

same_of_kind : (line : List ℕ) (t : Token) (x y : Lexeme) → IsLexemeOf line t x → IsLexemeOf line t y → kind_of x ≡ kind_of y → x ≡ y
same_of_kind line t lexeme.Name lexeme.Name is is_too kinds = refl
same_of_kind line t (lexeme.Keyword j) (lexeme.Keyword k) is is_too kinds =
    ap lexeme.Keyword (same_keyword j k (token_bytes line t) is.1 is_too.1)
same_of_kind line t lexeme.RelatorSign lexeme.RelatorSign is is_too kinds = refl
same_of_kind line t (lexeme.Number m) (lexeme.Number n) is is_too kinds = ap lexeme.Number (sym is.1 ∙ is_too.1)
same_of_kind line t (lexeme.Mark m) (lexeme.Mark n) is is_too kinds =
    ap lexeme.Mark (same_mark m n (token_bytes line t) is.1 is_too.1)
same_of_kind line t _ _ is is_too kinds = absurd cc

one_lexeme : (line : List ℕ) (t : Token) (x y : Lexeme) → IsLexemeOf line t x → IsLexemeOf line t y → x ≡ y
one_lexeme line t x y is is_too =
    same_of_kind line t x y is is_too (sym (kind_is line t x is) ∙ kind_is line t y is_too)

one_reading : (line : List ℕ) (t : Token) (x y : Lexeme) → ReadsAs line t x → ReadsAs line t y → x ≡ y
one_reading line t x y (as_it_is small is) (as_it_is small_too is_too) = one_lexeme line t x y is is_too
one_reading line t x y (as_it_is small is) (too_large large limit) = absurd (small large)
one_reading line t x y (too_large large limit) (as_it_is small is) = absurd (small large)
one_reading line t x y (too_large large limit) (too_large large_too limit_too) = limit ∙ sym limit_too

-- lists of lexemes
pub one_list : (line : List ℕ) (ts : List Token) (xs ys : List Lexeme) → AllZip (ReadsAs line) ts xs → AllZip (ReadsAs line) ts ys → xs ≡ ys
one_list line [] [] [] reads reads_too = refl
one_list line [] (x ∷ xs) ys reads reads_too = absurd reads
one_list line [] xs (y ∷ ys) reads reads_too = absurd reads_too
one_list line (t ∷ ts) [] ys reads reads_too = absurd reads
one_list line (t ∷ ts) xs [] reads reads_too = absurd reads_too
one_list line (t ∷ ts) (x ∷ xs) (y ∷ ys) reads reads_too =
    let heads = one_reading line t x y reads.0 reads_too.0 in
    let tails = one_list line ts xs ys reads.1 reads_too.1 in
    cc

pub as_many : (line : List ℕ) (ts : List Token) (xs : List Lexeme) → AllZip (ReadsAs line) ts xs → length ts ≡ length xs
as_many line [] [] reads = refl
as_many line [] (x ∷ xs) reads = absurd reads
as_many line (t ∷ ts) [] reads = absurd reads
as_many line (t ∷ ts) (x ∷ xs) reads = ap suc (as_many line ts xs reads.1)

-- tokens within the limits are read as they are
pub within_limits : (line : List ℕ) (t : Token) (x : Lexeme) → IsWithinLimits line t → IsLexemeOf line t x → ReadsAs line t x
within_limits line t x within is = as_it_is (λ large. let small = within.number large.0 in omega (arith, large.1)) is

pub all_within_limits : (line : List ℕ) (ts : List Token) (xs : List Lexeme) → AllByRecursion (IsWithinLimits line) ts → AllZip (IsLexemeOf line) ts xs → AllZip (ReadsAs line) ts xs
all_within_limits line [] [] within are = tt
all_within_limits line [] (x ∷ xs) within are = absurd are
all_within_limits line (t ∷ ts) [] within are = absurd are
all_within_limits line (t ∷ ts) (x ∷ xs) within are =
    (within_limits line t x within.0 are.0, all_within_limits line ts xs within.1 are.1)

-- one token more, and its lexeme
pub reads_more : (line : List ℕ) (ts : List Token) (xs : List Lexeme) (t : Token) (x : Lexeme) → AllZip (ReadsAs line) ts xs → ReadsAs line t x → AllZip (ReadsAs line) (ts ++ t ∷ []) (xs ++ x ∷ [])
reads_more line [] [] t x reads last = (last, tt)
reads_more line [] (y ∷ ys) t x reads last = absurd reads
reads_more line (u ∷ us) [] t x reads last = absurd reads
reads_more line (u ∷ us) (y ∷ ys) t x reads last = (reads.0, reads_more line us ys t x reads.1 last)

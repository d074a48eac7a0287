-- What a token is, by its kind.
use Rattle.std.specs.Prelude.{◌≡◌, ℕ, Bool, ◌||◌, ◌==◌, List, [], ◌∷◌, ◌++◌, IsTrue, codes}
use Rattle.std.specs.Char.{is_ascii_alphabetic, is_ascii_alphanumeric}
use Rattle.std.specs.List.{list_all}
use Rattle.mg_lex.specs.declared.token.TokenKind.{TokenKind}
use Rattle.mg_lex.specs.declared.token.TokenKind.TheVariants as kind
use Rattle.mg_lex.specs.Keyword.{IsKeyword}
use Rattle.mg_lex.specs.Mark.{IsMark}
use Rattle.mg_lex.specs.Number.{IsNumber}

-- a letter, a digit or an underscore
abbrev pub is_word_byte : ℕ → Bool
is_word_byte b = is_ascii_alphanumeric b || b == 95

-- a letter, then letters, digits and underscores
abbrev pub IsWord : List ℕ → Type 0
IsWord [] = ⊥
IsWord (b ∷ bs) = IsTrue (is_ascii_alphabetic b) × IsTrue (list_all is_word_byte bs)

-- the letter r, then digits
abbrev pub IsRelatorSign : List ℕ → Type 0
IsRelatorSign bytes = (digits : List ℕ) × (bytes ≡ codes "r" ++ digits) × IsNumber digits

-- a word that is neither a keyword nor a relator sign
pub record IsName (bytes : List ℕ) : Type 0 where
  pub word : IsWord bytes
  pub no_keyword : ¬ IsKeyword bytes
  pub no_sign : ¬ IsRelatorSign bytes

-- the bytes are a token of this kind
abbrev pub IsToken : TokenKind → List ℕ → Type 0
IsToken kind.Name bytes = IsName bytes
IsToken kind.Keyword bytes = IsKeyword bytes
IsToken kind.RelatorSign bytes = IsRelatorSign bytes
IsToken kind.Number bytes = IsNumber bytes
IsToken kind.Mark bytes = IsMark bytes

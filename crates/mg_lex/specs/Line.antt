-- How a line is cut into tokens. Places count from 0.
use Rattle.std.specs.Prelude.{◌≡◌, ℕ, ◌+◌, ◌<◌, ◌≤◌, Bool, ◌||◌, ◌==◌, List, [], ◌∷◌, length, take, drop, slice_index, slice_get, Some, IsTrue, ◌⊎◌}
use Rattle.std.specs.Int.{is_in_range}
use Rattle.std.specs.List.{AllByRecursion}
use Rattle.mg_lex.specs.declared.limits.TheConstants.{LINE_LIMIT, NAME_LIMIT, NUMBER_LIMIT}
use Rattle.mg_lex.specs.declared.token.Token.{Token}
use Rattle.mg_lex.specs.declared.token.TokenKind.{TokenKind}
use Rattle.mg_lex.specs.declared.token.TokenKind.TheVariants as kind
use Rattle.mg_lex.specs.Number.{number_value}
use Rattle.mg_lex.specs.Token.{IsToken}

-- a tab, or a byte from the space to the tilde
abbrev pub is_allowed : ℕ → Bool
is_allowed b = b == 9 || is_in_range 32 126 b

-- a space or a tab, which separate tokens and mean nothing else
abbrev pub is_blank : ℕ → Bool
is_blank b = b == 32 || b == 9

-- the sign # begins a comment to the end of the line
abbrev pub BeginsComment : List ℕ → ℕ → Type 0
BeginsComment line place = slice_get line place ≡ Some 35

-- a token of this kind and length stands at the front, and no longer one does
pub record IsLongest (bytes : List ℕ) (k : TokenKind) (len : ℕ) : Type 0 where
  pub within : len ≤ length bytes
  pub token : IsToken k (take len bytes)
  pub longest : (j : TokenKind) (n : ℕ) → n ≤ length bytes → IsToken j (take n bytes) → n ≤ len

-- no token stands at the front
abbrev pub BeginsNone : List ℕ → Type 0
BeginsNone bytes = (k : TokenKind) (n : ℕ) → n ≤ length bytes → IsToken k (take n bytes) → ⊥

-- the bytes from one place up to another are blanks
pub record AreBlanks (line : List ℕ) (from to : ℕ) : Type 0 where
  pub ordered : from ≤ to
  pub within : to ≤ length line
  pub blank : (i : ℕ) → from ≤ i → i < to → IsTrue (is_blank (slice_index line i))

-- the token is the longest one that begins at its start
abbrev pub IsLongestAtStart : List ℕ → Token → Type 0
IsLongestAtStart line t = IsLongest (drop t.start line) t.kind t.length

-- from one place up to another the line is these tokens in order, each the longest at its start, with
-- blanks before, between and after them
abbrev pub Cuts : List ℕ → ℕ → List Token → ℕ → Type 0
Cuts line from [] to = AreBlanks line from to
Cuts line from (t ∷ ts) to =
    AreBlanks line from t.start × IsLongestAtStart line t × Cuts line (t.start + t.length) ts to

-- a token is looked for at this place: what stands before it is whole tokens and blanks
abbrev pub IsReached : List ℕ → ℕ → Type 0
IsReached line place = (ts : List Token) × Cuts line 0 ts place

-- the token is one of those that the line is cut into
abbrev pub IsTaken : List ℕ → Token → Type 0
IsTaken line t = IsReached line t.start × IsLongestAtStart line t

-- the bytes of a token
abbrev pub token_bytes : List ℕ → Token → List ℕ
token_bytes line t = take t.length (drop t.start line)

-- the token begins within the longest line, a name is not too long, and a number not too large
pub record IsWithinLimits (line : List ℕ) (t : Token) : Type 0 where
  pub begins : t.start < LINE_LIMIT
  pub name : t.kind ≡ kind.Name → t.length ≤ NAME_LIMIT
  pub number : t.kind ≡ kind.Number → number_value (token_bytes line t) ≤ NUMBER_LIMIT

-- the line ends at this place, or a comment begins there
abbrev pub IsEnd : List ℕ → ℕ → Type 0
IsEnd line place = (place ≡ length line) ⊎ BeginsComment line place

-- the tokens of the whole line, its comment left out
pub record AreTokens (line : List ℕ) (ts : List Token) : Type 0 where
  pub end : ℕ
  pub cut : Cuts line 0 ts end
  pub ended : IsEnd line end
  pub within_limits : AllByRecursion (IsWithinLimits line) ts

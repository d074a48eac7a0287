-- Why a line is refused, and where.
use Rattle.std.specs.Prelude.{◌≡◌, ℕ, ◌<◌, ◌≤◌, false, List, length, drop, slice_index, Some, Option, None, IsTrue, ◌⊎◌}
use Rattle.std.specs.List.{AllByRecursion}
use Rattle.mg_lex.specs.declared.limits.TheConstants.{LINE_LIMIT, NAME_LIMIT, NUMBER_LIMIT}
use Rattle.mg_lex.specs.declared.refusal.Cause.{Cause}
use Rattle.mg_lex.specs.declared.refusal.Cause.TheVariants as cause
use Rattle.mg_lex.specs.declared.token.Token.{Token}
use Rattle.mg_lex.specs.declared.token.TokenKind.TheVariants as kind
use Rattle.mg_lex.specs.Number.{number_value}
use Rattle.mg_lex.specs.Line.{is_allowed, is_blank, BeginsComment, BeginsNone, Cuts, IsReached, IsTaken, IsWithinLimits, token_bytes}

-- the number of a cause: at one place the cause with the least number is answered
abbrev pub cause_number : Cause → ℕ
cause_number cause.BadByte = 1
cause_number cause.BadToken = 2
cause_number cause.Unexpected = 3
cause_number cause.LineTooLong = 4
cause_number cause.NumberTooLarge = 5
cause_number cause.WordTooLong = 6
cause_number cause.TooMany = 7
cause_number cause.NameTaken = 8
cause_number cause.UnknownName = 9
cause_number cause.WrongKind = 10
cause_number cause.UnknownGenerator = 11
cause_number cause.GeneratorTwice = 12
cause_number cause.ImageMissing = 13
cause_number cause.ProcedureDoesNotApply = 14

-- a token is looked for at an allowed byte that is no blank and begins no comment, and none begins
pub record LacksToken (line : List ℕ) (place : ℕ) : Type 0 where
  pub reached : IsReached line place
  pub within : place < length line
  pub allowed : IsTrue (is_allowed (slice_index line place))
  pub no_blank : is_blank (slice_index line place) ≡ false
  pub no_comment : ¬ BeginsComment line place
  pub none : BeginsNone (drop place line)

-- a name with too many bytes begins
pub record HasLongName (line : List ℕ) (place : ℕ) : Type 0 where
  pub token : Token
  pub taken : IsTaken line token
  pub start : token.start ≡ place
  pub name : token.kind ≡ kind.Name
  pub long : NAME_LIMIT < token.length

-- a number that is too large begins
pub record HasLargeNumber (line : List ℕ) (place : ℕ) : Type 0 where
  pub token : Token
  pub taken : IsTaken line token
  pub start : token.start ≡ place
  pub number : token.kind ≡ kind.Number
  pub large : NUMBER_LIMIT < number_value (token_bytes line token)

-- the cause stands at the place; those that no single line shows stand nowhere here
abbrev pub Stands : List ℕ → ℕ → Cause → Type 0
Stands line place cause.BadByte = (place < length line) × (is_allowed (slice_index line place) ≡ false)
Stands line place cause.BadToken = LacksToken line place ⊎ HasLongName line place
Stands line place cause.LineTooLong = (LINE_LIMIT < length line) × (place ≡ LINE_LIMIT)
Stands line place cause.NumberTooLarge = HasLargeNumber line place
Stands line place _ = ⊥

-- no cause stands in the line
abbrev pub IsFaultless : List ℕ → Type 0
IsFaultless line = (place : ℕ) (c : Cause) → Stands line place c → ⊥

-- the cause stands at the place, no cause stands before it, and none with a less number stands there
pub record IsFirstCause (line : List ℕ) (place : ℕ) (c : Cause) : Type 0 where
  pub stands : Stands line place c
  pub first :
      (q : ℕ) (d : Cause) →
      Stands line q d →
      (place < q) ⊎ ((place ≡ q) × (cause_number c ≤ cause_number d))

-- the tokens that begin before the place: they cut the line up to it, or up to a comment, and pass no limit
pub record AreTokensBefore (line : List ℕ) (place : ℕ) (ts : List Token) : Type 0 where
  pub end : ℕ
  pub cut : Cuts line 0 ts end
  pub reaches : (place ≤ end) ⊎ BeginsComment line end
  pub before : AllByRecursion (λ t. t.start < place) ts
  pub within_limits : AllByRecursion (IsWithinLimits line) ts

-- the token that begins at the place, if one does
abbrev pub IsTokenAt : List ℕ → ℕ → Option Token → Type 0
IsTokenAt line place (Some t) = (t.start ≡ place) × IsTaken line t
IsTokenAt line place None = (t : Token) → t.start ≡ place → IsTaken line t → ⊥

-- The tokens that a line has up to a place, as the loop over the scanner's steps keeps them.
use Rattle.std.proofs.Common.{◌≡◌, ℕ, ◌+◌, ◌<◌, ◌≤◌, List, [], ◌∷◌, ◌++◌, length, sym, subst, arith, ◌⊎◌, inl, inr, ⊎_elim}
use Rattle.std.specs.List.{AllByRecursion}
use Rattle.mg_lex.specs.declared.limits.TheConstants.{LINE_LIMIT}
use Rattle.mg_lex.specs.declared.refusal.Cause.{Cause}
use Rattle.mg_lex.specs.declared.scanner.Fault.{Fault}
use Rattle.mg_lex.specs.declared.scanner.Step.TheVariants as step
use Rattle.mg_lex.specs.declared.token.Token.{Token}
use Rattle.mg_lex.specs.Line.{AreTokens, Cuts, IsWithinLimits}
use Rattle.mg_lex.specs.Cause.{AreTokensBefore, Stands}
use Rattle.mg_lex.specs.Step.{ComesNext, IsClean}
use Rattle.mg_lex.proofs.Cuts.{cut_blanks, cut_ordered, cut_push, token_some, token_within}
use Rattle.mg_lex.proofs.Firsts.{none_before}

-- The tokens of the line up to a place, all within the limits.
pub record IsReadTo (line : List ℕ) (ts : List Token) (place : ℕ) : Type 0 where
  pub cut : Cuts line 0 ts place
  pub within_limits : AllByRecursion (IsWithinLimits line) ts

pub read_to_start : (line : List ℕ) → IsReadTo line [] 0
read_to_start line =
    record { cut = record { ordered = omega arith; within = omega arith; blank = λ i after before. absurd (omega arith) }; within_limits = tt }

all_push : (P : Token → Type 0) (ts : List Token) (t : Token) → AllByRecursion P ts → P t → AllByRecursion P (ts ++ t ∷ [])
all_push P [] t all last = (last, tt)
all_push P (u ∷ us) t all last = (all.0, all_push P us t all.1 last)

-- one token more
pub read_to_token : (line : List ℕ) (ts : List Token) (from : ℕ) (t : Token) (to : ℕ) → IsReadTo line ts from → ComesNext line from (step.Token t) to → IsReadTo line (ts ++ t ∷ []) to
read_to_token line ts from t to read next =
    subst (IsReadTo line (ts ++ t ∷ [])) (sym next.3) (record {
      cut = cut_push line 0 ts from t read.cut next.0 next.1;
      within_limits = all_push (IsWithinLimits line) ts t read.within_limits next.2;
    })

-- and the place is further on
pub token_goes_on : (line : List ℕ) (from : ℕ) (t : Token) (to : ℕ) → ComesNext line from (step.Token t) to → (from < to) × (to ≤ length line)
token_goes_on line from t to next = (omega (arith, next.3, next.0.ordered, token_some line t next.1), omega (arith, next.3, token_within line t next.1))

-- at the end these are the tokens of the line
pub read_to_end : (line : List ℕ) (ts : List Token) (from to : ℕ) → IsReadTo line ts from → ComesNext line from step.End to → AreTokens line ts
read_to_end line ts from to read next =
    record { end = to; cut = cut_blanks line 0 ts from to read.cut next.0; ended = next.1; within_limits = read.within_limits }

-- tokens within the limits that end by a place begin before it, and before the limit of lines
starts_before : (line : List ℕ) (from : ℕ) (ts : List Token) (to place : ℕ) → Cuts line from ts to → AllByRecursion (IsWithinLimits line) ts → (to ≤ place) ⊎ (place ≡ LINE_LIMIT) → AllByRecursion (λ t. t.start < place) ts
starts_before line from [] to place cut fits far = tt
starts_before line from (t ∷ ts) to place cut fits far =
    let ordered = cut_ordered line (t.start + t.length) ts to cut.2 in
    let some = token_some line t cut.1 in
    let begins = fits.0.begins in
    (⊎_elim (λ behind. omega (arith, ordered.0)) (λ limit. omega arith) far, starts_before line (t.start + t.length) ts to place cut.2 fits.1 far)

-- a fault's place is at the limit of lines, or not before what was read
fault_place : (line : List ℕ) (p : ℕ) → IsClean line p → (place : ℕ) (c : Cause) → Stands line place c → (p ≤ place) ⊎ (place ≡ LINE_LIMIT)
fault_place line p clean place c stands =
    ⊎_elim (λ behind. inl behind) (λ long. let at = subst (Stands line place) long stands in inr at.1) (none_before line p clean place c stands)

-- at a fault these are the tokens before it
pub read_to_fault : (line : List ℕ) (ts : List Token) (from : ℕ) (f : Fault) (to : ℕ) → IsReadTo line ts from → ComesNext line from (step.Refused f) to → AreTokensBefore line f.place ts
read_to_fault line ts from f to read next = record {
  end = to;
  cut = cut_blanks line 0 ts from to read.cut next.0;
  reaches = next.3;
  before = starts_before line 0 ts from f.place read.cut read.within_limits (fault_place line from (record { tokens = ts; cut = read.cut; within_limits = read.within_limits }) f.place f.cause next.1.stands);
  within_limits = read.within_limits;
}

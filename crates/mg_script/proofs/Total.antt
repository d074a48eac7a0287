-- Every list of bytes is a script or is refused.
use Rattle.std.proofs.Common.{◌≡◌, ◌≢◌, ◌⊎◌, inl, inr, ⊎_elim, ℕ, ◌+◌, ◌-◌, Option, Some, None, List, [], ◌∷◌, ◌++◌, length, refl, sym, subst, arith, append-nil}
use Rattle.std.specs.Prelude.{slice_get, MatchOption, Ok}
use Rattle.std.specs.List.{AllZip}
use Rattle.std.proofs.lemmas.Bool.{cases_lt}
use Rattle.mg_lex.specs.declared.limits.TheConstants.{NUMBER_LIMIT}
use Rattle.mg_lex.specs.declared.refusal.Cause.{Cause}
use Rattle.mg_lex.specs.declared.refusal.Refused.{Refused}
use Rattle.mg_lex.specs.declared.token.Token.{Token}
use Rattle.mg_lex.specs.Cause.{cause_number, IsTokenAt, IsFirstCause as IsFirstOfBytes}
use Rattle.mg_lex.specs.Line.{AreTokens}
use Rattle.mg_lex.proofs.Total.{IsSound, IsFaulty, tokens_or_fault, large_number_or_not}
use Rattle.mg_terms.specs.declared.lexeme.Lexeme.{Lexeme}
use Rattle.mg_terms.specs.declared.lexeme.Lexeme.TheVariants as lexeme
use Rattle.mg_terms.specs.Lexeme.{IsLexemeOf}
use Rattle.mg_terms.proofs.Total.{token_lexeme, tokens_lexemes}
use Rattle.mg_script.specs.declared.counted.Counts.{Counts}
use Rattle.mg_script.specs.declared.line.LineRead.{LineRead}
use Rattle.mg_script.specs.declared.parsing.Parser.{Parser}
use Rattle.mg_script.specs.declared.script.ScriptLine.{ScriptLine}
use Rattle.mg_script.specs.Count.{AreWithinLimits}
use Rattle.mg_script.specs.Cause.{IsFirstCause}
use Rattle.mg_script.specs.Cut.{lines_of}
use Rattle.mg_script.specs.LineRead.{IsReadOf, IsNoLater, IsLineRefusal}
use Rattle.mg_script.specs.Reader.{IsFinished}
use Rattle.mg_script.specs.Script.{ReadsAs, as_it_is, too_large, one_or_none, up_to, no_counts, counted_anew, IsKept, IsSkipped, IsScript, IsRefused}
use Rattle.mg_script.proofs.Cuts.{are_lines}
use Rattle.mg_script.proofs.LineLexemes.{all_within_limits, reads_more}
use Rattle.mg_script.proofs.LinesRead.{whole_read, bytes_at_fault, nothing_at_fault, grammar_refuses, first_refuses}
use Rattle.mg_script.proofs.LineByLine.{are_within_anew, parsed_none, parsed_skipped, parsed_kept, refused_behind, AreRead as LinesAreRead, read_none, read_next, read_refused, read_all}
use Rattle.mg_script.proofs.Statements.{statement_or_fault}

-- the column of a token, or the one behind the last byte
column_of : List ℕ → Option Token → ℕ
column_of line None = length line + 1
column_of line (Some t) = t.start + 1

column_is : (line : List ℕ) (o : Option Token) → MatchOption o (column_of line o ≡ length line + 1) (λ t. column_of line o ≡ t.start + 1)
unfolding column_of
column_is line None = refl
column_is line (Some t) = refl

-- one of two causes is no later than the other
no_later_or : (p q : ℕ) (c d : Cause) → IsNoLater p c q d ⊎ IsNoLater q d p c
no_later_or p q c d =
    ⊎_elim
    (λ less. inl (inl less))
    (λ more. ⊎_elim
    (λ less. inr (inl less))
    (λ other.
    let same : p ≡ q = omega (arith, more, other) in
    ⊎_elim (λ less. inl (inr (same, omega (arith, less)))) (λ rest. inr (inr (sym same, rest))) (cases_lt (cause_number c) (cause_number d)))
    (cases_lt q p))
    (cases_lt p q)

-- no tokens or some
none_or_some : (ts : List Token) → (ts ≡ []) ⊎ (ts ≢ [])
none_or_some [] = inl refl
none_or_some (t ∷ ts) = inr (λ e. cc)

-- what a line brings: it is skipped or kept, or it is refused
abbrev LineOutcome : Counts → ℕ → List ℕ → Type 0
LineOutcome counts number line = IsSkipped line ⊎ (((k : ScriptLine) × (after : Counts) × IsKept counts number line k after) ⊎ ((r : Refused) × IsLineRefusal counts line number r))

-- a line whose bytes show no cause
module _ (counts : Counts) (number : ℕ) (line : List ℕ) (within : AreWithinLimits counts) (ts : List Token) (sound : IsSound line ts) (xs : List Lexeme) (lexemes : AllZip (IsLexemeOf line) ts xs) where
  sound_read : LineRead
  sound_read = record { tokens = ts; lexemes = xs; fault = None }

  sound_is : IsReadOf line number sound_read
  unfolding sound_read
  sound_is = whole_read {E = Unit {0}} line number (Ok sound_read) (record { tokens = sound.tokens; lexemes = lexemes; faultless = sound.faultless }) refl

  sound_kept : ts ≢ [] → (after : Counts) → IsFinished (record { lexemes = xs; counts = counts }) after → LineOutcome counts number line
  unfolding sound_read
  sound_kept some after finished = inr (inl (
    record { number = number; bytes = line; tokens = ts; lexemes = xs },
    after,
    record {
      numbered = refl;
      bytes = refl;
      tokens = sound.tokens;
      some = some;
      lexemes = lexemes;
      statement = finished.statement;
      written = finished.lexemes;
      adds = finished.adds;
      bounded = finished.bounded;
      within = finished.within within;
      faultless = nothing_at_fault counts line number sound_read sound_is finished.faultless refl;
    },
  ))

  sound_refused : ts ≢ [] → (p : ℕ) (c : Cause) → IsFirstCause counts xs p c → LineOutcome counts number line
  unfolding sound_read
  sound_refused some p c first =
      let refused : Refused = record { line = number; column = column_of line (slice_get ts p); cause = c } in
      inr (inr (refused, grammar_refuses counts line number sound_read sound_is p c first refused refl refl (column_is line (slice_get ts p)) (λ blank. some blank.0) refl))

  sound_line : ts ≢ [] → LineOutcome counts number line
  sound_line some =
      ⊎_elim (λ statement. sound_kept some statement.0 statement.1) (λ fault. sound_refused some fault.0 fault.1 fault.2) (statement_or_fault (record { lexemes = xs; counts = counts }))

-- a token is read as some lexeme
reads_as : (line : List ℕ) (t : Token) (x : Lexeme) → IsLexemeOf line t x → (y : Lexeme) × ReadsAs line t y
reads_as line t x is =
    ⊎_elim (λ large. (lexeme.Number (NUMBER_LIMIT + 1), too_large large refl)) (λ fits. (x, as_it_is fits is)) (large_number_or_not line t)

-- so are the tokens up to and with the one at a fault
read_with : (line : List ℕ) (place : ℕ) (ts : List Token) (o : Option Token) (xs : List Lexeme) → IsTokenAt line place o → AllZip (ReadsAs line) ts xs → (ys : List Lexeme) × AllZip (ReadsAs line) (ts ++ one_or_none o) ys
read_with line place ts None xs at reads = (xs, subst (λ us. AllZip (ReadsAs line) us xs) (sym (append-nil ts)) reads)
read_with line place ts (Some t) xs at reads =
    let lexeme_is = token_lexeme line t at.1.1 in
    let last = reads_as line t lexeme_is.0 lexeme_is.1 in
    (xs ++ last.0 ∷ [], reads_more line ts xs t last.0 reads last.1)

-- a line whose bytes show a cause
module _ (counts : Counts) (number : ℕ) (line : List ℕ) (faulty : IsFaulty line) where
  earlier : Refused
  earlier = record { line = number; column = faulty.place + 1; cause = faulty.cause_is }

  module _ (ys : List Lexeme) (reads : AllZip (ReadsAs line) (faulty.before ++ one_or_none faulty.at) ys) where
    faulty_read : LineRead
    faulty_read = record { tokens = faulty.before ++ one_or_none faulty.at; lexemes = ys; fault = Some earlier }

    faulty_is : IsReadOf line number faulty_read
    unfolding faulty_read earlier
    faulty_is = record {
      tokens = up_to faulty.place faulty.cause_is faulty.before faulty.at faulty.first faulty.tokens faulty.token;
      lexemes = reads;
      fault = record {
        line_number = refl;
        column = omega arith;
        first = let here : faulty.place ≡ faulty.place + 1 - 1 = omega arith in subst (λ (q : ℕ). IsFirstOfBytes line q faulty.cause_is) here faulty.first;
      };
    }

    faulty_line : LineOutcome counts number line
    unfolding faulty_read
    faulty_line =
        ⊎_elim
        (λ statement. inr (inr (earlier, bytes_at_fault counts line number faulty_read faulty_is statement.1.faultless earlier refl)))
        (λ fault.
        let p = fault.0 in
        let refused : Refused = record { line = number; column = column_of line (slice_get (faulty.before ++ one_or_none faulty.at) p); cause = fault.1 } in
        let column = column_is line (slice_get (faulty.before ++ one_or_none faulty.at) p) in
        ⊎_elim
        (λ first. inr (inr (refused, first_refuses counts line number faulty_read faulty_is p fault.1 fault.2 refused refl refl column earlier refused refl (inl (refl, first)))))
        (λ second. inr (inr (earlier, first_refuses counts line number faulty_read faulty_is p fault.1 fault.2 refused refl refl column earlier earlier refl (inr (refl, second)))))
        (no_later_or refused.column earlier.column refused.cause earlier.cause))
        (statement_or_fault (record { lexemes = ys; counts = counts }))

line_outcome : (counts : Counts) (number : ℕ) (line : List ℕ) → AreWithinLimits counts → LineOutcome counts number line
line_outcome counts number line within =
    ⊎_elim
    (λ sound.
    let tokens = sound.1.tokens in
    let lexemes = tokens_lexemes line 0 sound.0 tokens.end tokens.cut in
    ⊎_elim
    (λ none. inl (record { tokens = subst (λ ts. AreTokens line ts) none tokens; faultless = sound.1.faultless }))
    (λ some. sound_line counts number line within sound.0 sound.1 lexemes.0 lexemes.1 some)
    (none_or_some sound.0))
    (λ faulty.
    let before = faulty.tokens in
    let lexemes = tokens_lexemes line 0 faulty.before before.end before.cut in
    let all = read_with line faulty.place faulty.before faulty.at lexemes.0 faulty.token (all_within_limits line faulty.before lexemes.0 before.within_limits lexemes.1) in
    faulty_line counts number line faulty all.0 all.1)
    (tokens_or_fault line)

-- the lines that are still to come
abbrev pub ScriptOrRefused : List ℕ → Type 0
ScriptOrRefused bytes = ((script : List ScriptLine) × IsScript bytes script) ⊎ ((r : Refused) × IsRefused bytes r)

module _ (bytes : List ℕ) where
  lines_read : (lines : List (List ℕ)) (parser : Parser) → LinesAreRead bytes lines parser → ScriptOrRefused bytes
  lines_read [] parser read = inl (parser.script, read_all bytes [] parser read refl)
  lines_read (line ∷ left) parser read =
      let before = counted_anew parser.counts in
      let number = parser.number + 1 in
      ⊎_elim
      (λ skipped.
      let new : Parser = record { script = parser.script; counts = parser.counts; number = parser.number + 1 } in
      lines_read left new
      (read_next bytes (line ∷ left) left line parser read refl new (λ front parsed. parsed_skipped front line parser new parsed refl refl refl skipped)))
      (λ other. ⊎_elim
      (λ kept.
      let new : Parser = record { script = parser.script ++ kept.0 ∷ []; counts = kept.1; number = parser.number + 1 } in
      lines_read left new
      (read_next bytes (line ∷ left) left line parser read refl new (λ front parsed. parsed_kept front line parser new parsed refl number before kept.0 refl refl refl kept.2)))
      (λ refused. inr (
        refused.0,
        read_refused bytes (line ∷ left) left line parser read refl refused.0
            (λ front parsed. refused_behind front line parser number before refused.0 parsed refl refl refused.1),
      ))
      other)
      (line_outcome before number line (are_within_anew parser.counts before refl read.parsed.within))

-- every list of bytes
pub script_or_refusal : (bytes : List ℕ) → ScriptOrRefused bytes
script_or_refusal bytes =
    let parser : Parser = record { script = []; counts = no_counts; number = 0 } in
    lines_read bytes (lines_of bytes) parser (read_none bytes (lines_of bytes) parser (are_lines bytes) (parsed_none parser refl refl refl))

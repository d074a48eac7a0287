-- Lines are read one by one.
use Rattle.std.proofs.Common.{◌≡◌, ℕ, ◌+◌, ◌<◌, ◌≤◌, List, [], ◌∷◌, ◌++◌, length, refl, sym, ap, subst, ◌∙◌, arith, inl, inr, append_assoc, append-nil, length-append, lit≤}
use Rattle.mg_lex.specs.declared.refusal.Refused.{Refused}
use Rattle.mg_script.specs.declared.counted.Counted.{Counted}
use Rattle.mg_script.specs.declared.counted.Counted.TheVariants as counted
use Rattle.mg_script.specs.declared.counted.Counts.{Counts}
use Rattle.mg_script.specs.declared.lines.TheConstants.{FEED, RETURN}
use Rattle.mg_script.specs.declared.parsing.Parser.{Parser}
use Rattle.mg_script.specs.declared.script.ScriptLine.{ScriptLine}
use Rattle.mg_script.specs.Count.{count_of, limit_of, AreWithinLimits}
use Rattle.mg_script.specs.Lines.{AreLines}
use Rattle.mg_script.specs.Parsed.{AreParsed, IsRefusedBehind}
use Rattle.mg_script.specs.LineRead.{IsLineRefusal}
use Rattle.mg_script.specs.Script.{no_counts, counted_anew, IsKept, IsSkipped, AreKept, IsScript, IsRefused}
use Rattle.mg_script.proofs.Scripts.{keeps_line, skips_line}

-- a line is no longer than the bytes, and there are no more lines before it
pub line_within : (bytes : List ℕ) (front : List (List ℕ)) (line : List ℕ) (back : List (List ℕ)) → AreLines bytes (front ++ line ∷ back) → (length line ≤ length bytes) × (length front < length bytes)
line_within bytes [] line back (inl (rest, (plain, inl (cut, end)), more)) =
    let bytes_are = ap length cut ∙ length-append line (FEED ∷ rest) in (omega arith, omega arith)
line_within bytes [] line back (inl (rest, (plain, inr cut), more)) =
    let bytes_are = ap length cut ∙ length-append line (RETURN ∷ FEED ∷ rest) in (omega arith, omega arith)
line_within bytes [] [] back (inr ((cut, some, plain), none)) = absurd (some refl)
line_within bytes [] (b ∷ line) back (inr ((cut, some, plain), none)) =
    let bytes_are = ap length cut in (omega arith, omega arith)
line_within bytes (l ∷ front) line back (inl (rest, (plain, inl (cut, end)), more)) =
    let bytes_are = ap length cut ∙ length-append l (FEED ∷ rest) in
    let h = line_within rest front line back more in
    (omega (arith, h.0), omega (arith, h.1))
line_within bytes (l ∷ front) line back (inl (rest, (plain, inr cut), more)) =
    let bytes_are = ap length cut ∙ length-append l (RETURN ∷ FEED ∷ rest) in
    let h = line_within rest front line back more in
    (omega (arith, h.0), omega (arith, h.1))
line_within bytes (l ∷ front) line back (inr ((cut, some, plain), none)) =
    let lengths = ap length none in absurd (omega (arith, length-append front (line ∷ back)))

none_within : (k : Counted) → count_of no_counts k ≤ limit_of k
none_within counted.Groups = lit≤ tt
none_within counted.Words = lit≤ tt
none_within counted.Subgroups = lit≤ tt
none_within counted.Maps = lit≤ tt
none_within counted.Questions = lit≤ tt
none_within counted.Generators = lit≤ tt
none_within counted.Relators = lit≤ tt
none_within counted.Members = lit≤ tt
none_within counted.Reports = lit≤ tt

anew_within : (counts : Counts) → AreWithinLimits counts → (k : Counted) → count_of (counted_anew counts) k ≤ limit_of k
anew_within counts within counted.Groups = within.counted counted.Groups
anew_within counts within counted.Words = within.counted counted.Words
anew_within counts within counted.Subgroups = within.counted counted.Subgroups
anew_within counts within counted.Maps = within.counted counted.Maps
anew_within counts within counted.Questions = within.counted counted.Questions
anew_within counts within counted.Generators = lit≤ tt
anew_within counts within counted.Relators = lit≤ tt
anew_within counts within counted.Members = lit≤ tt
anew_within counts within counted.Reports = within.counted counted.Reports

pub are_within_anew : (counts anew : Counts) → anew ≡ counted_anew counts → AreWithinLimits counts → AreWithinLimits anew
are_within_anew counts anew is within =
    subst AreWithinLimits (sym is) (record { counted = anew_within counts within; letters = within.letters })

-- before the first line
pub parsed_none : (parser : Parser) → parser.script ≡ [] → parser.counts ≡ no_counts → parser.number ≡ 0 → AreParsed [] parser
parsed_none parser script counts number = record {
  kept = (script, counts);
  number = number;
  within = subst AreWithinLimits (sym counts) (record { counted = none_within; letters = lit≤ tt });
}

-- one line more
module _ (front : List (List ℕ)) (line : List ℕ) (old new : Parser) (parsed : AreParsed front old) (number : new.number ≡ old.number + 1) where
  count : new.number ≡ length (front ++ line ∷ [])
  count = omega (arith, parsed.number, length-append front (line ∷ []))

  pub parsed_skipped : new.script ≡ old.script → new.counts ≡ old.counts → IsSkipped line → AreParsed (front ++ line ∷ []) new
  parsed_skipped script counts skipped = record {
    kept = subst (λ s. AreKept no_counts 1 (front ++ line ∷ []) s new.counts) (sym script)
        (subst (AreKept no_counts 1 (front ++ line ∷ []) old.script) (sym counts) (skips_line no_counts 1 front line old.script old.counts parsed.kept skipped));
    number = count;
    within = subst AreWithinLimits (sym counts) parsed.within;
  }

  pub parsed_kept : (n : ℕ) (before : Counts) (k : ScriptLine) → n ≡ old.number + 1 → before ≡ counted_anew old.counts → new.script ≡ old.script ++ k ∷ [] → IsKept before n line k new.counts → AreParsed (front ++ line ∷ []) new
  parsed_kept n before k at is script keeps =
      let here : n ≡ 1 + length front = omega (arith, parsed.number) in
      let keeps_here = subst (λ (m : ℕ). IsKept (counted_anew old.counts) m line k new.counts) here (subst (λ c. IsKept c n line k new.counts) is keeps) in
      record {
        kept = subst (λ s. AreKept no_counts 1 (front ++ line ∷ []) s new.counts) (sym script)
            (keeps_line no_counts 1 front line old.script k old.counts new.counts parsed.kept keeps_here);
        number = count;
        within = keeps.within;
      }

pub refused_behind : (front : List (List ℕ)) (line : List ℕ) (old : Parser) (n : ℕ) (before : Counts) (r : Refused) → AreParsed front old → n ≡ old.number + 1 → before ≡ counted_anew old.counts → IsLineRefusal before line n r → IsRefusedBehind front line r
refused_behind front line old n before r parsed at is refusal =
    let here : n ≡ length front + 1 = omega (arith, parsed.number) in
    record {
      script = old.script;
      counts = old.counts;
      kept = parsed.kept;
      refusal = subst (λ (m : ℕ). IsLineRefusal (counted_anew old.counts) line m r) here (subst (λ c. IsLineRefusal c line n r) is refusal);
    }

-- the lines that have been read, and those that are still to come
pub record AreRead (bytes : List ℕ) (left : List (List ℕ)) (parser : Parser) : Type 0 where
  pub front : List (List ℕ)
  pub cut : AreLines bytes (front ++ left)
  pub parsed : AreParsed front parser

pub read_none : (bytes : List ℕ) (lines : List (List ℕ)) (parser : Parser) → AreLines bytes lines → AreParsed [] parser → AreRead bytes lines parser
read_none bytes lines parser cut parsed = record { front = []; cut = cut; parsed = parsed }

module _ (bytes : List ℕ) (lines left : List (List ℕ)) (line : List ℕ) (parser : Parser) (read : AreRead bytes lines parser) (split : lines ≡ line ∷ left) where
  next_cut : AreLines bytes (read.front ++ line ∷ left)
  next_cut = subst (λ ls. AreLines bytes (read.front ++ ls)) split read.cut

  pub next_within : (length line ≤ length bytes) × (parser.number < length bytes)
  next_within =
      let within = line_within bytes read.front line left next_cut in
      (within.0, omega (arith, read.parsed.number, within.1))

  pub read_next : (new : Parser) → ((front : List (List ℕ)) → AreParsed front parser → AreParsed (front ++ line ∷ []) new) → AreRead bytes left new
  read_next new takes = record {
    front = read.front ++ line ∷ [];
    cut = subst (AreLines bytes) (sym (append_assoc read.front (line ∷ []) left)) next_cut;
    parsed = takes read.front read.parsed;
  }

  pub read_refused : (r : Refused) → ((front : List (List ℕ)) → AreParsed front parser → IsRefusedBehind front line r) → IsRefused bytes r
  read_refused r refuses =
      let behind = refuses read.front read.parsed in
      record {
        front = read.front;
        line = line;
        back = left;
        cut = next_cut;
        script = behind.script;
        counts = behind.counts;
        kept = behind.kept;
        numbered = behind.refusal.numbered;
        column = behind.refusal.column;
        first = behind.refusal.first;
      }

pub read_all : (bytes : List ℕ) (lines : List (List ℕ)) (parser : Parser) → AreRead bytes lines parser → lines ≡ [] → IsScript bytes parser.script
read_all bytes lines parser read none = record {
  lines = read.front;
  cut = subst (AreLines bytes) (ap (λ ls. read.front ++ ls) none ∙ append-nil read.front) read.cut;
  counts = parser.counts;
  kept = read.parsed.kept;
}

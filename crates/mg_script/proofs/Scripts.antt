-- Bytes are a script in one way, or are refused in one way, and never both.
use Rattle.std.proofs.Common.{◌≡◌, ℕ, ◌+◌, List, [], ◌∷◌, ◌++◌, length, refl, sym, ap, ◌∙◌, subst, arith, ◌⊎◌, inl, inr, ⊎_elim, append-nil}
use Rattle.std.specs.Prelude.{Some, slice_get}
use Rattle.std.specs.List.{AllZip}
use Rattle.mg_lex.specs.declared.refusal.Cause.{Cause}
use Rattle.mg_lex.specs.declared.refusal.Refused.{Refused}
use Rattle.mg_lex.specs.declared.token.Token.{Token}
use Rattle.mg_lex.specs.Cause.{cause_number}
use Rattle.mg_lex.specs.Refusal.{place_of}
use Rattle.mg_lex.proofs.Cuts.{one_whole}
use Rattle.mg_terms.specs.declared.lexeme.Lexeme.{Lexeme}
use Rattle.mg_script.specs.declared.counted.Counted.{Counted}
use Rattle.mg_script.specs.declared.counted.Counted.TheVariants as counted
use Rattle.mg_script.specs.declared.counted.Counts.{Counts}
use Rattle.mg_script.specs.declared.script.ScriptLine.{ScriptLine}
use Rattle.mg_script.specs.Count.{count_of, Adds}
use Rattle.mg_script.specs.Script.{ReadsAs, all, StandsInLine, of_bytes, of_grammar, of_end, IsFirstInLine, counted_anew, no_counts, IsKept, IsSkipped, AreKept, IsScript, IsRefused}
use Rattle.mg_script.specs.Statement.{Piece, statement_pieces}
use Rattle.mg_script.proofs.Causes.{same_number}
use Rattle.mg_script.proofs.Cuts.{one_cut}
use Rattle.mg_script.proofs.LineLexemes.{one_list, all_within_limits}
use Rattle.mg_script.proofs.LineTokens.{one_read}
use Rattle.mg_script.proofs.Trees.{one_statement}

-- no cause stands in a line that is skipped
skipped_faultless : (counts : Counts) (line : List ℕ) → IsSkipped line → (place : ℕ) (c : Cause) → StandsInLine counts line place c → ⊥
skipped_faultless counts line skipped _ _ (of_bytes place c stands) = skipped.faultless place c stands
skipped_faultless counts line skipped _ _ (of_grammar ts xs p place c read reads stands starts) =
    let none = one_read line ts [] read (all [] skipped.tokens skipped.faultless) in
    let at = subst (λ us. slice_get us p ≡ Some starts.0) none starts.1 in
    absurd cc
skipped_faultless counts line skipped _ _ (of_end ts xs c tokens some are stands) =
    some (one_whole line ts [] tokens skipped.tokens)

-- counts are known by what they count
abbrev counts_of : ℕ → ℕ → ℕ → ℕ → ℕ → ℕ → ℕ → ℕ → ℕ → ℕ → Counts
counts_of groups words subgroups maps questions generators relators members reports letters = record {
  groups = groups;
  words = words;
  subgroups = subgroups;
  maps = maps;
  questions = questions;
  generators = generators;
  relators = relators;
  members = members;
  reports = reports;
  letters = letters;
}

same_counts : (a b : Counts) → ((k : Counted) → count_of a k ≡ count_of b k) → a.letters ≡ b.letters → a ≡ b
same_counts a b counts letters =
    let groups = counts counted.Groups in
    let words = counts counted.Words in
    let subgroups = counts counted.Subgroups in
    let maps = counts counted.Maps in
    let questions = counts counted.Questions in
    let generators = counts counted.Generators in
    let relators = counts counted.Relators in
    let members = counts counted.Members in
    let reports = counts counted.Reports in
    let same : counts_of a.groups a.words a.subgroups a.maps a.questions a.generators a.relators a.members a.reports a.letters ≡ counts_of b.groups b.words b.subgroups b.maps b.questions b.generators b.relators b.members b.reports b.letters = cc in
    same

same_sum : (before a b : Counts) (ps : List Piece) → Adds ps before a → Adds ps before b → a ≡ b
same_sum before a b ps adds adds_too =
    same_counts a b (λ k. adds.counted k ∙ sym (adds_too.counted k)) (adds.letters ∙ sym adds_too.letters)

abbrev line_of : ℕ → List ℕ → List Token → List Lexeme → ScriptLine
line_of number bytes tokens lexemes = record { number = number; bytes = bytes; tokens = tokens; lexemes = lexemes }

-- a line is kept in one way
same_kept : (counts : Counts) (number : ℕ) (line : List ℕ) (k l : ScriptLine) (a b : Counts) → IsKept counts number line k a → IsKept counts number line l b → (k ≡ l) × (a ≡ b)
same_kept counts number line k l a b kept kept_too =
    let numbers : k.number ≡ l.number = kept.numbered ∙ sym kept_too.numbered in
    let bytes : k.bytes ≡ l.bytes = kept.bytes ∙ sym kept_too.bytes in
    let tokens : k.tokens ≡ l.tokens = one_whole line k.tokens l.tokens kept.tokens kept_too.tokens in
    let reads = all_within_limits line k.tokens k.lexemes kept.tokens.within_limits kept.lexemes in
    let reads_too = all_within_limits line l.tokens l.lexemes kept_too.tokens.within_limits kept_too.lexemes in
    let lexemes : k.lexemes ≡ l.lexemes = one_list line l.tokens k.lexemes l.lexemes (subst (λ ts. AllZip (ReadsAs line) ts k.lexemes) tokens reads) reads_too in
    let statements = one_statement kept.statement kept_too.statement (kept.written ∙ lexemes ∙ sym kept_too.written) in
    let lines : line_of k.number k.bytes k.tokens k.lexemes ≡ line_of l.number l.bytes l.tokens l.lexemes = cc in
    (lines, same_sum counts a b (statement_pieces kept_too.statement) (subst (λ s. Adds (statement_pieces s) counts a) statements kept.adds) kept_too.adds)

not_both : (counts : Counts) (number : ℕ) (line : List ℕ) (k : ScriptLine) (a : Counts) → IsSkipped line → IsKept counts number line k a → ⊥
not_both counts number line k a skipped kept = kept.some (one_whole line k.tokens [] kept.tokens skipped.tokens)

-- lines are kept in one way
one_keeping : (counts : Counts) (number : ℕ) (lines : List (List ℕ)) (s t : List ScriptLine) (a b : Counts) → AreKept counts number lines s a → AreKept counts number lines t b → (s ≡ t) × (a ≡ b)
one_keeping counts number [] s t a b kept kept_too = (kept.0 ∙ sym kept_too.0, kept.1 ∙ sym kept_too.1)
one_keeping counts number (line ∷ lines) s t a b (inl kept) (inl kept_too) =
    one_keeping counts (number + 1) lines s t a b kept.1 kept_too.1
one_keeping counts number (line ∷ lines) s t a b (inl kept) (inr (first, others, mid, split, keeps, rest)) =
    absurd (not_both (counted_anew counts) number line first mid kept.0 keeps)
one_keeping counts number (line ∷ lines) s t a b (inr (first, others, mid, split, keeps, rest)) (inl kept) =
    absurd (not_both (counted_anew counts) number line first mid kept.0 keeps)
one_keeping counts number (line ∷ lines) s t a b (inr (k, ks, mid, split, keeps, rest)) (inr (l, ls, mid_too, split_too, keeps_too, rest_too)) =
    let same = same_kept (counted_anew counts) number line k l mid mid_too keeps keeps_too in
    let others = one_keeping mid_too (number + 1) lines ks ls a b (subst (λ c. AreKept c (number + 1) lines ks a) same.1 rest) rest_too in
    let firsts = same.0 in
    let seconds = others.0 in
    let lists : s ≡ t = cc in
    (lists, others.1)

pub one_script : (bytes : List ℕ) (s t : List ScriptLine) → IsScript bytes s → IsScript bytes t → s ≡ t
one_script bytes s t script script_too =
    let lines = one_cut bytes script.lines script_too.lines script.cut script_too.cut in
    (one_keeping no_counts 1 script_too.lines s t script.counts script_too.counts (subst (λ ls. AreKept no_counts 1 ls s script.counts) lines script.kept) script_too.kept).0

-- a cause stands in the line behind those that are kept
pub record Fails (counts : Counts) (number : ℕ) (front : List (List ℕ)) (line : List ℕ) (place : ℕ) (c : Cause) : Type 0 where
  pub script : List ScriptLine
  pub mid : Counts
  pub kept : AreKept counts number front script mid
  pub first : IsFirstInLine (counted_anew mid) line place c

-- it doesn't in a line that is kept or skipped
no_failure : (counts : Counts) (number : ℕ) (line : List ℕ) (lines : List (List ℕ)) (s : List ScriptLine) (a : Counts) (place : ℕ) (c : Cause) → AreKept counts number (line ∷ lines) s a → IsFirstInLine (counted_anew counts) line place c → ⊥
no_failure counts number line lines s a place c (inl kept) first =
    skipped_faultless (counted_anew counts) line kept.0 place c first.stands
no_failure counts number line lines s a place c (inr (k, ks, mid, split, keeps, rest)) first = keeps.faultless place c first.stands

-- the lines behind the first one
behind_kept : (counts : Counts) (number : ℕ) (line : List ℕ) (front : List (List ℕ)) (s : List ScriptLine) (a : Counts) → AreKept counts number (line ∷ front) s a → (mid : Counts) × (t : List ScriptLine) × AreKept mid (number + 1) front t a × ((IsSkipped line × (mid ≡ counts)) ⊎ ((k : ScriptLine) × IsKept (counted_anew counts) number line k mid))
behind_kept counts number line front s a (inl kept) = (counts, s, kept.1, inl (kept.0, refl))
behind_kept counts number line front s a (inr (k, ks, mid, split, keeps, rest)) = (mid, ks, rest, inr (k, keeps))

one_mid : (counts : Counts) (number : ℕ) (line : List ℕ) (a b : Counts) → (IsSkipped line × (a ≡ counts)) ⊎ ((k : ScriptLine) × IsKept (counted_anew counts) number line k a) → (IsSkipped line × (b ≡ counts)) ⊎ ((k : ScriptLine) × IsKept (counted_anew counts) number line k b) → a ≡ b
one_mid counts number line a b (inl skipped) (inl skipped_too) = skipped.1 ∙ sym skipped_too.1
one_mid counts number line a b (inl skipped) (inr kept) = absurd (not_both (counted_anew counts) number line kept.0 b skipped.0 kept.1)
one_mid counts number line a b (inr kept) (inl skipped) = absurd (not_both (counted_anew counts) number line kept.0 a skipped.0 kept.1)
one_mid counts number line a b (inr kept) (inr kept_too) = (same_kept (counted_anew counts) number line kept.0 kept_too.0 a b kept.1 kept_too.1).1

never_both_from : (counts : Counts) (number : ℕ) (front : List (List ℕ)) (line : List ℕ) (back : List (List ℕ)) (s t : List ScriptLine) (a b : Counts) (place : ℕ) (c : Cause) → AreKept counts number (front ++ line ∷ back) s a → AreKept counts number front t b → IsFirstInLine (counted_anew b) line place c → ⊥
never_both_from counts number [] line back s t a b place c kept kept_front first =
    no_failure counts number line back s a place c kept (subst (λ d. IsFirstInLine (counted_anew d) line place c) kept_front.1 first)
never_both_from counts number (l ∷ front) line back s t a b place c kept kept_front first =
    let h = behind_kept counts number l (front ++ line ∷ back) s a kept in
    let k = behind_kept counts number l front t b kept_front in
    let mids = one_mid counts number l h.0 k.0 h.3 k.3 in
    never_both_from k.0 (number + 1) front line back h.1 k.1 a b place c (subst (λ d. AreKept d (number + 1) (front ++ line ∷ back) h.1 a) mids h.2) k.2 first

pub never_both : (bytes : List ℕ) (s : List ScriptLine) (r : Refused) → IsScript bytes s → IsRefused bytes r → ⊥
never_both bytes s r script refused =
    let lines = one_cut bytes script.lines (refused.front ++ refused.line ∷ refused.back) script.cut refused.cut in
    never_both_from no_counts 1 refused.front refused.line refused.back s refused.script script.counts refused.counts (place_of r) r.cause
    (subst (λ ls. AreKept no_counts 1 ls s script.counts) lines script.kept) refused.kept refused.first

-- a line has one first cause, at one place
one_first_in_line : (counts : Counts) (line : List ℕ) (p q : ℕ) (c d : Cause) → IsFirstInLine counts line p c → IsFirstInLine counts line q d → (p ≡ q) × (c ≡ d)
one_first_in_line counts line p q c d first second =
    let up = first.first q d second.stands in
    let down = second.first p c first.stands in
    ⊎_elim (λ less. ⊎_elim (λ more. absurd (omega arith)) (λ same. absurd (omega (arith, same.0))) down)
    (λ same. ⊎_elim (λ more. absurd (omega (arith, same.0)))
    (λ back. let numbers : cause_number c ≡ cause_number d = omega (arith, same.1, back.1) in (same.0, same_number c d numbers))
    down)
    up

-- and bytes have one line in which the first one stands
one_failure : (counts : Counts) (number : ℕ) (front front_too : List (List ℕ)) (line line_too : List ℕ) (back back_too : List (List ℕ)) (p q : ℕ) (c d : Cause) → front ++ line ∷ back ≡ front_too ++ line_too ∷ back_too → Fails counts number front line p c → Fails counts number front_too line_too q d → (length front ≡ length front_too) × (p ≡ q) × (c ≡ d)
one_failure counts number [] [] line line_too back back_too p q c d same fails fails_too =
    let lines : line ≡ line_too = cc in
    let at_start = subst (λ e. IsFirstInLine (counted_anew e) line p c) fails.kept.1 fails.first in
    let at_start_too = subst (λ e. IsFirstInLine (counted_anew e) line_too q d) fails_too.kept.1 fails_too.first in
    let firsts = one_first_in_line (counted_anew counts) line_too p q c d (subst (λ l. IsFirstInLine (counted_anew counts) l p c) lines at_start) at_start_too in
    (refl, firsts.0, firsts.1)
one_failure counts number [] (l ∷ front_too) line line_too back back_too p q c d same fails fails_too =
    let lines : line ≡ l = cc in
    let at_start = subst (λ e. IsFirstInLine (counted_anew e) line p c) fails.kept.1 fails.first in
    absurd (no_failure counts number l front_too fails_too.script fails_too.mid p c fails_too.kept (subst (λ m. IsFirstInLine (counted_anew counts) m p c) lines at_start))
one_failure counts number (l ∷ front) [] line line_too back back_too p q c d same fails fails_too =
    let lines : line_too ≡ l = cc in
    let at_start = subst (λ e. IsFirstInLine (counted_anew e) line_too q d) fails_too.kept.1 fails_too.first in
    absurd (no_failure counts number l front fails.script fails.mid q d fails.kept (subst (λ m. IsFirstInLine (counted_anew counts) m q d) lines at_start))
one_failure counts number (l ∷ front) (m ∷ front_too) line line_too back back_too p q c d same fails fails_too =
    let heads : l ≡ m = cc in
    let tails : front ++ line ∷ back ≡ front_too ++ line_too ∷ back_too = cc in
    let h = behind_kept counts number l front fails.script fails.mid fails.kept in
    let k = behind_kept counts number m front_too fails_too.script fails_too.mid fails_too.kept in
    let mids = one_mid counts number m h.0 k.0 (subst (λ n. (IsSkipped n × (h.0 ≡ counts)) ⊎ ((j : ScriptLine) × IsKept (counted_anew counts) number n j h.0)) heads h.3) k.3 in
    let rest = one_failure k.0 (number + 1) front front_too line line_too back back_too p q c d tails
    (record { script = h.1; mid = fails.mid; kept = subst (λ e. AreKept e (number + 1) front h.1 fails.mid) mids h.2; first = fails.first })
    (record { script = k.1; mid = fails_too.mid; kept = k.2; first = fails_too.first }) in
    let lengths = rest.0 in
    (omega arith, rest.1, rest.2)

abbrev refused_of : ℕ → ℕ → Cause → Refused
refused_of line column cause = record { line = line; column = column; cause = cause }

pub one_refusal : (bytes : List ℕ) (r s : Refused) → IsRefused bytes r → IsRefused bytes s → r ≡ s
one_refusal bytes r s refused refused_too =
    let lines = one_cut bytes (refused.front ++ refused.line ∷ refused.back) (refused_too.front ++ refused_too.line ∷ refused_too.back) refused.cut refused_too.cut in
    let same = one_failure no_counts 1 refused.front refused_too.front refused.line refused_too.line refused.back refused_too.back (place_of r) (place_of s) r.cause s.cause lines
    (record { script = refused.script; mid = refused.counts; kept = refused.kept; first = refused.first })
    (record { script = refused_too.script; mid = refused_too.counts; kept = refused_too.kept; first = refused_too.first }) in
    let numbers : r.line ≡ s.line = omega (arith, refused.numbered, refused_too.numbered, same.0) in
    let columns : r.column ≡ s.column = omega (arith, refused.column, refused_too.column, same.1) in
    let causes = same.2 in
    let refusals : refused_of r.line r.column r.cause ≡ refused_of s.line s.column s.cause = cc in
    refusals

-- one line more
kept_one : (counts : Counts) (number : ℕ) (line : List ℕ) (k : ScriptLine) (a : Counts) → IsKept (counted_anew counts) number line k a → AreKept counts number (line ∷ []) (k ∷ []) a
kept_one counts number line k a keeps = inr (k, [], a, refl, keeps, (refl, refl))

pub keeps_more : (counts : Counts) (number : ℕ) (front back : List (List ℕ)) (s t : List ScriptLine) (a b : Counts) → AreKept counts number front s a → AreKept a (number + length front) back t b → AreKept counts number (front ++ back) (s ++ t) b
keeps_more counts number [] back s t a b kept more =
    let n : number + 0 ≡ number = omega arith in
    let here = subst (λ c. AreKept c number back t b) kept.1 (subst (λ (m : ℕ). AreKept a m back t b) n more) in
    subst (λ r. AreKept counts number back (r ++ t) b) (sym kept.0) here
keeps_more counts number (line ∷ front) back s t a b (inl kept) more =
    let n : number + length (line ∷ front) ≡ number + 1 + length front = omega arith in
    inl (kept.0, keeps_more counts (number + 1) front back s t a b kept.1 (subst (λ (m : ℕ). AreKept a m back t b) n more))
keeps_more counts number (line ∷ front) back s t a b (inr (k, ks, mid, split, keeps, rest)) more =
    let n : number + length (line ∷ front) ≡ number + 1 + length front = omega arith in
    inr (k, ks ++ t, mid, ap (λ r. r ++ t) split, keeps, keeps_more mid (number + 1) front back ks t a b rest (subst (λ (m : ℕ). AreKept a m back t b) n more))

pub keeps_line : (counts : Counts) (number : ℕ) (front : List (List ℕ)) (line : List ℕ) (s : List ScriptLine) (k : ScriptLine) (a b : Counts) → AreKept counts number front s a → IsKept (counted_anew a) (number + length front) line k b → AreKept counts number (front ++ line ∷ []) (s ++ k ∷ []) b
keeps_line counts number front line s k a b kept keeps =
    keeps_more counts number front (line ∷ []) s (k ∷ []) a b kept (kept_one a (number + length front) line k b keeps)

pub skips_line : (counts : Counts) (number : ℕ) (front : List (List ℕ)) (line : List ℕ) (s : List ScriptLine) (a : Counts) → AreKept counts number front s a → IsSkipped line → AreKept counts number (front ++ line ∷ []) s a
skips_line counts number front line s a kept skipped =
    subst (λ t. AreKept counts number (front ++ line ∷ []) t a) (append-nil s)
    (keeps_more counts number front (line ∷ []) s [] a a kept (inl (skipped, (refl, refl))))

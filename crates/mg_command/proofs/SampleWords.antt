-- Clap takes exactly the words that are a text with the flag before or after it, the flag, or nothing, and reads these.
use Rattle.std.proofs.Common.{◌≡◌, ℕ, Bool, true, false, List, [], ◌∷◌, Option, Some, None, refl, sym, ap, subst, ◌∙◌, codes, ◌||◌}
use Rattle.std.specs.List.{fold}
use Rattle.std.specs.Option.{option_map_or}
use Rattle.clap.specs.Walk.{Row, Walk, Text, first_of, one_of, idle, settled_rows, walked, with_default, nothing_held, short_or_plain, after_step, reading_by}
use Rattle.clap.specs.Simple.{built, matches_of}
use Rattle.clap.specs.Kinds.{or_else}
use Rattle.clap.specs.Faults.{bundle_fault, fault_of, settle_fault, step_fault, turn_fault, walk_fault, defaults_fault}
use Rattle.clap.specs.declared.parser.matches.ValueSource.TheVariants.{DefaultValue}
use Rattle.clap.proofs.FaultLemmas.{leaf_fault}
use Rattle.mg_command.specs.Words.{SaysSample, alone, before, after}
use Rattle.mg_command.specs.Reading.{sample_app, has_dashes, IsSampled}
use Rattle.mg_command.proofs.Plain.{IsPlain, number_plain}
use Rattle.mg_command.proofs.Turns.{first_none, second_none, holding, standing, turn_is, walked_is}
use Rattle.mg_command.proofs.RunWords.{no_dash}
use Rattle.mg_command.proofs.SampleWalk.{S, run_rule, run_row, number_row, Given, none, number, flag, number_first, flag_first, pending_number, at, with_number, with_flag, More, is_number, is_flag, turn}

-- the words lead from one place to another
abbrev Leads : Given → List Text → Given → Type 0
Leads g [] end = g ≡ end
Leads g (word ∷ words) end = (m : Given) × More g word m × Leads m words end

abbrev Ends : Given → List Text → Given → Type 0
Ends g words end = fold (walked S.rules []) (at g) words ≡ at end

abbrev Walked : Given → List Text → Type 0
Walked g words = (end : Given) × Leads g words end × Ends g words end

walks : (words : List Text) (g : Given) → has_dashes words ≡ false → walk_fault S [] (at g) words ≡ [] → Walked g words
unfolding walk_fault
walks [] g plain passed = (g, refl, refl)
walks (word ∷ words) g plain passed =
    let t = turn g word (no_dash word words plain).0 (first_none _ _ passed) in
    let more = walks words t.0 (no_dash word words plain).1 (subst (λ (w : Walk). walk_fault S [] w words ≡ []) t.2 (second_none (turn_fault S [] (at g) word) _ passed)) in
    (more.0, (t.0, t.1, more.1), subst (λ (w : Walk). fold (walked S.rules []) w words ≡ at more.0) (sym t.2) more.2)

-- ---- the end

-- the flag where it is not given
abbrev no_run : Row
no_run = record { id = codes "run"; values = codes "false" ∷ []; count = None; source = Some DefaultValue; reading = reading_by run_rule }

abbrev final : Given → List Row
final none = no_run ∷ []
final (number v) = number_row v ∷ no_run ∷ []
final flag = run_row ∷ []
final (number_first v) = number_row v ∷ run_row ∷ []
final (flag_first v) = run_row ∷ number_row v ∷ []

finish : (g : Given) → fold with_default (settled_rows S.rules (at g).held.pending (at g).held.rows) S.rules ≡ final g
finish none = refl
finish (number v) = refl
finish flag = refl
finish (number_first v) = refl
finish (flag_first v) = refl

abbrev HasEnd : List Text → Given → Type 0
HasEnd words end = matches_of sample_app words ≡ final end

has_end : (words : List Text) (end : Given) → Ends none words end → HasEnd words end
has_end words end is = ap (λ (w : Walk). fold with_default (settled_rows S.rules w.held.pending w.held.rows) S.rules) is ∙ finish end

abbrev Taken : List Text → Type 0
Taken words = (end : Given) × Leads none words end × HasEnd words end

taken : (words : List Text) → has_dashes words ≡ false → fault_of sample_app words ≡ [] → Taken words
taken words plain passed =
    let level = sym (leaf_fault (built sample_app) nothing_held words refl) ∙ passed in
    let more = walks words none plain (first_none _ _ level) in
    (more.0, more.1, has_end words more.0 more.2)

-- ---- the values

abbrev pub flag_text : Bool → Text
flag_text true = codes "true"
flag_text false = codes "false"

pub flag_told : (runs : Bool) (text : Option Text) → (text ≡ Some (codes "true") → runs ≡ true) → (text ≡ Some (codes "false") → runs ≡ false) → (b : Bool) → text ≡ Some (flag_text b) → runs ≡ b
flag_told runs text is_true is_false true e = is_true e
flag_told runs text is_true is_false false e = is_false e

abbrev runs_of : Given → Bool
runs_of none = false
runs_of (number v) = false
runs_of flag = true
runs_of (number_first v) = true
runs_of (flag_first v) = true

flag_read : (g : Given) → one_of (codes "run") (final g) ≡ Some (flag_text (runs_of g))
flag_read none = refl
flag_read (number v) = refl
flag_read flag = refl
flag_read (number_first v) = refl
flag_read (flag_first v) = refl

same_given : (g m : Given) → Some g ≡ Some m → g ≡ m
same_given g m e = cc e

abbrev Valued : Given → ℕ → Bool → Type 0
Valued g n runs = IsSampled (first_of (codes "number") (final g)) n × (runs ≡ runs_of g)

valued_as : (g m : Given) (n : ℕ) (runs : Bool) → g ≡ m → Valued m n runs → Valued g n runs
valued_as g m n runs same h = subst (λ (x : Given). Valued x n runs) (sym same) h

leads_from : (g m end : Given) (words : List Text) → g ≡ m → Leads m words end → Leads g words end
leads_from g m end words same h = subst (λ (x : Given). Leads x words end) (sym same) h

full : (g m : Given) (word : Text) → ((v : Text) → with_number g v ≡ None) → with_flag g ≡ None → More g word m → ⊥
full g m word no_number no_flag (is_number e) = let bad : None ≡ Some m = sym (no_number word) ∙ e in cc bad
full g m word no_number no_flag (is_flag is e) = let bad : None ≡ Some m = sym no_flag ∙ e in cc bad

says_number_first : (words : List Text) (v : Text) (end : Given) (n : ℕ) (runs : Bool) → Leads (number_first v) words end → Valued end n runs → (words ≡ []) × Valued (number_first v) n runs
says_number_first [] v end n runs lead h = (refl, valued_as (number_first v) end n runs lead h)
says_number_first (word ∷ words) v end n runs lead h = absurd (full (number_first v) lead.0 word (λ u. refl) refl lead.1)

says_flag_first : (words : List Text) (v : Text) (end : Given) (n : ℕ) (runs : Bool) → Leads (flag_first v) words end → Valued end n runs → (words ≡ []) × Valued (flag_first v) n runs
says_flag_first [] v end n runs lead h = (refl, valued_as (flag_first v) end n runs lead h)
says_flag_first (word ∷ words) v end n runs lead h = absurd (full (flag_first v) lead.0 word (λ u. refl) refl lead.1)

says_number : (words : List Text) (v : Text) (end : Given) (n : ℕ) (runs : Bool) → Leads (number v) words end → Valued end n runs → SaysSample (v ∷ words) n runs
says_number [] v end n runs lead h = let is = valued_as (number v) end n runs lead h in (v, alone refl is.1, is.0)
says_number (word ∷ words) v end n runs (m, is_number e, lead) h = absurd (cc e)
says_number (word ∷ words) v end n runs (m, is_flag is e, lead) h =
    let r = says_number_first words v end n runs (leads_from (number_first v) m end words (same_given (number_first v) m e) lead) h in
    (v, after (λ i. v ∷ is i ∷ r.0 i) r.1.1, r.1.0)

says_flag : (words : List Text) (end : Given) (n : ℕ) (runs : Bool) → Leads flag words end → Valued end n runs → SaysSample (codes "--run" ∷ words) n runs
says_flag [] end n runs lead h = absurd (valued_as flag end n runs lead h).0
says_flag (word ∷ words) end n runs (m, is_flag is e, lead) h = absurd (cc e)
says_flag (word ∷ words) end n runs (m, is_number e, lead) h =
    let r = says_flag_first words word end n runs (leads_from (flag_first word) m end words (same_given (flag_first word) m e) lead) h in
    (word, before (ap (λ (ws : List Text). codes "--run" ∷ word ∷ ws) r.0) r.1.1, r.1.0)

says : (words : List Text) (end : Given) (n : ℕ) (runs : Bool) → Leads none words end → Valued end n runs → SaysSample words n runs
says [] end n runs lead h = absurd (valued_as none end n runs lead h).0
says (word ∷ words) end n runs (m, is_number e, lead) h = says_number words word end n runs (leads_from (number word) m end words (same_given (number word) m e) lead) h
says (word ∷ words) end n runs (m, is_flag is e, lead) h =
    subst (λ (w : Text). SaysSample (w ∷ words) n runs) (sym is) (says_flag words end n runs (leads_from flag m end words (same_given flag m e) lead) h)

-- what clap takes says a sample, where its value is one
pub sample_read : (words : List Text) (n : ℕ) (runs : Bool) → has_dashes words ≡ false → fault_of sample_app words ≡ [] → IsSampled (first_of (codes "number") (matches_of sample_app words)) n
    → ((b : Bool) → one_of (codes "run") (matches_of sample_app words) ≡ Some (flag_text b) → runs ≡ b) → SaysSample words n runs
sample_read words n runs plain passed is_sampled told =
    let t = taken words plain passed in
    says words t.0 n runs t.1 (
      subst (λ (rs : List Row). IsSampled (first_of (codes "number") rs) n) t.2 is_sampled,
      told (runs_of t.0) (ap (λ (rs : List Row). one_of (codes "run") rs) t.2 ∙ flag_read t.0),
    )

-- ---- words that say a sample

-- the walk from one place over words comes to another with other words to go, without a fault
abbrev Goes : Given → List Text → Given → List Text → Type 0
Goes g words m rest = (walk_fault S [] (at g) words ≡ walk_fault S [] (at m) rest) × (fold (walked S.rules []) (at g) words ≡ fold (walked S.rules []) (at m) rest)

goes : (g m : Given) (word : Text) (words : List Text) → turn_fault S [] (at g) word ≡ [] → walked S.rules [] (at g) word ≡ at m → Goes g (word ∷ words) m words
unfolding walk_fault
goes g m word words passed step = (λ i. or_else (passed i) (walk_fault S [] (step i) words), λ i. fold (walked S.rules []) (step i) words)

then_goes : (g m k : Given) (words more rest : List Text) → Goes g words m more → Goes m more k rest → Goes g words k rest
then_goes g m k words more rest first second = (first.0 ∙ second.0, first.1 ∙ second.1)

module _ (rows : List Row) (v : Text) (plain : IsPlain v) where
  plain_fault : turn_fault S [] (standing 1 idle (holding rows None)) v ≡ []
  plain_fault =
      turn_is S 1 idle v None (holding rows None) plain.no_dashes plain.no_long
      ∙ ((λ i. or_else (option_map_or (λ (flags : Text). bundle_fault S.rules S.args_override_self flags (holding rows None)) (plain.no_short i) [])
      (step_fault S 1 (short_or_plain S.rules idle v (plain.no_short i) (holding rows None)).0 (short_or_plain S.rules idle v (plain.no_short i) (holding rows None)).1)) ∙ refl)

  plain_walked : walked S.rules [] (standing 1 idle (holding rows None)) v ≡ standing 2 idle (holding rows (pending_number v))
  plain_walked =
      walked_is S 1 idle v None (holding rows None) plain.no_dashes plain.no_long
      ∙ ((λ i. after_step S.rules v (standing 1 idle (holding rows None)) (short_or_plain S.rules idle v (plain.no_short i) (holding rows None)).0 (short_or_plain S.rules idle v (plain.no_short i) (holding rows None)).1) ∙ refl)

number_goes : (v : Text) (rest : List Text) → IsPlain v → Goes none (v ∷ rest) (number v) rest
number_goes v rest plain = goes none (number v) v rest (plain_fault [] v plain) (plain_walked [] v plain)

flag_number_goes : (v : Text) (rest : List Text) → IsPlain v → Goes flag (v ∷ rest) (flag_first v) rest
flag_number_goes v rest plain = goes flag (flag_first v) v rest (plain_fault (run_row ∷ []) v plain) (plain_walked (run_row ∷ []) v plain)

flag_goes : (rest : List Text) → Goes none (codes "--run" ∷ rest) flag rest
unfolding walked
flag_goes rest = goes none flag (codes "--run") rest refl refl

number_flag_goes : (v : Text) (rest : List Text) → Goes (number v) (codes "--run" ∷ rest) (number_first v) rest
unfolding walked
number_flag_goes v rest = goes (number v) (number_first v) (codes "--run") rest refl refl

no_settle : (g : Given) → settle_fault S.rules false (at g).held ≡ []
no_settle none = refl
no_settle (number v) = refl
no_settle flag = refl
no_settle (number_first v) = refl
no_settle (flag_first v) = refl

no_defaults : (g : Given) → defaults_fault (settled_rows S.rules (at g).held.pending (at g).held.rows) S.rules ≡ []
unfolding defaults_fault
no_defaults none = refl
no_defaults (number v) = refl
no_defaults flag = refl
no_defaults (number_first v) = refl
no_defaults (flag_first v) = refl

-- clap takes the words, and has these rows
abbrev Takes : List Text → Given → Type 0
Takes words g = (fault_of sample_app words ≡ []) × HasEnd words g

takes : (words : List Text) (g : Given) → Goes none words g [] → Takes words g
unfolding walk_fault
takes words g go = (
  leaf_fault (built sample_app) nothing_held words refl
      ∙ ((λ i. or_else (go.0 i) (or_else [] (or_else (settle_fault S.rules false (go.1 i).held) (or_else (defaults_fault (settled_rows S.rules (go.1 i).held.pending (go.1 i).held.rows) S.rules) []))))
      ∙ (λ i. or_else (no_settle g i) (or_else (no_defaults g i) []))),
  has_end words g go.1,
)

pub record IsRight (words : List Text) (n : ℕ) : Type 0 where
  pub plain : has_dashes words ≡ false
  pub taken : fault_of sample_app words ≡ []
  pub value : IsSampled (first_of (codes "number") (matches_of sample_app words)) n

right : (words shape : List Text) (g : Given) (n : ℕ) → words ≡ shape → has_dashes shape ≡ false → Takes shape g → IsSampled (first_of (codes "number") (final g)) n → IsRight words n
right words shape g n are plain is_taken is_sampled = subst (λ (ws : List Text). IsRight ws n) (sym are) (record {
  plain = plain;
  taken = is_taken.0;
  value = subst (λ (rs : List Row). IsSampled (first_of (codes "number") rs) n) (sym is_taken.1) is_sampled;
})

-- clap takes words that say a sample, and reads its number
pub sample_right : (words : List Text) (n : ℕ) (runs : Bool) → SaysSample words n runs → IsRight words n
sample_right words n runs (text, alone e f, is) =
    let plain = number_plain text is.number in
    right words (text ∷ []) (number text) n e (λ i. plain.no_dashes i || false) (takes (text ∷ []) (number text) (number_goes text [] plain)) is
sample_right words n runs (text, before e f, is) =
    let plain = number_plain text is.number in
    right words (codes "--run" ∷ text ∷ []) (flag_first text) n e (λ i. plain.no_dashes i || false)
    (takes (codes "--run" ∷ text ∷ []) (flag_first text) (then_goes none flag (flag_first text) (codes "--run" ∷ text ∷ []) (text ∷ []) [] (flag_goes (text ∷ [])) (flag_number_goes text [] plain))) is
sample_right words n runs (text, after e f, is) =
    let plain = number_plain text is.number in
    right words (text ∷ codes "--run" ∷ []) (number_first text) n e (λ i. plain.no_dashes i || false)
    (takes (text ∷ codes "--run" ∷ []) (number_first text) (then_goes none (number text) (number_first text) (text ∷ codes "--run" ∷ []) (codes "--run" ∷ []) [] (number_goes text (codes "--run" ∷ []) plain) (number_flag_goes text []))) is

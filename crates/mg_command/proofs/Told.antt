-- Of any words it can be told whether they say a command.
use Rattle.std.proofs.Common.{◌≡◌, ◌⊎◌, inl, inr, ℕ, ◌≤◌, ◌^◌, Bool, true, false, ◌&&◌, nat_le, List, [], ◌∷◌, ◌++◌, length, refl, sym, ap, subst, arith, ◌∙◌, codes}
use Rattle.std.specs.Char.{is_ascii_digit}
use Rattle.std.specs.List.{list_all}
use Rattle.std.proofs.lemmas.Bool.{cases_eq}
use Rattle.std.proofs.lemmas.Bool.Decides.{nat_tests}
use Rattle.mg_lex.specs.Number.{number_value}
use Rattle.mg_command.specs.declared.command.Command.TheVariants.{Run, Check, Sample}
use Rattle.mg_command.specs.declared.command.PolicyName.{PolicyName}
use Rattle.mg_command.specs.declared.command.PolicyName.TheVariants.{Even, Doubling}
use Rattle.mg_command.specs.declared.command.UsageCause.TheVariants.{NoCommand, UnknownCommand, BadWords}
use Rattle.mg_command.specs.Words as words
use Rattle.mg_command.specs.Words.{Setting, Workers, Policy, IsNumberOf, policy_text, option_text, IsValue, Begins, AreSettings, ComeTo, SaysRun, AreSample, SaysSample, Says, IsName, is_run, is_check, is_sample, Lacks, Reads, says, lacks}
use Rattle.mg_command.proofs.Settings.{differ, no_beginning, no_second, two_settings}
use Rattle.mg_command.proofs.Rule.{no_run, no_check, no_sample, one_sample}

and_true : (a b : Bool) → (a && b) ≡ true → (a ≡ true) × (b ≡ true)
and_true true b both = (refl, both)
and_true false b both = absurd cc

true_and : (a b : Bool) → a ≡ true → b ≡ true → (a && b) ≡ true
true_and a b first second = cc

less : (a b : ℕ) → nat_le a b ≡ true → a ≤ b
less a b e = grind (arith, nat_tests)

less_told : (a b : ℕ) → a ≤ b → nat_le a b ≡ true
less_told a b h = grind (arith, nat_tests)

-- the tests of a number
abbrev number_tests : (digits least most : ℕ) → List ℕ → Bool
number_tests digits least most text = nat_le 1 (length text) && (list_all is_ascii_digit text && (nat_le (length text) digits && (nat_le least (number_value text) && nat_le (number_value text) most)))

number_by : (digits least most : ℕ) (text : List ℕ) (told : Bool) → number_tests digits least most text ≡ told → ((n : ℕ) × IsNumberOf digits least most text n) ⊎ ((n : ℕ) → IsNumberOf digits least most text n → ⊥)
number_by digits least most text true e =
    let v = number_value text in
    let within = nat_le least v && nat_le v most in
    let short = nat_le (length text) digits && within in
    let a = and_true (nat_le 1 (length text)) (list_all is_ascii_digit text && short) e in
    let b = and_true (list_all is_ascii_digit text) short a.1 in
    let c = and_true (nat_le (length text) digits) within b.1 in
    let d = and_true (nat_le least v) (nat_le v most) c.1 in
    let some = less _ _ a.0 in
    inl (number_value text, record { number = (omega (arith, some), b.0); short = less _ _ c.0; value = refl; low = less _ _ d.0; high = less _ _ d.1 })
number_by digits least most text false e = inr (λ n is.
    let some = is.number.0 in
    let low = subst (λ (v : ℕ). least ≤ v) is.value is.low in
    let high = subst (λ (v : ℕ). v ≤ most) is.value is.high in
    let all : number_tests digits least most text ≡ true =
    true_and _ _ (less_told _ _ (omega (arith, some))) (true_and _ _ is.number.1 (true_and _ _ (less_told _ _ is.short) (true_and _ _ (less_told _ _ low) (less_told _ _ high)))) in
    let bad : true ≡ false = sym all ∙ e in absurd (cc bad))

number_told : (digits least most : ℕ) (text : List ℕ) → ((n : ℕ) × IsNumberOf digits least most text n) ⊎ ((n : ℕ) → IsNumberOf digits least most text n → ⊥)
number_told digits least most text = number_by digits least most text _ refl

-- whether two texts are the same
same_told : (xs ys : List ℕ) → (xs ≡ ys) ⊎ (xs ≡ ys → ⊥)
same_told [] [] = inl refl
same_told [] (y ∷ ys) = inr (λ e. absurd (cc e))
same_told (x ∷ xs) [] = inr (λ e. absurd (cc e))
same_told (x ∷ xs) (y ∷ ys) = elim (cases_eq x y) [
  | inr other ↦ inr (λ e. other (let heads : x ≡ y = cc e in heads))
  | inl same ↦ elim (same_told xs ys) [
    | inl rest ↦ inl (cc (same, rest))
    | inr other ↦ inr (λ e. other (let tails : xs ≡ ys = cc e in tails))
  ]
]

-- whether a text begins with another
front_told : (front text : List ℕ) → ((rest : List ℕ) × (text ≡ front ++ rest)) ⊎ ((rest : List ℕ) → text ≡ front ++ rest → ⊥)
front_told [] text = inl (text, refl)
front_told (x ∷ front) [] = inr (λ rest e. absurd (cc e))
front_told (x ∷ front) (y ∷ text) = elim (cases_eq y x) [
  | inr other ↦ inr (λ rest e. other (let all : y ∷ text ≡ x ∷ (front ++ rest) = e in cc all))
  | inl same ↦ elim (front_told front text) [
    | inl found ↦ inl (found.0, (let rest = found.1 in cc (same, rest)))
    | inr other ↦ inr (λ rest e. other rest (let all : y ∷ text ≡ x ∷ (front ++ rest) = e in cc all))
  ]
]

no_policy : (text : List ℕ) → (text ≡ codes "even" → ⊥) → (text ≡ codes "doubling" → ⊥) → (p : PolicyName) → text ≡ policy_text p → ⊥
no_policy text not_even not_doubling Even e = not_even e
no_policy text not_even not_doubling Doubling e = not_doubling e

policy_told : (text : List ℕ) → ((p : PolicyName) × (text ≡ policy_text p)) ⊎ ((p : PolicyName) → text ≡ policy_text p → ⊥)
policy_told text = elim (same_told text (codes "even")) [
  | inl even ↦ inl (Even, even)
  | inr not_even ↦ elim (same_told text (codes "doubling")) [
    | inl doubling ↦ inl (Doubling, doubling)
    | inr not_doubling ↦ inr (no_policy text not_even not_doubling)
  ]
]

no_workers : (text : List ℕ) → ((n : ℕ) → IsNumberOf 10 1 64 text n → ⊥) → (s : Setting) → codes "--workers" ≡ option_text s → IsValue text s → ⊥
no_workers text none (Workers n) e h = none n h
no_workers text none (Policy p) e h = differ _ _ refl refl e

no_policies : (text : List ℕ) → ((p : PolicyName) → text ≡ policy_text p → ⊥) → (s : Setting) → codes "--policy" ≡ option_text s → IsValue text s → ⊥
no_policies text none (Policy p) e h = none p h
no_policies text none (Workers n) e h = differ _ _ refl refl (sym e)

-- whether a text is the value of one of the options
workers_told : (text : List ℕ) → ((s : Setting) × (codes "--workers" ≡ option_text s) × IsValue text s) ⊎ ((s : Setting) → codes "--workers" ≡ option_text s → IsValue text s → ⊥)
workers_told text = elim (number_told 10 1 64 text) [
  | inl found ↦ inl (Workers found.0, refl, found.1)
  | inr none ↦ inr (no_workers text none)
]

policies_told : (text : List ℕ) → ((s : Setting) × (codes "--policy" ≡ option_text s) × IsValue text s) ⊎ ((s : Setting) → codes "--policy" ≡ option_text s → IsValue text s → ⊥)
policies_told text = elim (policy_told text) [
  | inl found ↦ inl (Policy found.0, refl, found.1)
  | inr none ↦ inr (no_policies text none)
]

-- the options
one_of_two : (option : List ℕ) → (option ≡ codes "--workers" → ⊥) → (option ≡ codes "--policy" → ⊥) → (s : Setting) → option ≡ option_text s → ⊥
one_of_two option not_workers not_policy (Workers n) e = not_workers e
one_of_two option not_workers not_policy (Policy p) e = not_policy e

setting_told : (option text : List ℕ) → ((s : Setting) × (option ≡ option_text s) × IsValue text s) ⊎ ((s : Setting) → option ≡ option_text s → IsValue text s → ⊥)
setting_told option text = elim (same_told option (codes "--workers")) [
  | inl workers ↦ subst (λ (o : List ℕ). ((s : Setting) × (o ≡ option_text s) × IsValue text s) ⊎ ((s : Setting) → o ≡ option_text s → IsValue text s → ⊥)) (sym workers) (workers_told text)
  | inr not_workers ↦ elim (same_told option (codes "--policy")) [
    | inl policy ↦ subst (λ (o : List ℕ). ((s : Setting) × (o ≡ option_text s) × IsValue text s) ⊎ ((s : Setting) → o ≡ option_text s → IsValue text s → ⊥)) (sym policy) (policies_told text)
    | inr not_policy ↦ inr (λ s e h. one_of_two option not_workers not_policy s e)
  ]
]

-- whether one word is an option with its value
abbrev IsJoined : List ℕ → Setting → Type 0
IsJoined word s = (text : List ℕ) × IsValue text s × (word ≡ option_text s ++ (codes "=" ++ text))

joined_fails : (word : List ℕ) → ((rest : List ℕ) → word ≡ codes "--workers=" ++ rest → ⊥) → ((rest : List ℕ) → word ≡ codes "--policy=" ++ rest → ⊥) → (s : Setting) → IsJoined word s → ⊥
joined_fails word not_workers not_policy (Workers n) h = not_workers h.0 h.2
joined_fails word not_workers not_policy (Policy p) h = not_policy h.0 h.2

workers_fail : (word text : List ℕ) → word ≡ codes "--workers=" ++ text → ((s : Setting) → codes "--workers" ≡ option_text s → IsValue text s → ⊥) → (s : Setting) → IsJoined word s → ⊥
workers_fail word text e none (Workers n) h =
    let all : codes "--workers=" ++ h.0 ≡ codes "--workers=" ++ text = sym h.2 ∙ e in
    none (Workers n) refl (subst (λ (t : List ℕ). IsNumberOf 10 1 64 t n) (cc all) h.1)
workers_fail word text e none (Policy p) h = differ _ _ refl refl (sym e ∙ h.2)

policies_fail : (word text : List ℕ) → word ≡ codes "--policy=" ++ text → ((s : Setting) → codes "--policy" ≡ option_text s → IsValue text s → ⊥) → (s : Setting) → IsJoined word s → ⊥
policies_fail word text e none (Policy p) h =
    let all : codes "--policy=" ++ h.0 ≡ codes "--policy=" ++ text = sym h.2 ∙ e in
    none (Policy p) refl (subst (λ (t : List ℕ). t ≡ policy_text p) (cc all) h.1)
policies_fail word text e none (Workers n) h = differ _ _ refl refl (sym h.2 ∙ e)

joined_workers : (word text : List ℕ) → word ≡ codes "--workers=" ++ text → (s : Setting) → codes "--workers" ≡ option_text s → IsValue text s → IsJoined word s
joined_workers word text e (Workers n) o h = (text, h, e)
joined_workers word text e (Policy p) o h = absurd (differ _ _ refl refl o)

joined_policy : (word text : List ℕ) → word ≡ codes "--policy=" ++ text → (s : Setting) → codes "--policy" ≡ option_text s → IsValue text s → IsJoined word s
joined_policy word text e (Policy p) o h = (text, h, e)
joined_policy word text e (Workers n) o h = absurd (differ _ _ refl refl (sym o))

joined_told : (word : List ℕ) → ((s : Setting) × IsJoined word s) ⊎ ((s : Setting) → IsJoined word s → ⊥)
joined_told word = elim (front_told (codes "--workers=") word) [
  | inl front ↦ elim (workers_told front.0) [
    | inl found ↦ inl (found.0, joined_workers word front.0 front.1 found.0 found.1 found.2)
    | inr none ↦ inr (workers_fail word front.0 front.1 none)
  ]
  | inr not_workers ↦ elim (front_told (codes "--policy=") word) [
    | inl front ↦ elim (policies_told front.0) [
      | inl found ↦ inl (found.0, joined_policy word front.0 front.1 found.0 found.1 found.2)
      | inr none ↦ inr (policies_fail word front.0 front.1 none)
    ]
    | inr not_policy ↦ inr (joined_fails word not_workers not_policy)
  ]
]

-- whether words begin with a setting
abbrev BeginsSome : List (List ℕ) → Type 0
BeginsSome words = (s : Setting) × (rest : List (List ℕ)) × Begins words s rest

abbrev BeginsNone : List (List ℕ) → Type 0
BeginsNone words = (s : Setting) (rest : List (List ℕ)) → Begins words s rest → ⊥

no_words_begin : BeginsNone []
no_words_begin s rest (words.apart text h e) = absurd (cc e)
no_words_begin s rest (words.joined text h e) = absurd (cc e)

one_fails : (word : List ℕ) → ((s : Setting) → IsJoined word s → ⊥) → BeginsNone (word ∷ [])
one_fails word none s rest (words.joined text h e) = none s (text, h, cc e)
one_fails word none s rest (words.apart text h e) = absurd (cc e)

two_fail : (word text : List ℕ) (behind : List (List ℕ)) → ((s : Setting) → IsJoined word s → ⊥) → ((s : Setting) → word ≡ option_text s → IsValue text s → ⊥) → BeginsNone (word ∷ text ∷ behind)
two_fail word text behind none neither s rest (words.joined other h e) = none s (other, h, cc e)
two_fail word text behind none neither s rest (words.apart other h e) =
    let same : other ≡ text = cc e in
    neither s (cc e) (subst (λ (t : List ℕ). IsValue t s) same h)

apart_told : (word : List ℕ) (rest : List (List ℕ)) → ((s : Setting) → IsJoined word s → ⊥) → BeginsSome (word ∷ rest) ⊎ BeginsNone (word ∷ rest)
apart_told word [] none = inr (one_fails word none)
apart_told word (text ∷ rest) none = elim (setting_told word text) [
  | inl found ↦ inl (found.0, rest, words.apart text found.2 (ap (λ (w : List ℕ). w ∷ text ∷ rest) found.1))
  | inr neither ↦ inr (two_fail word text rest none neither)
]

begins_told : (words : List (List ℕ)) → BeginsSome words ⊎ BeginsNone words
begins_told [] = inr no_words_begin
begins_told (word ∷ rest) = elim (joined_told word) [
  | inl found ↦ inl (found.0, rest, words.joined found.1.0 found.1.1 (ap (λ (w : List ℕ). w ∷ rest) found.1.2))
  | inr none ↦ apart_told word rest none
]

-- whether words say a run
abbrev RunTold : List (List ℕ) → Type 0
RunTold words = ((n : ℕ) × (p : PolicyName) × SaysRun words n p) ⊎ ((n : ℕ) (p : PolicyName) → SaysRun words n p → ⊥)

come_alone : (s : Setting) → (n : ℕ) × (p : PolicyName) × ComeTo (s ∷ []) n p
come_alone (Workers n) = (n, Even, (refl, refl))
come_alone (Policy p) = (4, p, (refl, refl))

come_told : (s t : Setting) → ((n : ℕ) × (p : PolicyName) × ComeTo (s ∷ t ∷ []) n p) ⊎ ((n : ℕ) (p : PolicyName) → ComeTo (s ∷ t ∷ []) n p → ⊥)
come_told (Workers n) (Policy p) = inl (n, p, (refl, refl))
come_told (Policy p) (Workers n) = inl (n, p, (refl, refl))
come_told (Workers n) (Workers m) = inr (λ k p h. h)
come_told (Policy p) (Policy q) = inr (λ k p h. h)

second_told : (words rest behind : List (List ℕ)) (s t : Setting) → Begins words s rest → Begins rest t behind → RunTold words
second_told words rest (w ∷ ws) s t first second = inr (λ n p h. let e = (two_settings words rest (w ∷ ws) s t first second n p h).0 in absurd (cc e))
second_told words rest [] s t first second = elim (come_told s t) [
  | inl come ↦ inl (come.0, come.1, (s ∷ t ∷ [], (rest, first, ([], second, refl)), come.2))
  | inr none ↦ inr (λ n p h. none n p (two_settings words rest [] s t first second n p h).1)
]

first_told : (words rest : List (List ℕ)) (s : Setting) → Begins words s rest → RunTold words
first_told words [] s first = inl ((come_alone s).0, (come_alone s).1, (s ∷ [], ([], first, refl), (come_alone s).2))
first_told words (w ∷ ws) s first = elim (begins_told (w ∷ ws)) [
  | inl second ↦ second_told words (w ∷ ws) second.1 s second.0 first second.2
  | inr none ↦ inr (no_second words (w ∷ ws) s first (λ e. absurd (cc e)) none)
]

run_told : (words : List (List ℕ)) → RunTold words
run_told [] = inl (4, Even, ([], refl, (refl, refl)))
run_told (w ∷ ws) = elim (begins_told (w ∷ ws)) [
  | inl first ↦ first_told (w ∷ ws) first.1 first.0 first.2
  | inr none ↦ inr (no_beginning (w ∷ ws) (λ e. absurd (cc e)) none)
]

-- whether words say a sample
abbrev SampleTold : List (List ℕ) → Type 0
SampleTold words = ((n : ℕ) × (runs : Bool) × SaysSample words n runs) ⊎ ((n : ℕ) (runs : Bool) → SaysSample words n runs → ⊥)

of_text : (words : List (List ℕ)) (text : List ℕ) (runs : Bool) → AreSample words text runs → SampleTold words
of_text words text runs are = elim (number_told 19 0 (2 ^ 62) text) [
  | inl found ↦ inl (found.0, runs, (text, are, found.1))
  | inr none ↦ inr (λ n running h. none n (subst (λ (t : List ℕ). IsNumberOf 19 0 (2 ^ 62) t n) (one_sample words h.0 text running runs h.1 are).0 h.2))
]

none_sampled : (n : ℕ) (runs : Bool) → SaysSample [] n runs → ⊥
none_sampled n runs (text, words.alone e f, is) = cc e
none_sampled n runs (text, words.before e f, is) = cc e
none_sampled n runs (text, words.after e f, is) = cc e

two_sampled : (first second : List ℕ) → (first ≡ codes "--run" → ⊥) → (second ≡ codes "--run" → ⊥) → (n : ℕ) (runs : Bool) → SaysSample (first ∷ second ∷ []) n runs → ⊥
two_sampled first second not_first not_second n runs (text, words.alone e f, is) = cc e
two_sampled first second not_first not_second n runs (text, words.before e f, is) = not_first (cc e)
two_sampled first second not_first not_second n runs (text, words.after e f, is) = not_second (cc e)

three_sampled : (a b c : List ℕ) (rest : List (List ℕ)) (n : ℕ) (runs : Bool) → SaysSample (a ∷ b ∷ c ∷ rest) n runs → ⊥
three_sampled a b c rest n runs (text, words.alone e f, is) = cc e
three_sampled a b c rest n runs (text, words.before e f, is) = cc e
three_sampled a b c rest n runs (text, words.after e f, is) = cc e

sample_told : (words : List (List ℕ)) → SampleTold words
sample_told [] = inr none_sampled
sample_told (text ∷ []) = of_text (text ∷ []) text false (words.alone refl refl)
sample_told (first ∷ second ∷ []) = elim (same_told first (codes "--run")) [
  | inl run ↦ of_text (first ∷ second ∷ []) second true (words.before (ap (λ (w : List ℕ). w ∷ second ∷ []) run) refl)
  | inr not_first ↦ elim (same_told second (codes "--run")) [
    | inl run ↦ of_text (first ∷ second ∷ []) first true (words.after (ap (λ (w : List ℕ). first ∷ w ∷ []) run) refl)
    | inr not_second ↦ inr (two_sampled first second not_first not_second)
  ]
]
sample_told (a ∷ b ∷ c ∷ rest) = inr (three_sampled a b c rest)

run_read : (words : List (List ℕ)) → Reads (codes "run" ∷ words)
run_read words = elim (run_told words) [
  | inl run ↦ says (Run run.0 run.1) (refl, run.2)
  | inr none ↦ lacks BadWords (is_run refl, no_run words none)
]

check_read : (words : List (List ℕ)) → Reads (codes "check" ∷ words)
check_read [] = says Check (refl, refl)
check_read (w ∷ ws) = lacks BadWords (is_check refl, no_check (w ∷ ws) (λ e. absurd (cc e)))

sample_read : (words : List (List ℕ)) → Reads (codes "sample" ∷ words)
sample_read words = elim (sample_told words) [
  | inl sample ↦ says (Sample sample.0 sample.1) (refl, sample.2)
  | inr none ↦ lacks BadWords (is_sample refl, no_sample words none)
]

no_name : (word : List ℕ) → (word ≡ codes "run" → ⊥) → (word ≡ codes "check" → ⊥) → (word ≡ codes "sample" → ⊥) → IsName word → ⊥
no_name word not_run not_check not_sample (is_run e) = not_run e
no_name word not_run not_check not_sample (is_check e) = not_check e
no_name word not_run not_check not_sample (is_sample e) = not_sample e

-- each list says a command, or has a cause
pub reads : (words : List (List ℕ)) → Reads words
reads [] = lacks NoCommand refl
reads (word ∷ words) = elim (same_told word (codes "run")) [
  | inl run ↦ subst (λ (w : List ℕ). Reads (w ∷ words)) (sym run) (run_read words)
  | inr not_run ↦ elim (same_told word (codes "check")) [
    | inl check ↦ subst (λ (w : List ℕ). Reads (w ∷ words)) (sym check) (check_read words)
    | inr not_check ↦ elim (same_told word (codes "sample")) [
      | inl sample ↦ subst (λ (w : List ℕ). Reads (w ∷ words)) (sym sample) (sample_read words)
      | inr not_sample ↦ lacks UnknownCommand (no_name word not_run not_check not_sample)
    ]
  ]
]

-- What clap is told of the three commands, what it reads of words, and which values the product takes.
use Rattle.std.specs.Prelude.{◌≡◌, ℕ, ◌^◌, Bool, true, false, List, [], Option, Some, None, MatchOption, codes}
use Rattle.std.specs.List.{list_any}
use Rattle.std.specs.Str.{bytes_eq}
use Rattle.clap.specs.Walk.{Rule, rows_of}
use Rattle.clap.specs.Simple.{App, new_app, new_rule, with_rule, on_top, matches_of}
use Rattle.clap.specs.Matches.{found_of}
use Rattle.clap.specs.Faults.{fault_of}
use Rattle.clap.specs.declared.builder.action.ArgAction.TheVariants.{SetTrue}
use Rattle.clap.specs.declared.parser.matches.ArgMatches.{ArgMatches}
use Rattle.mg_command.specs.declared.command.PolicyName.{PolicyName}
use Rattle.mg_command.specs.declared.command.PolicyName.TheVariants.{Even}
use Rattle.mg_command.specs.Words.{IsNumberOf, policy_text}

-- a command without arguments, help and version, whose first word is no program's name
abbrev pub bare_app : List ℕ → App
bare_app name = on_top (λ s. record s { no_binary_name = true; disable_help_flag = true; disable_version_flag = true }) (new_app name)

-- an option with a value, and a flag
abbrev pub option_rule : List ℕ → Rule
option_rule name = record (new_rule name) { long = Some name }

abbrev pub flag_rule : List ℕ → Rule
flag_rule name = record (new_rule name) { long = Some name; action = Some SetTrue }

abbrev pub run_app : App
run_app = with_rule (with_rule (bare_app (codes "run")) (option_rule (codes "workers"))) (option_rule (codes "policy"))

abbrev pub check_app : App
check_app = bare_app (codes "check")

abbrev pub sample_app : App
sample_app = with_rule (with_rule (bare_app (codes "sample")) (new_rule (codes "number"))) (flag_rule (codes "run"))

-- one of the words is `--`
abbrev pub has_dashes : List (List ℕ) → Bool
has_dashes words = list_any (λ word. bytes_eq word (codes "--")) words

-- clap takes the words, none of them `--`, and these are its matches
pub record IsRead (app : App) (words : List (List ℕ)) (m : ArgMatches) : Type 0 where
  pub plain : has_dashes words ≡ false
  pub taken : fault_of app words ≡ []
  pub rows : rows_of (found_of m) ≡ matches_of app words

-- clap refuses the words, or one of them is `--`
abbrev pub IsRefused : App → List (List ℕ) → Type 0
IsRefused app words = has_dashes words ≡ false → fault_of app words ≡ [] → ⊥

abbrev pub ReadsAs : App → List (List ℕ) → Option ArgMatches → Type 0
ReadsAs app words read = MatchOption read (IsRefused app words) (IsRead app words)

-- the number of workers, the policy and the number of a sample by what stands for their values, if anything
abbrev pub IsWorkers : Option (List ℕ) → ℕ → Type 0
IsWorkers None n = n ≡ 4
IsWorkers (Some text) n = IsNumberOf 10 1 64 text n

abbrev pub IsPolicy : Option (List ℕ) → PolicyName → Type 0
IsPolicy None p = p ≡ Even
IsPolicy (Some text) p = text ≡ policy_text p

abbrev pub IsSampled : Option (List ℕ) → ℕ → Type 0
IsSampled None n = ⊥
IsSampled (Some text) n = IsNumberOf 19 0 (2 ^ 62) text n

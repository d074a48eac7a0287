-- What the words of the command line say.
use Rattle.std.specs.Prelude.{◌≡◌, ℕ, ◌≤◌, ◌^◌, Bool, true, false, List, [], ◌∷◌, ◌++◌, length, map, codes, Option, MatchOption}
use Rattle.std.specs.Borrow.{Bor}
use Rattle.mg_lex.specs.Number.{IsNumber, number_value}
use Rattle.mg_command.specs.declared.command.Command.{Command}
use Rattle.mg_command.specs.declared.command.Command.TheVariants.{Run, Check, Sample}
use Rattle.mg_command.specs.declared.command.PolicyName.{PolicyName}
use Rattle.mg_command.specs.declared.command.PolicyName.TheVariants.{Even, Doubling}
use Rattle.mg_command.specs.declared.command.UsageCause.{UsageCause}
use Rattle.mg_command.specs.declared.command.UsageCause.TheVariants.{NoCommand, UnknownCommand, BadWords}

abbrev pub texts : List (Bor (List ℕ)) → List (List ℕ)
texts = map (λ word. word.now)

-- the text is a number in at most so many digits, zeros before it among them, from the least to the most
pub record IsNumberOf (digits least most : ℕ) (text : List ℕ) (n : ℕ) : Type 0 where
  pub number : IsNumber text
  pub short : length text ≤ digits
  pub value : n ≡ number_value text
  pub low : least ≤ n
  pub high : n ≤ most

-- one option of `run` with its value
pub data Setting : Type 0 where
  Workers : ℕ → Setting
  Policy : PolicyName → Setting

abbrev pub policy_text : PolicyName → List ℕ
policy_text Even = codes "even"
policy_text Doubling = codes "doubling"

abbrev pub option_text : Setting → List ℕ
option_text (Workers n) = codes "--workers"
option_text (Policy p) = codes "--policy"

-- the text is the value of the setting
abbrev pub IsValue : List ℕ → Setting → Type 0
IsValue text (Workers n) = IsNumberOf 10 1 64 text n
IsValue text (Policy p) = text ≡ policy_text p

-- the words begin with the setting, the value in a word of its own or behind an equals sign, and the rest stands behind
pub data Begins (words : List (List ℕ)) (s : Setting) (rest : List (List ℕ)) : Type 0 where
  apart : (text : List ℕ) → IsValue text s → words ≡ option_text s ∷ text ∷ rest → Begins words s rest
  joined : (text : List ℕ) → IsValue text s → words ≡ (option_text s ++ (codes "=" ++ text)) ∷ rest → Begins words s rest

-- the words are these settings one behind the other
abbrev pub AreSettings : List (List ℕ) → List Setting → Type 0
AreSettings words [] = words ≡ []
AreSettings words (s ∷ ss) = (rest : List (List ℕ)) × Begins words s rest × AreSettings rest ss

-- the settings, each of the two at most once in any order, come to so many workers and this policy: without them to
-- four workers and the even policy
abbrev pub ComeTo : List Setting → ℕ → PolicyName → Type 0
ComeTo [] n p = (n ≡ 4) × (p ≡ Even)
ComeTo (Workers m ∷ []) n p = (n ≡ m) × (p ≡ Even)
ComeTo (Policy q ∷ []) n p = (n ≡ 4) × (p ≡ q)
ComeTo (Workers m ∷ Policy q ∷ []) n p = (n ≡ m) × (p ≡ q)
ComeTo (Policy q ∷ Workers m ∷ []) n p = (n ≡ m) × (p ≡ q)
ComeTo _ n p = ⊥

-- behind `run`
abbrev pub SaysRun : List (List ℕ) → ℕ → PolicyName → Type 0
SaysRun words n p = (settings : List Setting) × AreSettings words settings × ComeTo settings n p

-- the words are this text, with `--run` before or after it where it is run
pub data AreSample (words : List (List ℕ)) (text : List ℕ) (runs : Bool) : Type 0 where
  alone : words ≡ text ∷ [] → runs ≡ false → AreSample words text runs
  before : words ≡ codes "--run" ∷ text ∷ [] → runs ≡ true → AreSample words text runs
  after : words ≡ text ∷ codes "--run" ∷ [] → runs ≡ true → AreSample words text runs

-- behind `sample`
abbrev pub SaysSample : List (List ℕ) → ℕ → Bool → Type 0
SaysSample words n runs = (text : List ℕ) × AreSample words text runs × IsNumberOf 19 0 (2 ^ 62) text n

-- the words say the command
abbrev pub Says : List (List ℕ) → Command → Type 0
Says [] c = ⊥
Says (word ∷ words) (Run n p) = (word ≡ codes "run") × SaysRun words n p
Says (word ∷ words) Check = (word ≡ codes "check") × (words ≡ [])
Says (word ∷ words) (Sample n runs) = (word ≡ codes "sample") × SaysSample words n runs

-- the name of a command
pub data IsName (word : List ℕ) : Type 0 where
  is_run : word ≡ codes "run" → IsName word
  is_check : word ≡ codes "check" → IsName word
  is_sample : word ≡ codes "sample" → IsName word

-- the words say no command, for this cause
abbrev pub Lacks : List (List ℕ) → UsageCause → Type 0
Lacks [] c = c ≡ NoCommand
Lacks (word ∷ words) NoCommand = ⊥
Lacks (word ∷ words) UnknownCommand = IsName word → ⊥
Lacks (word ∷ words) BadWords = IsName word × ((c : Command) → Says (word ∷ words) c → ⊥)

-- the words say a command, or there is a cause for which they say none
pub data Reads (words : List (List ℕ)) : Type 0 where
  says : (c : Command) → Says words c → Reads words
  lacks : (cause : UsageCause) → Lacks words cause → Reads words

-- what is told of words: the command that they say, or that they say none
abbrev pub Tells : List (List ℕ) → Option Command → Type 0
Tells words told = MatchOption told ((c : Command) → Says words c → ⊥) (Says words)

-- Each list of words says one command, or has one cause for which it says none.
use Rattle.std.proofs.Common.{◌≡◌, ◌⊎◌, inl, inr, ℕ, ◌≤◌, Bool, List, [], ◌∷◌, get_or, refl, sym, ap, subst, arith, ◌∙◌, codes}
use Rattle.mg_command.specs.declared.command.Command.{Command}
use Rattle.mg_command.specs.declared.command.Command.TheVariants.{Run, Check, Sample}
use Rattle.mg_command.specs.declared.command.PolicyName.{PolicyName}
use Rattle.mg_command.specs.declared.command.UsageCause.{UsageCause}
use Rattle.mg_command.specs.declared.command.WordsRefused.{WordsRefused}
use Rattle.mg_command.specs.declared.command.WordsRefused.TheVariants.{Usage, NoMemory}
use Rattle.mg_command.specs.declared.command.UsageCause.TheVariants.{NoCommand, UnknownCommand, BadWords}
use Rattle.std.specs.Prelude.{Result, Ok, Err, IfOk}
use Rattle.mg_lex.specs.Number.{number_value}
use Rattle.mg_command.specs.Words.{Setting, Workers, Policy, Begins, apart, joined, AreSettings, ComeTo, AreSample, alone, before, after, SaysRun, SaysSample, Says, IsName, is_run, is_check, is_sample, Lacks}
use Rattle.mg_command.proofs.Settings.{one_list, come_to_one}

-- the names differ at their first byte
differ : (xs ys : List ℕ) (a b : ℕ) → get_or xs 0 0 ≡ a → get_or ys 0 0 ≡ b → (a ≡ b → ⊥) → xs ≡ ys → ⊥
differ xs ys a b h k other e = other (sym h ∙ (ap (λ zs. get_or zs 0 0) e ∙ k))

run_check : codes "run" ≡ codes "check" → ⊥
run_check e = differ _ _ 114 99 refl refl (λ same. absurd (omega (arith, same))) e

run_sample : codes "run" ≡ codes "sample" → ⊥
run_sample e = differ _ _ 114 115 refl refl (λ same. absurd (omega (arith, same))) e

check_sample : codes "check" ≡ codes "sample" → ⊥
check_sample e = differ _ _ 99 115 refl refl (λ same. absurd (omega (arith, same))) e

-- behind a name no command is said but that of the name
pub no_run : (words : List (List ℕ)) → ((n : ℕ) (p : PolicyName) → SaysRun words n p → ⊥) → (c : Command) → Says (codes "run" ∷ words) c → ⊥
no_run words none (Run n p) says = none n p says.1
no_run words none Check says = run_check says.0
no_run words none (Sample n runs) says = run_sample says.0

pub no_check : (words : List (List ℕ)) → (words ≡ [] → ⊥) → (c : Command) → Says (codes "check" ∷ words) c → ⊥
no_check words some (Run n p) says = run_check (sym says.0)
no_check words some Check says = some says.1
no_check words some (Sample n runs) says = check_sample says.0

pub no_sample : (words : List (List ℕ)) → ((n : ℕ) (runs : Bool) → SaysSample words n runs → ⊥) → (c : Command) → Says (codes "sample" ∷ words) c → ⊥
no_sample words none (Run n p) says = run_sample (sym says.0)
no_sample words none Check says = check_sample (sym says.0)
no_sample words none (Sample n runs) says = none n runs says.1

-- a sample is one text, run or not
pub one_sample : (words : List (List ℕ)) (text other : List ℕ) (runs running : Bool) → AreSample words text runs → AreSample words other running → (text ≡ other) × (runs ≡ running)
one_sample words text other runs running (alone e f) (alone g h) = (let all : text ∷ [] ≡ other ∷ [] = sym e ∙ g in cc all, f ∙ sym h)
one_sample words text other runs running (before e f) (before g h) = (let all : codes "--run" ∷ text ∷ [] ≡ codes "--run" ∷ other ∷ [] = sym e ∙ g in cc all, f ∙ sym h)
one_sample words text other runs running (after e f) (after g h) = (let all : text ∷ codes "--run" ∷ [] ≡ other ∷ codes "--run" ∷ [] = sym e ∙ g in cc all, f ∙ sym h)
one_sample words text other runs running (before e f) (after g h) = (let all : codes "--run" ∷ text ∷ [] ≡ other ∷ codes "--run" ∷ [] = sym e ∙ g in cc all, f ∙ sym h)
one_sample words text other runs running (after e f) (before g h) = (let all : text ∷ codes "--run" ∷ [] ≡ codes "--run" ∷ other ∷ [] = sym e ∙ g in cc all, f ∙ sym h)
one_sample words text other runs running (alone e f) (before g h) = let all : text ∷ [] ≡ codes "--run" ∷ other ∷ [] = sym e ∙ g in absurd (cc all)
one_sample words text other runs running (alone e f) (after g h) = let all : text ∷ [] ≡ other ∷ codes "--run" ∷ [] = sym e ∙ g in absurd (cc all)
one_sample words text other runs running (before e f) (alone g h) = let all : codes "--run" ∷ text ∷ [] ≡ other ∷ [] = sym e ∙ g in absurd (cc all)
one_sample words text other runs running (after e f) (alone g h) = let all : text ∷ codes "--run" ∷ [] ≡ other ∷ [] = sym e ∙ g in absurd (cc all)

-- behind a name a list says one command of it
one_run : (words : List (List ℕ)) (n m : ℕ) (p q : PolicyName) → SaysRun words n p → SaysRun words m q → Run n p ≡ Run m q
one_run words n m p q says other =
    let same = come_to_one says.0 n m p q says.2 (subst (λ (ss : List Setting). ComeTo ss m q) (sym (one_list words says.0 other.0 says.1 other.1)) other.2) in
    cc (same.0, same.1)

one_number : (words : List (List ℕ)) (n m : ℕ) (runs running : Bool) → SaysSample words n runs → SaysSample words m running → Sample n runs ≡ Sample m running
one_number words n m runs running says other =
    let same = one_sample words says.0 other.0 runs running says.1 other.1 in
    let numbers : n ≡ m = says.2.value ∙ (ap number_value same.0 ∙ sym other.2.value) in
    cc (numbers, same.1)

pub one_command : (words : List (List ℕ)) (c d : Command) → Says words c → Says words d → c ≡ d
one_command [] c d h k = absurd h
one_command (word ∷ words) (Run n p) (Run m q) h k = one_run words n m p q h.1 k.1
one_command (word ∷ words) Check Check h k = refl
one_command (word ∷ words) (Sample n runs) (Sample m running) h k = one_number words n m runs running h.1 k.1
one_command (word ∷ words) (Run n p) Check h k = absurd (run_check (sym h.0 ∙ k.0))
one_command (word ∷ words) (Run n p) (Sample m running) h k = absurd (run_sample (sym h.0 ∙ k.0))
one_command (word ∷ words) Check (Run m q) h k = absurd (run_check (sym k.0 ∙ h.0))
one_command (word ∷ words) Check (Sample m running) h k = absurd (check_sample (sym h.0 ∙ k.0))
one_command (word ∷ words) (Sample n runs) (Run m q) h k = absurd (run_sample (sym k.0 ∙ h.0))
one_command (word ∷ words) (Sample n runs) Check h k = absurd (check_sample (sym k.0 ∙ h.0))

pub says_name : (word : List ℕ) (words : List (List ℕ)) (c : Command) → Says (word ∷ words) c → IsName word
says_name word words (Run n p) h = is_run h.0
says_name word words Check h = is_check h.0
says_name word words (Sample n runs) h = is_sample h.0

pub one_cause : (words : List (List ℕ)) (c d : UsageCause) → Lacks words c → Lacks words d → c ≡ d
one_cause [] c d h k = h ∙ sym k
one_cause (word ∷ words) NoCommand d h k = absurd h
one_cause (word ∷ words) UnknownCommand NoCommand h k = absurd k
one_cause (word ∷ words) BadWords NoCommand h k = absurd k
one_cause (word ∷ words) UnknownCommand UnknownCommand h k = refl
one_cause (word ∷ words) BadWords BadWords h k = refl
one_cause (word ∷ words) UnknownCommand BadWords h k = absurd (h k.0)
one_cause (word ∷ words) BadWords UnknownCommand h k = absurd (k h.0)

pub not_both : (words : List (List ℕ)) (c : Command) (cause : UsageCause) → Says words c → Lacks words cause → ⊥
not_both [] c cause h k = h
not_both (word ∷ words) c NoCommand h k = k
not_both (word ∷ words) c UnknownCommand h k = k (says_name word words c h)
not_both (word ∷ words) c BadWords h k = k.1 c h

-- what is answered of words is all that is to be said of them, but for want of memory
module _ (words : List (List ℕ)) (result : Result Command WordsRefused) (say : IfOk result (Says words)) (lack : (c : UsageCause) → result ≡ Err (Usage c) → Lacks words c) where
  pub command_said : (c : Command) → result ≡ Ok c → Says words c
  command_said c is = subst (λ (r : Result Command WordsRefused). IfOk r (Says words)) is say

  pub said_answered : (c : Command) → Says words c → (result ≡ Ok c) ⊎ (result ≡ Err NoMemory)
  said_answered c h = go result say lack
    where
      go : (r : Result Command WordsRefused) → IfOk r (Says words) → ((c : UsageCause) → r ≡ Err (Usage c) → Lacks words c) → (r ≡ Ok c) ⊎ (r ≡ Err NoMemory)
      go (Ok d) says lacks = inl (ap Ok (one_command words d c says h))
      go (Err (Usage d)) says lacks = absurd (not_both words c d h (lacks d refl))
      go (Err NoMemory) says lacks = inr refl

  pub lacking_answered : (c : UsageCause) → Lacks words c → (result ≡ Err (Usage c)) ⊎ (result ≡ Err NoMemory)
  lacking_answered c h = go result say lack
    where
      go : (r : Result Command WordsRefused) → IfOk r (Says words) → ((c : UsageCause) → r ≡ Err (Usage c) → Lacks words c) → (r ≡ Err (Usage c)) ⊎ (r ≡ Err NoMemory)
      go (Ok d) says lacks = absurd (not_both words d c says h)
      go (Err (Usage d)) says lacks = inl (ap (λ (x : UsageCause). Err (Usage x)) (one_cause words d c (lacks d refl) h))
      go (Err NoMemory) says lacks = inr refl

value_few : (words : List (List ℕ)) (m : ℕ) (rest : List (List ℕ)) → Begins words (Workers m) rest → (1 ≤ m) × (m ≤ 64)
value_few words m rest (apart text is e) = (is.low, is.high)
value_few words m rest (joined text is e) = (is.low, is.high)

few_set : (words : List (List ℕ)) (settings : List Setting) (n : ℕ) (p : PolicyName) → AreSettings words settings → ComeTo settings n p → (1 ≤ n) × (n ≤ 64)
few_set words [] n p are come = (omega (arith, come.0), omega (arith, come.0))
few_set words (Workers m ∷ []) n p are come = let few = value_few words m are.0 are.1 in (omega (arith, come.0, few.0), omega (arith, come.0, few.1))
few_set words (Policy q ∷ []) n p are come = (omega (arith, come.0), omega (arith, come.0))
few_set words (Workers m ∷ Policy q ∷ []) n p are come = let few = value_few words m are.0 are.1 in (omega (arith, come.0, few.0), omega (arith, come.0, few.1))
few_set words (Policy q ∷ Workers m ∷ []) n p are come = let few = value_few are.0 m are.2.0 are.2.1 in (omega (arith, come.0, few.0), omega (arith, come.0, few.1))
few_set words (Workers m ∷ Workers k ∷ settings) n p are come = absurd come
few_set words (Policy q ∷ Policy r ∷ settings) n p are come = absurd come
few_set words (Workers m ∷ Policy q ∷ s ∷ settings) n p are come = absurd come
few_set words (Policy q ∷ Workers m ∷ s ∷ settings) n p are come = absurd come

-- a run has from 1 to 64 workers
pub few_workers : (words : List (List ℕ)) (n : ℕ) (p : PolicyName) → Says words (Run n p) → (1 ≤ n) × (n ≤ 64)
few_workers [] n p says = absurd says
few_workers (word ∷ words) n p says = few_set words says.1.0 n p says.1.1 says.1.2
